-- `records::reading::call_size` meets its contract. Assumes nothing.
use mathlib.Core.Path.{◌≡◌, sym, ap, ◌∙◌}
use Prim.Native.Nat.{ℕ, ◌-◌, ◌≤◌, ◌<◌}
use native.Mathlib.Omega.{arith}
use lib.ListN.{length}
use Rattle.records.specs.Reading.{size_at, kind_at, size_for}
use Rattle.records.specs.Working.{some_size}
use Rattle.records.proofs.Readings.{sized, size-some, size-none, call-short, call-cut, call-whole, call-other, call-unknown}
use Rattle.records.proofs.reading.call_size.Goals as goal

pub returns-then-left-lt6 : goal.returns-then-left-lt6
returns-then-left-lt6 c = ap some_size (call-short _ _ c.if-left-lt6.true)

pub returns-then-left-size : goal.returns-then-left-size
returns-then-left-size c =
    let cut : let a = c.args in length a.bytes.now - a.at < size_at a.bytes.now a.at = (let a = c.args in
    let l : length a.bytes.now - a.at < c.get_u32-size.result = c.if-left-size.true in
    rw c.get_u32-size.ensures at l) in
    ap some_size (call-cut _ _ c.if-left-lt6.false (cut))

pub returns-in_err-size_for : goal.returns-in_err-size_for
returns-in_err-size_for c =
    let kind-size : let a = c.args in c.size_for.result ≡ some_size (size_for a.bytes.now a.at (kind_at a.bytes.now a.at)) = (let a = c.args in c.size_for.ensures ∙ ap (λ (k : ℕ). some_size (size_for a.bytes.now a.at k)) c.get_u16.ensures) in
    c.from_residual.ensures ∙ ap some_size (call-unknown _ _ (size-none _ (sym kind-size ∙ c.in_err-size_for.was)))

pub returns-then-branch-size : goal.returns-then-branch-size
returns-then-branch-size c =
    let whole : let a = c.args in size_at a.bytes.now a.at ≤ length a.bytes.now - a.at = (let a = c.args in
    let l : c.get_u32-size.result ≤ length a.bytes.now - a.at = c.if-left-size.false in
    rw c.get_u32-size.ensures at l) in
    let kind-size : let a = c.args in c.size_for.result ≡ some_size (size_for a.bytes.now a.at (kind_at a.bytes.now a.at)) = (let a = c.args in c.size_for.ensures ∙ ap (λ (k : ℕ). some_size (size_for a.bytes.now a.at k)) c.get_u16.ensures) in
    let known = size-some _ _ (sym kind-size ∙ c.in_ok-size_for.was) in
    ap some_size (call-other _ _ c.if-left-lt6.false (whole) (λ q. c.if-branch-size.true (known.0 ∙ sym q ∙ sym c.get_u32-size.ensures)))

pub returns : goal.returns
returns c =
    let whole : let a = c.args in size_at a.bytes.now a.at ≤ length a.bytes.now - a.at = (let a = c.args in
    let l : c.get_u32-size.result ≤ length a.bytes.now - a.at = c.if-left-size.false in
    rw c.get_u32-size.ensures at l) in
    let kind-size : let a = c.args in c.size_for.result ≡ some_size (size_for a.bytes.now a.at (kind_at a.bytes.now a.at)) = (let a = c.args in c.size_for.ensures ∙ ap (λ (k : ℕ). some_size (size_for a.bytes.now a.at k)) c.get_u16.ensures) in
    let known = size-some _ _ (sym kind-size ∙ c.in_ok-size_for.was) in
    sized _ _ (c.get_u32-size.ensures ∙ call-whole _ _ c.if-left-lt6.false (whole) (sym c.get_u32-size.ensures ∙ sym c.if-branch-size.false ∙ known.0)) (omega (arith, known.1, c.if-branch-size.false))
