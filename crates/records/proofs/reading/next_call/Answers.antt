-- `records::reading::next_call` meets its contract. Assumes nothing.
use mathlib.Core.Path.{◌≡◌, sym, ap, ◌∙◌}
use native.Mathlib.Omega.{arith}
use lib.Dec.{leb}
use borrow.Author.Tests.{eqb-true}
use Rattle.std.specs.Prelude.{None}
use Rattle.records.specs.Reading.{call_size, fits, answer_size, goes}
use Rattle.records.proofs.Readings.{size-some, size-none, call-six, call-forty, lengths-small, goes_none, goes-unfit, goes-entry, goes_other, next-unplayed, next-roomless, next-played}
use Rattle.records.proofs.reading.next_call.Goals as goal
use Rattle.records.proofs.reading.next_call.Goals.{then-get_u16-eq65+else-not-fits, else-get_u16-eq65}

pub returns-in_err-call : goal.returns-in_err-call
returns-in_err-call c =
    let passed_on : c.from_residual.result ≡ None = c.from_residual.ensures in
    passed_on ∙ next-unplayed _ _ _ _ (goes_none _ _ _ _ (size-none _ (sym c.call_size.ensures ∙ c.in_err-call.was)))

pub get_u16-requires : goal.get_u16-requires
get_u16-requires c =
    let stands : call_size c.args.bytes.now c.args.at ≡ 0 → ⊥ = λ e. omega (arith, size-some _ _ (sym c.call_size.ensures ∙ c.in_ok-call.was)) in
    omega (arith, call-six _ _ stands)

pub lengths_at-lengths-requires : goal.lengths_at-lengths-requires
lengths_at-lengths-requires c =
    let stands : call_size c.args.bytes.now c.args.at ≡ 0 → ⊥ = λ e. omega (arith, size-some _ _ (sym c.call_size.ensures ∙ c.in_ok-call.was)) in
    omega (arith, call-forty _ _ stands (sym c.get_u16.ensures ∙ c.if-get_u16-eq65.true))

pub fits-requires : goal.fits-requires
fits-requires c =
    let stands : call_size c.args.bytes.now c.args.at ≡ 0 → ⊥ = λ e. omega (arith, size-some _ _ (sym c.call_size.ensures ∙ c.in_ok-call.was)) in
    let forty = call-forty _ _ stands (sym c.get_u16.ensures ∙ c.if-get_u16-eq65.true) in
    let s = lengths-small _ _ (λ i. omega (arith, c.type_inv.bytes i)) (omega (arith, forty)) _ c.lengths_at-lengths.ensures in
    (s.0, s.2, s.4)

pub returns-then-not-fits : goal.returns-then-not-fits
returns-then-not-fits c =
    let stands : call_size c.args.bytes.now c.args.at ≡ 0 → ⊥ = λ e. omega (arith, size-some _ _ (sym c.call_size.ensures ∙ c.in_ok-call.was)) in
    let fitting = c.fits.ensures ∙ ap (fits _) c.lengths_at-lengths.ensures in
    next-unplayed _ _ _ _ (goes-unfit _ _ _ _ stands (sym c.get_u16.ensures ∙ c.if-get_u16-eq65.true) (sym fitting ∙ c.if-not-fits.true))

pub answer_size-answer-requires : goal.answer_size-answer-requires
answer_size-answer-requires c =
    let stands : call_size c.args.bytes.now c.args.at ≡ 0 → ⊥ = λ e. omega (arith, size-some _ _ (sym c.call_size.ensures ∙ c.in_ok-call.was)) in
    (omega arith, call-six _ _ stands, λ e. omega (arith, call-forty _ _ stands (eqb-true _ _ e)))

pub returns-then-left-answer : goal.returns-then-left-answer
returns-then-left-answer c =
    let stands : call_size c.args.bytes.now c.args.at ≡ 0 → ⊥ = λ e. omega (arith, size-some _ _ (sym c.call_size.ensures ∙ c.in_ok-call.was)) in
    let tested : leb (answer_size c.args.bytes.now c.args.at) c.args.left ≡ goes c.args.room c.args.bytes.now c.args.at c.args.left =
    elim c.if-get_u16-eq65.branch [
      | then-get_u16-eq65+else-not-fits w ↦
          goes-entry _ _ _ _ stands (sym c.get_u16.ensures ∙ w.if-get_u16-eq65.true)
          (sym (w.fits.ensures ∙ ap (fits _) w.lengths_at-lengths.ensures) ∙ w.if-not-fits.false)
      | else-get_u16-eq65 w ↦ goes_other _ _ _ _ stands (λ e. w.if-get_u16-eq65.false (c.get_u16.ensures ∙ e))
    ] in
    next-roomless _ _ _ _ _ c.answer_size-answer.ensures tested c.if-left-answer.true

pub returns : goal.returns
returns c =
    let call = size-some _ _ (sym c.call_size.ensures ∙ c.in_ok-call.was) in
    let stands : call_size c.args.bytes.now c.args.at ≡ 0 → ⊥ = λ e. omega (arith, call) in
    let tested : leb (answer_size c.args.bytes.now c.args.at) c.args.left ≡ goes c.args.room c.args.bytes.now c.args.at c.args.left =
    elim c.if-get_u16-eq65.branch [
      | then-get_u16-eq65+else-not-fits w ↦
          goes-entry _ _ _ _ stands (sym c.get_u16.ensures ∙ w.if-get_u16-eq65.true)
          (sym (w.fits.ensures ∙ ap (fits _) w.lengths_at-lengths.ensures) ∙ w.if-not-fits.false)
      | else-get_u16-eq65 w ↦ goes_other _ _ _ _ stands (λ e. w.if-get_u16-eq65.false (c.get_u16.ensures ∙ e))
    ] in
    next-played _ _ _ _ _ c.answer_size-answer.ensures tested c.if-left-answer.false _ call.0
