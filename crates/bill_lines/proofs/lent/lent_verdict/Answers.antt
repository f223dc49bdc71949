-- `bill_lines::lent::lent_verdict` meets its contract: one law for each way out. Assumes nothing.
use mathlib.Core.Path.{◌≡◌, sym, ap, ◌∙◌}
use mathlib.Core.Bool.{Bool, true, false, ◌&&◌}
use Prim.Native.Nat.{ℕ, ◌*◌}
use borrow.Author.Tests.{lt-ltb, le-ltb}
use lib.Dec.{eqb}
use Rattle.book.specs.declared.record.Book.{Book}
use Rattle.book.specs.Record.{table_size, ring_size}
use Rattle.bill_lines.specs.declared.lent.Lengths.{Lengths}
use Rattle.bill_lines.specs.Lent.{lengths_ok}
use Rattle.bill_lines.proofs.Lents.{lent-10, lent-11, lent-21, lent-0}
use Rattle.bill_lines.proofs.lent.lent_verdict.Goals as goal

-- the lengths as the code compares them, the ring's against what another function says
abbrev compared : Book → Lengths → ℕ → Bool
compared b n ring =
    eqb n.ring ring
    && eqb n.work n.ring
    && eqb n.schedule (table_size b.regions b.services * 2 * b.halves)
    && eqb n.energy n.numbers
    && eqb n.prices n.numbers
    && eqb n.amounts n.numbers

compared_is : (b : Book) (n : Lengths) (ring : ℕ) → ring ≡ ring_size b.regions b.services b.window → compared b n ring ≡ lengths_ok b n
compared_is b n ring e = ap (compared b n) e

pub returns-then-not-valid : goal.returns-then-not-valid
returns-then-not-valid c =
    let a = c.args in
    lent-10 a.book a.lengths a.region (sym c.valid.ensures ∙ c.if-not-valid.true)

pub returns-then-not-lengths-ring : goal.returns-then-not-lengths-ring
returns-then-not-lengths-ring c =
    let a = c.args in
    let r = c.ring_size-ring in
    let l : lengths_ok a.book a.lengths ≡ false = sym (compared_is a.book a.lengths r.result r.ensures) ∙ c.if-not-lengths-ring.true in
    lent-11 a.book a.lengths a.region (sym c.valid.ensures ∙ c.if-not-valid.false) l

pub returns-then-not-region-book : goal.returns-then-not-region-book
returns-then-not-region-book c =
    let a = c.args in
    let r = c.ring_size-ring in
    let l : lengths_ok a.book a.lengths ≡ true = sym (compared_is a.book a.lengths r.result r.ensures) ∙ c.if-not-lengths-ring.false in
    lent-21 a.book a.lengths a.region (sym c.valid.ensures ∙ c.if-not-valid.false) l (le-ltb _ _ c.if-not-region-book.true)

pub returns : goal.returns
returns c =
    let a = c.args in
    let r = c.ring_size-ring in
    let l : lengths_ok a.book a.lengths ≡ true = sym (compared_is a.book a.lengths r.result r.ensures) ∙ c.if-not-lengths-ring.false in
    lent-0 a.book a.lengths a.region (sym c.valid.ensures ∙ c.if-not-valid.false) l (lt-ltb _ _ c.if-not-region-book.false)
