-- The first refusals of a bill: the book, the slices' lengths and the region. Assumes nothing.
use Rattle.std.specs.Prelude.{Bool, not, ◌&&◌, ℕ, ◌*◌, ltb, eqb}
use Rattle.laws.specs.Base.{pick}
use Rattle.pricing.specs.Verdict.{Verdict, accepted, refused}
use Rattle.book.specs.declared.record.Book.{Book}
use Rattle.book.specs.Record.{table_size, ring_size}
use Rattle.book.specs.Validity.{valid}
use Rattle.bill_lines.specs.declared.lent.Lengths.{Lengths}

-- 11: the book's ring and the second one, of R × M × W places each; a schedule of R × M × 2 × H prices; "four slices of one length
-- (else 11)"
abbrev pub lengths_ok : Book → Lengths → Bool
lengths_ok b n =
    eqb n.ring (ring_size b.regions b.services b.window)
    && eqb n.work n.ring
    && eqb n.schedule (table_size b.regions b.services * 2 * b.halves)
    && eqb n.energy n.numbers
    && eqb n.prices n.numbers
    && eqb n.amounts n.numbers

-- "once 10, 11 and 21 pass": the book, the lengths, the region
unfoldable pub lent_verdict : Book → Lengths → ℕ → Verdict
lent_verdict b n region =
    pick (not (valid b)) (refused 10)
    (pick (not (lengths_ok b n)) (refused 11)
    (pick (not (ltb region b.regions)) (refused 21)
    accepted))
