-- "The lent book isn't altered": it is handed back as it was lent. Assumes nothing.
use mathlib.Core.Path.{◌≡◌, refl, ap, ◌∙◌}
use mathlib.Core.Bool.{Bool, true, false}
use mathlib.Core.List.{List}
use lib.Dec.{ltb}
use lib.IntN.{ℤ}
use lib.ListN.{length}
use Rattle.laws.proofs.Tests.{by-test}
use Rattle.book.specs.declared.record.Book.{Book}
use Rattle.book.specs.Record.{is_accepted}
use Rattle.bill_lines.specs.Lines.{Lines, how_long, first_wrong, first_heavy}
use Rattle.bill_lines.specs.Lent.{lent_verdict}
use Rattle.billing.specs.Billing.{Bill, Day, Outcome, judged, day_of, lengths_of, billed}
use Rattle.billing.proofs.Judging.{tests, judged-tests, billed-is}

tests-book : (b : Book) (l : Lines) (d : Day) (played heavy wrong : Bool) → (tests b l d played heavy wrong).book ≡ b
tests-book b l d false heavy wrong = refl
tests-book b l d true true wrong = refl
tests-book b l d true false true = refl
tests-book b l d true false false = refl

judged-book : (b : Book) (l : Lines) (d : Day) → (judged b l d).book ≡ b
judged-book b l d =
    ap (λ (o : Outcome). o.book) (judged-tests b l d)
    ∙ tests-book b l d (is_accepted d.verdict) (ltb (first_heavy l.energy) (length l.energy)) (ltb (first_wrong l d.shown) (how_long l d.shown))

pub bill-book : (b : Book) (ring work : List ℤ) (bill : Bill) → (billed b ring work bill).book ≡ b
bill-book b ring work bill =
    by-test (is_accepted (lent_verdict b (lengths_of ring work bill) bill.region))
    (λ t. rw (billed-is b ring work bill, t) (judged-book b bill.lines (day_of b ring bill)))
    (λ t. rw (billed-is b ring work bill, t) refl)
