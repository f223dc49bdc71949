-- What only proofs need: the first two refusals of reading and writing, and a test load's, told by the slices' lengths. Assumes nothing.
use Rattle.std.specs.Prelude.{not, ℕ}
use Rattle.laws.specs.Base.{pick}
use Rattle.pricing.specs.Verdict.{Verdict, accepted, refused}
use Rattle.book.specs.declared.record.Book.{Book}
use Rattle.book.specs.Validity.{valid}
use Rattle.intervals.specs.Lent.{lengths_ok}

-- 10, then 11
unfoldable pub lent_verdict : Book → ℕ → ℕ → ℕ → ℕ → Verdict
lent_verdict b prices marked flows factors =
    pick (not (valid b)) (refused 10)
    (pick (not (lengths_ok b prices marked flows factors)) (refused 11)
    accepted)
