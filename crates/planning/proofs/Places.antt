-- No refusal of the question has a place, and the book is handed back as it was lent. Assumes nothing.
use mathlib.Core.Path.{◌≡◌, refl, subst}
use mathlib.Core.Bool.{not}
use mathlib.Core.List.{List}
use Prim.Native.Nat.{ℕ}
use lib.Dec.{eqb}
use lib.IntN.{ℤ}
use lib.ListN.{length}
use Rattle.laws.proofs.Tests.{by-test}
use Rattle.pricing.specs.Holding.{is_energy, in_range}
use Rattle.book.specs.declared.record.Book.{Book}
use Rattle.book.specs.Record.{ring_size, is_accepted}
use Rattle.book.specs.Validity.{valid}
use Rattle.book.proofs.Places.{Placeless, no_place, taken, either}
use Rattle.book_calls.specs.Report.{report_verdict}
use Rattle.image.specs.Storing.{prices_ok}
use Rattle.planning.specs.Left.{left_verdict, intervals_left}
use Rattle.planning.proofs.Ways.{verdict-tests}

module _ (b : Book) (ring : List ℤ) (region market : ℕ) (price : ℤ) where
  verdict-place : Placeless (left_verdict b ring region market price)
  verdict-place =
      subst Placeless (verdict-tests b ring region market price)
      (either (not (valid b)) (no_place 10)
      (either (not (eqb (length ring) (ring_size b.regions b.services b.window))) (no_place 11)
      (either (not (is_accepted (report_verdict b.regions b.services region market))) (no_place 21)
      (either (not (prices_ok b ring)) (no_place 22)
      (either (not (in_range (is_energy market) price)) (no_place 43)
      taken)))))

  pub left-place : (intervals_left b ring region market price).verdict.place ≡ 0
  unfolding intervals_left
  left-place = by-test (is_accepted (left_verdict b ring region market price)) (λ t. rw t refl) (λ t. rw t verdict-place.none)

  pub left-book : (intervals_left b ring region market price).book ≡ b
  unfolding intervals_left
  left-book = by-test (is_accepted (left_verdict b ring region market price)) (λ t. rw t refl) (λ t. rw t refl)
