-- No refusal of a read has a place, and the book is handed back as it was lent. Assumes nothing.
use mathlib.Core.Path.{◌≡◌, refl}
use mathlib.Core.Bool.{not}
use mathlib.Core.List.{List}
use Prim.Native.Nat.{ℕ}
use Rattle.laws.proofs.Tests.{by-test}
use Rattle.book.specs.declared.record.Book.{Book}
use Rattle.book.specs.Record.{markets_of, has_link, is_accepted}
use Rattle.book.specs.Validity.{valid}
use Rattle.book.proofs.Places.{Placeless, no_place, either}
use Rattle.interval_records.specs.Layout.{Interval}
use Rattle.interval_records.proofs.Places.{ordered-place}
use Rattle.intervals.specs.Lent.{slices_ok}
use Rattle.intervals.specs.Reading.{read_verdict, read_interval}

module _ (b : Book) (bytes : List ℕ) (at : ℕ) (lent : Interval) where
  verdict-place : Placeless (read_verdict b lent bytes at)
  unfolding read_verdict
  verdict-place =
      either (not (valid b)) (no_place 10)
      (either (not (slices_ok b lent)) (no_place 11) (ordered-place b.regions (markets_of b.services) bytes (has_link b) at))

  pub read-place : (read_interval b bytes at lent).verdict.place ≡ 0
  unfolding read_interval
  read-place = by-test (is_accepted (read_verdict b lent bytes at)) (λ t. rw t refl) (λ t. rw t verdict-place.none)

  pub read-book : (read_interval b bytes at lent).book ≡ b
  unfolding read_interval
  read-book = by-test (is_accepted (read_verdict b lent bytes at)) (λ t. rw t refl) (λ t. rw t refl)
