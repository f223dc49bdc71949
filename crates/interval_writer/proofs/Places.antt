-- No refusal of a write has a place, and the book is handed back as it was lent. Assumes nothing.
use mathlib.Core.Path.{◌≡◌, refl}
use mathlib.Core.Bool.{not}
use mathlib.Core.List.{List}
use Prim.Native.Nat.{ℕ}
use lib.Dec.{ltb}
use lib.ListN.{length}
use Rattle.laws.proofs.Tests.{by-test}
use Rattle.book.specs.declared.record.Book.{Book}
use Rattle.book.specs.Record.{is_accepted}
use Rattle.book.specs.Validity.{valid}
use Rattle.interval_records.specs.Layout.{Interval, length_for}
use Rattle.intervals.specs.Lent.{slices_ok}
use Rattle.book.proofs.Places.{Placeless, no_place, taken, either}
use Rattle.interval_writer.specs.Writing.{write_lengths, write_verdict, write_interval}

module _ (b : Book) (v : Interval) (buffer : List ℕ) where
  verdict-place : Placeless (write_verdict b v (length buffer))
  unfolding write_lengths
  verdict-place =
      either (not (valid b)) (no_place 10)
      (either (not (slices_ok b v)) (no_place 11) (either (ltb (length buffer) (length_for b)) (no_place 23) taken))

  pub write-place : (write_interval b v buffer).verdict.place ≡ 0
  unfolding write_interval
  write-place = by-test (is_accepted (write_verdict b v (length buffer))) (λ t. rw t refl) (λ t. rw t verdict-place.none)

  pub write-book : (write_interval b v buffer).book ≡ b
  unfolding write_interval
  write-book = by-test (is_accepted (write_verdict b v (length buffer))) (λ t. rw t refl) (λ t. rw t refl)
