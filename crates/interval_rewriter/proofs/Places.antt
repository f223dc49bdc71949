-- No refusal of a rewriting has a place, and the book is handed back as it was lent. Assumes nothing.
use mathlib.Core.Path.{◌≡◌, refl}
use mathlib.Core.Bool.{Bool, not}
use mathlib.Core.List.{List}
use Prim.Native.Nat.{ℕ, ◌+◌}
use lib.Dec.{ltb}
use lib.ListN.{length}
use Rattle.laws.proofs.Tests.{by-test}
use Rattle.book.specs.declared.record.Book.{Book}
use Rattle.book.specs.Record.{markets_of, has_link, is_accepted}
use Rattle.book.specs.Validity.{valid}
use Rattle.book.proofs.Places.{Placeless, no_place, taken, either}
use Rattle.interval_records.specs.Layout.{head_length, length_for}
use Rattle.interval_records.specs.Record.{due_verdict, head_verdict, record_place}
use Rattle.interval_records.proofs.Places.{due-place, link-place, head-place, first-place}
use Rattle.interval_rewriter.specs.AnyOrder.{stray, region_verdict, regions_verdict, records_verdict}
use Rattle.interval_rewriter.specs.Rewriting.{rewrite_verdict, rewrite_interval}

module _ (R M : ℕ) (bytes : List ℕ) where
  region-place : (first k : ℕ) → Placeless (region_verdict R M bytes first k)
  unfolding region_verdict
  region-place first k =
      either (not (is_accepted (due_verdict 17 M bytes (record_place M first k)))) (due-place R M bytes 17 (record_place M first k))
      (either (stray R M bytes first k) (no_place 42) taken)

  records-place : (linked : Bool) (at : ℕ) → Placeless (records_verdict linked R M bytes at)
  unfolding records_verdict
  records-place linked at =
      either (not (is_accepted (head_verdict R M bytes at))) (head-place R M bytes at)
      (either (not (is_accepted (regions_verdict R M bytes (at + head_length))))
      (first-place R M bytes R 0 (region_verdict R M bytes (at + head_length)) (region-place (at + head_length)))
      (link-place R M bytes linked (record_place M (at + head_length) R)))

module _ (b : Book) (bytes : List ℕ) (at : ℕ) (buffer : List ℕ) where
  verdict-place : Placeless (rewrite_verdict b bytes at (length buffer))
  unfolding rewrite_verdict
  verdict-place =
      either (not (valid b)) (no_place 10)
      (either (ltb (length buffer) (length_for b)) (no_place 23) (records-place b.regions (markets_of b.services) bytes (has_link b) at))

  pub rewrite-place : (rewrite_interval b bytes at buffer).verdict.place ≡ 0
  unfolding rewrite_interval
  rewrite-place = by-test (is_accepted (rewrite_verdict b bytes at (length buffer))) (λ t. rw t refl) (λ t. rw t verdict-place.none)

  pub rewrite-book : (rewrite_interval b bytes at buffer).book ≡ b
  unfolding rewrite_interval
  rewrite-book = by-test (is_accepted (rewrite_verdict b bytes at (length buffer))) (λ t. rw t refl) (λ t. rw t refl)
