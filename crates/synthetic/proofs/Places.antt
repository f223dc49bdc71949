-- No refusal of a test load has a place, and the book is handed back as it came. Assumes nothing.
use mathlib.Core.Path.{◌≡◌, refl, sym, subst}
use mathlib.Core.Bool.{not}
use Prim.Native.Nat.{ℕ}
use Rattle.laws.proofs.Tests.{by-test}
use Rattle.book.specs.declared.record.Book.{Book}
use Rattle.book.specs.Record.{is_accepted}
use Rattle.book.specs.Validity.{valid}
use Rattle.book.proofs.Places.{Placeless, no_place, taken, either}
use Rattle.interval_records.specs.Layout.{Interval}
use Rattle.intervals.specs.Lent.{slices_ok}
use Rattle.synthetic.specs.Synthetic.{draw_verdict, synthesized}
use Rattle.synthetic.proofs.Ways.{draw-tests}

module _ (b : Book) (s number kind : ℕ) (lent : Interval) where
  verdict-place : Placeless (draw_verdict b lent)
  verdict-place =
      subst Placeless (sym (draw-tests b lent))
      (either (not (valid b)) (no_place 10) (either (not (slices_ok b lent)) (no_place 11) taken))

  pub draw-place : (synthesized b s number kind lent).verdict.place ≡ 0
  unfolding synthesized
  draw-place = by-test (is_accepted (draw_verdict b lent)) (λ t. rw t refl) (λ t. rw t verdict-place.none)

  pub draw-book : (synthesized b s number kind lent).book ≡ b
  unfolding synthesized
  draw-book = by-test (is_accepted (draw_verdict b lent)) (λ t. rw t refl) (λ t. rw t refl)
