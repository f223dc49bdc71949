-- The window of market q as a slice of the ring. Assumes nothing.
use mathlib.Core.Path.{◌≡◌, ap, ◌∙◌}
use mathlib.Core.List.{List}
use Prim.Native.Nat.{ℕ, suc, ◌+◌, ◌*◌, ◌-◌, ◌<◌, ◌≤◌}
use native.Mathlib.Nat.{suc-mul}
use native.Mathlib.Omega.{arith}
use borrow.Rule.Slice.PartMut.{put_mid}
use lib.IntN.{ℤ}
use lib.ListN.{length, take, drop}
use lib.Seq.{sets}
use Rattle.book.specs.declared.record.Book.{Book}
use Rattle.head.specs.Counted.{count_at, oldest_at, window_of, in_order}
use Rattle.image.specs.Loading.{ring_of, loaded_window}
use Rattle.image.specs.Storing.{window_ok}
use Rattle.image.proofs.Walks.{Market}
use Rattle.image.proofs.Runs.{slice-length, slice-window, slice-ok, mid-sets}

module _ (b : Book) (q : ℕ) (here : Market b q) (ring : List ℤ) (sized : length ring ≡ ring_of b) where
  abbrev wide : ℕ
  wide = (q + 1) * b.window - q * b.window

  abbrev slice : List ℤ
  slice = take wide (drop (q * b.window) ring)

  is-wide : wide ≡ b.window
  is-wide = let j : q + 1 ≡ suc q = omega arith in omega (arith, ap (λ (k : ℕ). k * b.window) j, suc-mul q b.window)

  within : q * b.window + b.window ≤ length ring
  within = omega (arith, here.base, sized)

  pub window-length : length slice ≡ b.window
  window-length = slice-length ring (q * b.window) wide b.window 0 0 is-wide within here.some (omega arith) (omega arith)

  module _ (s : ℕ) (e : s ≡ oldest_at b q) where
    pub in-window : (0 < length slice) × (s ≤ length slice) × (count_at b q ≤ length slice)
    in-window = (omega (arith, window-length, here.some), omega (arith, window-length, here.oldest), omega (arith, window-length, here.count))

    pub window-order : window_of slice 0 (length slice) s (count_at b q) ≡ in_order b ring q
    window-order =
        slice-window ring (q * b.window) wide b.window s (count_at b q) is-wide within here.some (omega (arith, here.oldest)) here.count
        ∙ ap (λ (k : ℕ). window_of ring (q * b.window) b.window k (count_at b q)) e

    pub window-ok : (market : ℕ) (sum : ℤ) → window_ok slice 0 (length slice) s (count_at b q) market sum ≡ window_ok ring (q * b.window) b.window (oldest_at b q) (count_at b q) market sum
    window-ok market sum =
        slice-ok ring (q * b.window) wide b.window s (count_at b q) is-wide within here.some (omega (arith, here.oldest)) here.count market sum
        ∙ ap (λ (k : ℕ). window_ok ring (q * b.window) b.window k (count_at b q) market sum) e

  -- a loaded window put back
  pub window-back : (l : List ℕ) (from : ℕ) (new : List ℤ) → length new ≡ length slice → new ≡ loaded_window l (length slice) (count_at b q) from
      → put_mid (q * b.window) wide ring new ≡ sets ring (q * b.window) (loaded_window l b.window (count_at b q) from)
  window-back l from new k e =
      mid-sets ring new (q * b.window) wide (omega (arith, k, window-length, is-wide)) (omega (arith, within, is-wide))
      ∙ ap (sets ring (q * b.window)) (e ∙ ap (λ (n : ℕ). loaded_window l n (count_at b q) from) window-length)
