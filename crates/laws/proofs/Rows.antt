-- A table that is filled row by row, and counted so. Assumes nothing.
use mathlib.Core.Path.{◌≡◌, sym, ap, ◌∙◌}
use mathlib.Core.Bool.{Bool}
use mathlib.Core.List.{List}
use Prim.Native.Nat.{ℕ, ◌+◌, ◌*◌}
use native.Mathlib.Nat.{zero-mul}
use native.Mathlib.Omega.{arith}
use lib.ListN.{length}
use lib.Seq.{sets}
use Rattle.laws.specs.Lists.{run, tabulate, count_below}
use Rattle.laws.proofs.Lists.{length_run, run-split, count_below-split}
use Rattle.laws.proofs.Bytes.{sets-append, sets-whole}

-- rows of M numbers: after r of them, row by row, what stood first has the first r × M of f stored
module _ {A : Type 0} (f : ℕ → A) (M : ℕ) where
  pub rows_none : (d : List A) → d ≡ sets d 0 (run (0 * M) 0 f)
  unfolding run
  rows_none d = rw (zero-mul M)

  pub rows_step : (d l v : List A) (r : ℕ) → l ≡ sets d 0 (run (r * M) 0 f) → v ≡ run M (r * M) f → sets l (r * M) v ≡ sets d 0 (run ((r + 1) * M) 0 f)
  rows_step d l v r e q =
      let z : 0 + r * M ≡ r * M = omega arith in
      let n : (r + 1) * M ≡ r * M + M = omega arith in
      let w : 0 + length (run (r * M) 0 f) ≡ r * M = omega (arith, length_run f (r * M) 0) in
      rw (e, q, n, run-split f (r * M) M 0, z) (sym (sets-append d 0 (run (r * M) 0 f) (run M (r * M) f) ∙ ap (λ (k : ℕ). sets (sets d 0 (run (r * M) 0 f)) k (run M (r * M) f)) w))

  pub rows-done : (d l : List A) (r R : ℕ) → l ≡ sets d 0 (run (r * M) 0 f) → r ≡ R → length d ≡ R * M → l ≡ tabulate (R * M) f
  rows-done d l r R e q h = rw q at e ∙ sets-whole d (run (R * M) 0 f) (length_run f (R * M) 0 ∙ sym h)

pub counts-none : (t : ℕ → Bool) (M : ℕ) → 0 ≡ count_below (0 * M) t
unfolding count_below
counts-none t M = rw (zero-mul M)

pub counts_step : (t : ℕ → Bool) (M r : ℕ) {n x : ℕ} → n ≡ count_below (r * M) t → x ≡ count_below M (λ k. t (r * M + k)) → n + x ≡ count_below ((r + 1) * M) t
counts_step t M r e q = let n : (r + 1) * M ≡ r * M + M = omega arith in rw (e, q, n) (sym (count_below-split (r * M) M t))
