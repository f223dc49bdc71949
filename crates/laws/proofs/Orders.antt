-- Laws of the order of integers, and of the smaller and the larger of integers. Assumes nothing.
use mathlib.Core.Path.{◌≡◌, refl, sym}
use mathlib.Core.Bool.{Bool, true, false}
use Prim.Native.Nat.{ℕ, suc, ◌*◌, ◌≤◌}
use native.Mathlib.Nat.{mul-le-mul_right}
use native.Mathlib.Omega.{arith}
use lib.IntN.{ℤ, pos, negsuc, neg_ℤ, ◌*ℤ◌}
use lib.Signed.{le_z}
use Rattle.laws.specs.Base.{pick, min_z, max_z}
use Rattle.laws.proofs.Integers.{integers, parts, le_test}

-- ---- a natural multiple keeps the order
pub times-mono : (x y : ℤ) (k : ℕ) → le_z x y ≡ true → le_z (x *ℤ pos k) (y *ℤ pos k) ≡ true
times-mono (pos a) (pos b) k h = let p : a ≤ b = omega integers in le_test (pos (a * k)) (pos (b * k)) (omega (arith, mul-le-mul_right k p))
times-mono (pos a) (negsuc b) k h = absurd (omega integers)
times-mono (negsuc a) (pos b) k h = le_test (neg_ℤ (pos (suc a * k))) (pos (b * k)) (simp parts (omega arith))
times-mono (negsuc a) (negsuc b) k h =
    let p : suc b ≤ suc a = omega integers in
    le_test (neg_ℤ (pos (suc a * k))) (neg_ℤ (pos (suc b * k))) (simp parts (omega (arith, mul-le-mul_right k p)))

-- ---- a function that keeps the order keeps the smaller and the larger
module _ (g : ℤ → ℤ) (mono : (x y : ℤ) → le_z x y ≡ true → le_z (g x) (g y) ≡ true) where
  picks : (x y : ℤ) → (g (min_z x y) ≡ min_z (g x) (g y)) × (g (max_z x y) ≡ max_z (g x) (g y))
  unfolding min_z max_z
  picks x y = go (le_z x y) (le_z (g x) (g y)) refl refl
    where
      go : (t u : Bool) → le_z x y ≡ t → le_z (g x) (g y) ≡ u → (g (pick t x y) ≡ pick u (g x) (g y)) × (g (pick t y x) ≡ pick u (g y) (g x))
      go true true e f = (refl, refl)
      go true false e f = let h = mono x y e in absurd (omega integers)
      go false true e f =
          let h : le_z y x ≡ true = omega integers in
          let k = mono y x h in
          let q : g x ≡ g y = omega integers in
          (sym q, q)
      go false false e f = (refl, refl)

  pub min-mono : (x y : ℤ) → g (min_z x y) ≡ min_z (g x) (g y)
  min-mono x y = (picks x y).0

  pub max-mono : (x y : ℤ) → g (max_z x y) ≡ max_z (g x) (g y)
  max-mono x y = (picks x y).1

-- ---- the smallest and the largest of three
module _ (x y z : ℤ) where
  pub min_assoc : min_z (min_z x y) z ≡ min_z x (min_z y z)
  unfolding min_z
  min_assoc = go (le_z x y) (le_z y z) (le_z x z) refl refl refl
    where
      go : (a b c : Bool) → le_z x y ≡ a → le_z y z ≡ b → le_z x z ≡ c → pick (le_z (pick a x y) z) (pick a x y) z ≡ pick (le_z x (pick b y z)) x (pick b y z)
      go true true true e f g = rw (e, g)
      go true true false e f g = absurd (omega integers)
      go true false c e f g = refl
      go false true c e f g = rw (e, f)
      go false false true e f g = absurd (omega integers)
      go false false false e f g = rw (f, g)

  pub max_assoc : max_z (max_z x y) z ≡ max_z x (max_z y z)
  unfolding max_z
  max_assoc = go (le_z x y) (le_z y z) (le_z x z) refl refl refl
    where
      go : (a b c : Bool) → le_z x y ≡ a → le_z y z ≡ b → le_z x z ≡ c → pick (le_z (pick a y x) z) z (pick a y x) ≡ pick (le_z x (pick b z y)) (pick b z y) x
      go true true true e f g = rw (f, g)
      go true true false e f g = absurd (omega integers)
      go true false c e f g = rw (e, f)
      go false true c e f g = refl
      go false false true e f g = absurd (omega integers)
      go false false false e f g = rw (e, g)
