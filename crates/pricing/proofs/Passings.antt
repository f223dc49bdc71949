-- Laws of a limit in ten-thousandths of a cent and of its last step. Assumes nothing.
use mathlib.Core.Path.{◌≡◌, ap, ◌∙◌}
use mathlib.Core.Bool.{true}
use Prim.Native.Nat.{ℕ, suc, ◌*◌, ◌≤◌, ◌<◌}
use native.Mathlib.Nat.{mul-le-mul_right}
use native.Mathlib.Omega.{arith}
use lib.IntN.{ℤ, pos, negsuc, neg_ℤ, nat_abs}
use lib.Signed.{◌≤ℤ◌, le_z}
use Rattle.laws.proofs.Integers.{integers, parts, abs-mul, le_order}
use Rattle.pricing.specs.Rounding.{nearest, rounded}
use Rattle.pricing.specs.Passing.{fine, cents}
use Rattle.pricing.proofs.Roundings.{round-size, round_mono, round-neg, nearest-least, nearest-size}

pub cents-mono : (x y : ℤ) → le_z x y ≡ true → le_z (cents x) (cents y) ≡ true
unfolding cents
cents-mono x y h = round_mono x y 10000 h

pub cents-size : (z : ℤ) (k : ℕ) → nat_abs z ≤ k * 10000 → nat_abs (cents z) ≤ k
unfolding cents
cents-size z k h = round-size z 10000 k (omega arith) h

pub fine-size : (z : ℤ) (k : ℕ) → nat_abs z ≤ k → nat_abs (fine z) ≤ k * 10000
fine-size z k h = omega (arith, abs-mul z (pos 10000), mul-le-mul_right 10000 h)

-- a source's own limit, which has passed no link, binds as it is
whole : (m : ℕ) → nearest (m * 10000) 10000 ≡ m
whole m =
    let d : 0 < 10000 = omega arith in
    omega (arith, nearest-least (m * 10000) 10000 m d (omega arith), nearest-size (m * 10000) 10000 m d (omega arith))

pub cents-fine : (z : ℤ) → cents (fine z) ≡ z
unfolding cents rounded
cents-fine (pos m) = ap pos (whole m)
cents-fine (negsuc m) = round-neg (suc m * 10000) 10000 (omega arith) ∙ ap (λ (k : ℕ). neg_ℤ (pos k)) (whole (suc m))

-- a cap limit is at least 0, and it may be 0: a cent over two links of factor 20,000
pub cents-above : (z : ℤ) → pos 0 ≤ℤ z → pos 0 ≤ℤ cents z
unfolding cents rounded
cents-above (pos m) h = le_order _ _ (omega arith)
cents-above (negsuc m) h = absurd (omega integers)

-- a floor limit is at most -1
pub cents-below : (z : ℤ) → z ≤ℤ negsuc 9999 → cents z ≤ℤ negsuc 0
unfolding cents
cents-below (pos m) h = absurd (omega integers)
cents-below (negsuc m) h =
    let q = nearest-least (suc m) 10000 1 (omega arith) (omega integers) in
    rw (round-neg (suc m) 10000 (omega arith)) (le_order _ _ (simp parts (omega arith)))

pub fine-above : (z : ℤ) → pos 1 ≤ℤ z → pos 1 ≤ℤ fine z
fine-above (pos m) h = le_order _ _ (omega integers)
fine-above (negsuc m) h = absurd (omega integers)

pub fine-below : (z : ℤ) → z ≤ℤ negsuc 0 → fine z ≤ℤ negsuc 9999
fine-below (pos m) h = absurd (omega integers)
fine-below (negsuc m) h = le_order _ _ (simp parts (omega arith))
