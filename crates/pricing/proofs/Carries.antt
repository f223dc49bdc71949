-- Laws of a limit carried over one link: the order is kept, the result is the nearest, and it stays in its bounds. `caps` tells
-- a cap limit from a floor limit. Assumes nothing.
use mathlib.Core.Path.{◌≡◌}
use mathlib.Core.Bool.{Bool, true, false}
use Prim.Native.Nat.{ℕ, suc, ◌*◌, ◌≤◌}
use native.Mathlib.Nat.{mul-le-mul_left}
use native.Mathlib.Omega.{arith}
use lib.IntN.{ℤ, pos, negsuc, nat_abs, ◌*ℤ◌}
use lib.Signed.{◌≤ℤ◌, le_z}
use Rattle.laws.specs.Base.{pick}
use Rattle.laws.proofs.Integers.{integers, parts, abs-mul, le_order}
use Rattle.laws.proofs.Orders.{times-mono}
use Rattle.pricing.specs.Rounding.{nearest, rounded, Nearest}
use Rattle.pricing.specs.Carrying.{carried, Factor}
use Rattle.pricing.proofs.Roundings.{round-law, round-only, round-size, round_mono, round-neg, nearest-least}

-- ---- the order is kept
pub carried-mono : (caps : Bool) (f : ℕ) (x y : ℤ) → le_z x y ≡ true → le_z (carried caps f x) (carried caps f y) ≡ true
unfolding carried
carried-mono true f x y h = round_mono (x *ℤ pos 10000) (y *ℤ pos 10000) f (times-mono x y 10000 h)
carried-mono false f x y h = round_mono (x *ℤ pos f) (y *ℤ pos f) 10000 (times-mono x y f h)

-- ---- the nearest to c × 10,000 / factor for a cap limit and to f × factor / 10,000 for a floor limit, and nothing else is
pub carried-law : (caps : Bool) (f : ℕ) (x : ℤ) → Factor f → Nearest (x *ℤ pos (pick caps 10000 f)) (pick caps f 10000) (carried caps f x)
unfolding carried
carried-law true f x ok = round-law (x *ℤ pos 10000) f (omega arith)
carried-law false f x ok = round-law (x *ℤ pos f) 10000 (omega arith)

pub carried-only : (caps : Bool) (f : ℕ) (x q : ℤ) → Factor f → Nearest (x *ℤ pos (pick caps 10000 f)) (pick caps f 10000) q → q ≡ carried caps f x
unfolding carried
carried-only true f x q ok r = round-only (x *ℤ pos 10000) f q (omega arith) r
carried-only false f x q ok r = round-only (x *ℤ pos f) 10000 q (omega arith) r

-- ---- a cap limit is no larger afterwards, and a floor limit at most doubled
pub carried-size : (caps : Bool) (f : ℕ) (x : ℤ) → Factor f → nat_abs (carried caps f x) ≤ pick caps 1 2 * nat_abs x
unfolding carried
carried-size true f x ok =
    omega (
      arith,
      round-size (x *ℤ pos 10000) f (nat_abs x) (omega arith)
          (omega (arith, abs-mul x (pos 10000), mul-le-mul_left (nat_abs x) ok.least)),
    )
carried-size false f x ok =
    round-size (x *ℤ pos f) 10000 (2 * nat_abs x) (omega arith) (omega (arith, abs-mul x (pos f), mul-le-mul_left (nat_abs x) ok.most))

-- a cap limit stays at least 1, of whatever unit it is in
pub cap-least : (f : ℕ) (x : ℤ) → Factor f → pos 1 ≤ℤ x → pos 1 ≤ℤ carried true f x
unfolding carried rounded
cap-least f (pos m) ok h = le_order (pos 1) (pos (nearest (m * 10000) f)) (omega (integers, nearest-least (m * 10000) f 1 (omega arith) (omega integers)))
cap-least f (negsuc m) ok h = absurd (omega integers)

-- a floor limit below 0 stays at most what it was
pub floor-most : (f : ℕ) (x : ℤ) → Factor f → x ≤ℤ negsuc 0 → carried false f x ≤ℤ x
unfolding carried
floor-most f (pos m) ok h = absurd (omega integers)
floor-most f (negsuc m) ok h =
    let q = nearest-least (suc m * f) 10000 (suc m) (omega arith) (omega (arith, mul-le-mul_left (suc m) ok.least)) in
    rw (round-neg (suc m * f) 10000 (omega arith)) (le_order _ _ (simp parts (omega arith)))

-- by either at most doubled
pub doubled : (caps : Bool) (f : ℕ) (x : ℤ) → Factor f → nat_abs (carried caps f x) ≤ 2 * nat_abs x
doubled true f x ok = omega (arith, carried-size true f x ok)
doubled false f x ok = carried-size false f x ok
