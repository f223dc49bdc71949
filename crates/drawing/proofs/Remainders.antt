-- A remainder as the machine reads it, and less a number. Assumes nothing.
use mathlib.Core.Path.{◌≡◌}
use Prim.Native.Nat.{ℕ, ◌%◌, ◌<◌, ◌≤◌}
use native.Mathlib.Nat.{mod-lt}
use native.Mathlib.Omega.{arith}
use lib.IntN.{ℤ, pos, nat_abs, ◌-ℤ◌}
use mir.Syntax.{w32}
use mir.Val.{SFits, to_z, of_z}
use Rattle.laws.proofs.Machine.{nat, lit, ◌⊟◌, asks, exact}
use Rattle.laws.proofs.Integers.{abs-fits}

module _ (d n : ℕ) (some : 0 < n) (most : n ≤ 65536) where
  small : d % n < 65536
  small = let m : d % n < n = mod-lt d some in omega arith

  pub rest-is : to_z w32 (d % n) ≡ pos (d % n)
  rest-is = exact w32 (nat (d % n)) (omega (arith, small)) tt

  pub less-fits : (z : ℤ) → nat_abs z ≤ 65536 → SFits w32 (to_z w32 (d % n) -ℤ z)
  less-fits z h = asks w32 (nat (d % n) ⊟ lit z) (omega (arith, small), abs-fits w32 z (omega arith)) (omega (arith, small))

  pub less-is : (z : ℤ) → nat_abs z ≤ 65536 → to_z w32 (of_z w32 (to_z w32 (d % n) -ℤ z)) ≡ pos (d % n) -ℤ z
  less-is z h = exact w32 (nat (d % n) ⊟ lit z) (omega (arith, small), abs-fits w32 z (omega arith)) (omega (arith, small))
