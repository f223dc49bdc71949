-- The bits of a signed number as the code makes them, for every width. Assumes nothing.
use mathlib.Core.Path.{◌≡◌, refl}
use mathlib.Core.Bool.{true, false}
use Prim.Native.Nat.{◌+◌, ◌-◌, ◌^◌, ◌≤◌}
use native.Mathlib.Omega.{arith}
use lib.Dec.{T}
use lib.IntN.{ℤ, pos, nat_abs, ◌+ℤ◌, ◌-ℤ◌}
use lib.Signed.{lt_z, non_neg, mag}
use mir.Syntax.{Width, w8, w16, w32, w64, w128}
use mir.Val.{Fits, SFits, bits, hbits, of_z, to_z}
use mir.Facts.{to_z-of_z}
use Rattle.laws.proofs.Integers.{integers, cast-asks}
use Rattle.laws.proofs.Twos.{next_fits, turned-is, bits_is, plain-bits}

-- the sign takes a bit
half : (w : Width) → 2 ^ hbits w + 2 ^ hbits w ≡ 2 ^ bits w
half w8 = refl
half w16 = refl
half w32 = refl
half w64 = refl
half w128 = refl

-- -(z + 1), as it is read
abbrev turned : Width → ℤ → ℤ
turned w z = to_z w (of_z w (pos 0 -ℤ to_z w (of_z w (to_z w (of_z w z) +ℤ pos 1))))

-- of a number below 0
module _ (w : Width) (z : ℤ) (f : SFits w z) (t : lt_z (to_z w (of_z w z)) (pos 0) ≡ true) where
  below : lt_z z (pos 0) ≡ true
  below = rw (to_z-of_z f) at t

  pub one-fits : SFits w (to_z w (of_z w z) +ℤ pos 1)
  one-fits = rw (to_z-of_z f) (next_fits w z below f)

  pub turned-fits : SFits w (pos 0 -ℤ to_z w (of_z w (to_z w (of_z w z) +ℤ pos 1)))
  turned-fits = rw (to_z-of_z one-fits, to_z-of_z f, turned-is z below) (record { sfits = f.sfits })

  turned-mag : turned w z ≡ pos (mag z)
  turned-mag = rw (to_z-of_z turned-fits, to_z-of_z one-fits, to_z-of_z f) (turned-is z below)

  pub turned-casts : T (non_neg (turned w z)) × Fits w (nat_abs (turned w z))
  turned-casts = rw turned-mag (tt, record { fits = omega (arith, f.sfits, half w) })

  pub turned-room : nat_abs (turned w z) ≤ 2 ^ bits w - 1
  turned-room = omega (arith, turned-casts.1.fits)

  pub turned-bits : 2 ^ bits w - 1 - nat_abs (turned w z) ≡ of_z w z
  turned-bits = rw turned-mag (bits_is w z below)

-- of one that is not
module _ (w : Width) (z : ℤ) (f : SFits w z) (t : lt_z (to_z w (of_z w z)) (pos 0) ≡ false) where
  above : lt_z z (pos 0) ≡ false
  above = rw (to_z-of_z f) at t

  pub plain-casts : T (non_neg (to_z w (of_z w z))) × Fits w (nat_abs (to_z w (of_z w z)))
  plain-casts = rw (to_z-of_z f) (cast-asks w z (omega (integers, above, half w)))

  pub plain-are : nat_abs (to_z w (of_z w z)) ≡ of_z w z
  plain-are = rw (to_z-of_z f) (plain-bits w z above)
