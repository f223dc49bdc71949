-- A signed number and its bits, for every width. Assumes nothing.
use mathlib.Core.Path.{◌≡◌, refl}
use mathlib.Core.Bool.{true, false}
use Prim.Native.Nat.{ℕ, suc, ◌-◌, ◌^◌, ◌≤◌, ◌<◌}
use native.Mathlib.Omega.{arith}
use lib.IntN.{ℤ, pos, negsuc, nat_abs, ◌+ℤ◌, ◌-ℤ◌}
use mir.Facts.{to_z-of_z, to_z_pos}
use lib.Signed.{lt_z, mag}
use mir.Syntax.{Width}
use mir.Val.{SFits, bits, hbits, of_z, to_z}
use borrow.Author.Tests.{le-ltb}
use Rattle.laws.proofs.Integers.{integers, parts, same, in-range}

-- of a number below 0: one more, that turned, and its bits
pub next_fits : (w : Width) (z : ℤ) → lt_z z (pos 0) ≡ true → SFits w z → SFits w (z +ℤ pos 1)
next_fits w z t f = in-range w _ (simp parts (omega integers))

pub turned-is : (z : ℤ) → lt_z z (pos 0) ≡ true → pos 0 -ℤ (z +ℤ pos 1) ≡ pos (mag z)
turned-is (pos n) t = absurd (omega integers)
turned-is (negsuc n) t = same _ _ (simp parts (omega arith))

pub bits_is : (w : Width) (z : ℤ) → lt_z z (pos 0) ≡ true → 2 ^ bits w - 1 - mag z ≡ of_z w z
bits_is w (pos n) t = absurd (omega integers)
bits_is w (negsuc n) t = omega arith

-- a number from its upper half of bits
pub back_is : (a : ℕ) → (pos 0 -ℤ pos a) -ℤ pos 1 ≡ negsuc a
back_is a = same _ _ (simp parts (omega arith))

pub back_fits : (w : Width) (a : ℕ) → a < 2 ^ hbits w → SFits w (pos 0 -ℤ pos a)
back_fits w a h = in-range w _ (simp parts (omega arith))

pub upper : (w : Width) (x : ℕ) → 2 ^ hbits w ≤ x → to_z w x ≡ negsuc (2 ^ bits w - suc x)
upper w x h = rw (le-ltb x (2 ^ hbits w) h)

-- the four functions' last steps
pub plain-bits : (w : Width) (z : ℤ) → lt_z z (pos 0) ≡ false → nat_abs z ≡ of_z w z
plain-bits w (pos n) t = refl
plain-bits w (negsuc n) t = absurd (omega integers)

module _ (w : Width) (a : ℕ) (h : a < 2 ^ hbits w) where
  pub first_fits : SFits w (pos 0 -ℤ to_z w a)
  first_fits = rw (to_z_pos w h) (back_fits w a h)

  pub second_fits : SFits w (to_z w (of_z w (pos 0 -ℤ to_z w a)) -ℤ pos 1)
  second_fits = rw (to_z_pos w h, to_z-of_z (back_fits w a h), back_is a) (record { sfits = h })

  pub signed_is : (x : ℕ) → 2 ^ hbits w ≤ x → a ≡ 2 ^ bits w - suc x → to_z w (of_z w (to_z w (of_z w (pos 0 -ℤ to_z w a)) -ℤ pos 1)) ≡ to_z w x
  signed_is x l e = rw (to_z-of_z second_fits, to_z_pos w h, to_z-of_z (back_fits w a h), back_is a, upper w x l, e)
