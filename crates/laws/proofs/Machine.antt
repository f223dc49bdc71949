-- A whole expression of signed numbers at once: what the machine computes, with what it reads and writes at each operation, is the integer that the source's expression stands for.
-- `w` is the width of the operations, w64 for i64. Assumes nothing.
use mathlib.Core.Path.{◌≡◌, refl}
use Prim.Native.Nat.{ℕ, ◌+◌, ◌*◌, ◌^◌, ◌≤◌, ◌<◌}
use native.Mathlib.Nat.{le_trans, le_of_eq, mul-le-mul}
use native.Mathlib.Omega.{arith}
use lib.Dec.{T, leb}
use lib.IntN.{ℤ, pos, nat_abs, ◌+ℤ◌, ◌-ℤ◌, ◌*ℤ◌}
use lib.Signed.{quot_z, ◌≤ℤ◌}
use mir.Syntax.{Width, w32}
use mir.Val.{SFits, hbits, to_z, of_z}
use mir.Facts.{to_z-of_z, to_z_pos, sfits_widen}
use Rattle.laws.proofs.Integers.{abs-fits, abs-add, abs-sub, abs-mul, div-asks}

infixl 6 ◌⊞◌ ◌⊟◌
infixl 7 ◌⊠◌
-- a local of the operations' type, an i32 and an unsigned number that are cast to it, a literal, and the three operations
pub data Exp : Type 0 where
  own : ℤ → Exp
  int : ℤ → Exp
  nat : ℕ → Exp
  lit : ℤ → Exp
  ◌⊞◌ : Exp → Exp → Exp
  ◌⊟◌ : Exp → Exp → Exp
  ◌⊠◌ : Exp → Exp → Exp

-- the integer that it stands for
abbrev pub val : Exp → ℤ
val (own z) = z
val (int z) = z
val (nat n) = pos n
val (lit z) = z
val (a ⊞ b) = val a +ℤ val b
val (a ⊟ b) = val a -ℤ val b
val (a ⊠ b) = val a *ℤ val b

-- a bound on its size
abbrev pub size : Exp → ℕ
size (own z) = nat_abs z
size (int z) = nat_abs z
size (nat n) = n
size (lit z) = nat_abs z
size (a ⊞ b) = size a + size b
size (a ⊟ b) = size a + size b
size (a ⊠ b) = size a * size b

pub bound : (e : Exp) → nat_abs (val e) ≤ size e
bound (own z) = omega arith
bound (int z) = omega arith
bound (nat n) = omega arith
bound (lit z) = omega arith
bound (a ⊞ b) = omega (arith, abs-add (val a) (val b), bound a, bound b)
bound (a ⊟ b) = omega (arith, abs-sub (val a) (val b), bound a, bound b)
bound (a ⊠ b) = le_trans (le_of_eq (abs-mul (val a) (val b))) (mul-le-mul (bound a) (bound b))

-- what the machine reads where it stands
abbrev pub seen : Width → Exp → ℤ
seen w (own z) = to_z w (of_z w z)
seen w (int z) = to_z w (of_z w (to_z w32 (of_z w32 z)))
seen w (nat n) = to_z w n
seen w (lit z) = z
seen w (a ⊞ b) = to_z w (of_z w (seen w a +ℤ seen w b))
seen w (a ⊟ b) = to_z w (of_z w (seen w a -ℤ seen w b))
seen w (a ⊠ b) = to_z w (of_z w (seen w a *ℤ seen w b))

-- what its last operation yields, before it is written
abbrev pub made : Width → Exp → ℤ
made w (own z) = z
made w (int z) = to_z w32 (of_z w32 z)
made w (nat n) = pos n
made w (lit z) = z
made w (a ⊞ b) = seen w a +ℤ seen w b
made w (a ⊟ b) = seen w a -ℤ seen w b
made w (a ⊠ b) = seen w a *ℤ seen w b

-- what is to be known of its leaves, which `search needs` finds
abbrev pub Leaves : Width → Exp → Type 0
Leaves w (own z) = SFits w z
Leaves w (int z) = SFits w32 z × T (leb 31 (hbits w))
Leaves w (nat n) = n < 2 ^ hbits w
Leaves w (lit z) = SFits w z
Leaves w (a ⊞ b) = Leaves w a × Leaves w b
Leaves w (a ⊟ b) = Leaves w a × Leaves w b
Leaves w (a ⊠ b) = Leaves w a × Leaves w b

-- and of its sizes, which `omega` proves, all at once
abbrev pub Room : Width → Exp → Type 0
Room w (own z) = Unit {0}
Room w (int z) = Unit {0}
Room w (nat n) = Unit {0}
Room w (lit z) = Unit {0}
Room w (a ⊞ b) = (size a + size b < 2 ^ hbits w) × (Room w a × Room w b)
Room w (a ⊟ b) = (size a + size b < 2 ^ hbits w) × (Room w a × Room w b)
Room w (a ⊠ b) = (size a * size b < 2 ^ hbits w) × (Room w a × Room w b)

fits : (w : Width) (e : Exp) → size e < 2 ^ hbits w → SFits w (val e)
fits w e h = abs-fits w (val e) (omega (arith, bound e))

-- what it yields is the integer: for `returns`, and for a test, by `rw (exact ..) at c.if1.taken`
pub exact : (w : Width) (e : Exp) → Leaves w e → Room w e → seen w e ≡ val e
exact w (own z) l r = to_z-of_z l
exact w (int z) l r = rw (to_z-of_z l.0) (to_z-of_z (sfits_widen l.1 l.0))
exact w (nat n) l r = to_z_pos w l
exact w (lit z) l r = refl
exact w (a ⊞ b) l r = rw (exact w a l.0 r.1.0, exact w b l.1 r.1.1) (to_z-of_z (fits w (a ⊞ b) r.0))
exact w (a ⊟ b) l r = rw (exact w a l.0 r.1.0, exact w b l.1 r.1.1) (to_z-of_z (fits w (a ⊟ b) r.0))
exact w (a ⊠ b) l r = rw (exact w a l.0 r.1.0, exact w b l.1 r.1.1) (to_z-of_z (fits w (a ⊠ b) r.0))

-- what its last operation, or its cast, asks: for the needs `add-`, `sub-`, `mul-` and `cast-`
pub asks : (w : Width) (e : Exp) → Leaves w e → Room w e → SFits w (made w e)
asks w (own z) l r = l
asks w (int z) l r = rw (to_z-of_z l.0) (sfits_widen l.1 l.0)
asks w (nat n) l r = abs-fits w (pos n) (omega (arith, l))
asks w (lit z) l r = l
asks w (a ⊞ b) l r = rw (exact w a l.0 r.1.0, exact w b l.1 r.1.1) (fits w (a ⊞ b) r.0)
asks w (a ⊟ b) l r = rw (exact w a l.0 r.1.0, exact w b l.1 r.1.1) (fits w (a ⊟ b) r.0)
asks w (a ⊠ b) l r = rw (exact w a l.0 r.1.0, exact w b l.1 r.1.1) (fits w (a ⊠ b) r.0)

-- the integer fits
pub stands : (w : Width) (e : Exp) → Leaves w e → Room w e → SFits w (val e)
stands w (own z) l r = l
stands w (int z) l r = sfits_widen l.1 l.0
stands w (nat n) l r = abs-fits w (pos n) (omega (arith, l))
stands w (lit z) l r = l
stands w (a ⊞ b) l r = fits w (a ⊞ b) r.0
stands w (a ⊟ b) l r = fits w (a ⊟ b) r.0
stands w (a ⊠ b) l r = fits w (a ⊠ b) r.0

made-is : (w : Width) (e : Exp) → Leaves w e → Room w e → made w e ≡ val e
made-is w (own z) l r = refl
made-is w (int z) l r = to_z-of_z l.0
made-is w (nat n) l r = refl
made-is w (lit z) l r = refl
made-is w (a ⊞ b) l r = rw (exact w a l.0 r.1.0, exact w b l.1 r.1.1)
made-is w (a ⊟ b) l r = rw (exact w a l.0 r.1.0, exact w b l.1 r.1.1)
made-is w (a ⊠ b) l r = rw (exact w a l.0 r.1.0, exact w b l.1 r.1.1)

-- `a / b` at a divisor above 0: what it asks, and what it yields
module _ (w : Width) (a b : Exp) (la : Leaves w a) (ra : Room w a) (lb : Leaves w b) (rb : Room w b) (above : pos 1 ≤ℤ val b) where
  pub div-needs : (0 < of_z w (made w b)) × SFits w (quot_z (seen w a) (seen w b))
  div-needs = rw (made-is w b lb rb, exact w a la ra, exact w b lb rb) (div-asks w (val a) (val b) (stands w a la ra) above)

  pub div-exact : to_z w (of_z w (quot_z (seen w a) (seen w b))) ≡ quot_z (val a) (val b)
  div-exact = rw (exact w a la ra, exact w b lb rb) (to_z-of_z (div-asks w (val a) (val b) (stands w a la ra) above).1)
