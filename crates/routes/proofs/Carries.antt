-- A limit may be carried over a link before or after the tighter of two is taken, and of three the order does not matter.
-- Assumes nothing.
use Rattle.std.specs.Prelude.{Option, Some, None}
use mathlib.Core.Path.{◌≡◌, refl, ap}
use mathlib.Core.Bool.{Bool, true, false}
use Prim.Native.Nat.{ℕ}
use lib.Dec.{eqb}
use lib.IntN.{ℤ}
use Rattle.laws.specs.Base.{pick, min_z, max_z}
use Rattle.laws.proofs.Orders.{min-mono, max-mono, min_assoc, max_assoc}
use Rattle.pricing.specs.Carrying.{carried}
use Rattle.pricing.proofs.Carries.{carried-mono}
use Rattle.routes.specs.Limits.{tighter, over}

carried-pick : (caps : Bool) (f : ℕ) (x y : ℤ) → carried caps f (pick caps (min_z x y) (max_z x y)) ≡ pick caps (min_z (carried caps f x) (carried caps f y)) (max_z (carried caps f x) (carried caps f y))
carried-pick true f x y = min-mono (carried true f) (carried-mono true f) x y
carried-pick false f x y = max-mono (carried false f) (carried-mono false f) x y

-- over a link, the tighter of two limits is the tighter of what the two become
pub over-tighter : (caps : Bool) (f : ℕ) (a b : Option ℤ) → over caps f (tighter caps a b) ≡ tighter caps (over caps f a) (over caps f b)
unfolding tighter over
over-tighter caps f None b = refl
over-tighter caps f (Some x) None = go (eqb f 0)
  where
    go : (t : Bool) → pick t None (Some (carried caps f x)) ≡ tighter caps (pick t None (Some (carried caps f x))) None
    go true = refl
    go false = refl
over-tighter caps f (Some x) (Some y) = go (eqb f 0)
  where
    go : (t : Bool) → pick t None (Some (carried caps f (pick caps (min_z x y) (max_z x y)))) ≡ tighter caps (pick t None (Some (carried caps f x))) (pick t None (Some (carried caps f y)))
    go true = refl
    go false = ap Some (carried-pick caps f x y)

pub tighter-assoc : (caps : Bool) (a b c : Option ℤ) → tighter caps (tighter caps a b) c ≡ tighter caps a (tighter caps b c)
unfolding tighter
tighter-assoc caps None b c = refl
tighter-assoc caps (Some x) None c = refl
tighter-assoc caps (Some x) (Some y) None = refl
tighter-assoc true (Some x) (Some y) (Some z) = ap Some (min_assoc x y z)
tighter-assoc false (Some x) (Some y) (Some z) = ap Some (max_assoc x y z)
