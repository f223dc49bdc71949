-- Verdicts without a place. Assumes nothing.
use mathlib.Core.Path.{◌≡◌, refl}
use mathlib.Core.Bool.{Bool, true, false}
use Prim.Native.Nat.{ℕ}
use Rattle.laws.specs.Base.{pick}
use Rattle.pricing.specs.Verdict.{Verdict, accepted, refused}

pub record Placeless (v : Verdict) : Type 0 where
  pub none : v.place ≡ 0

-- a refusal without a place, an acceptance, and a choice of two such
pub no_place : (n : ℕ) → Placeless (refused n)
no_place n = record { none = refl }

pub taken : Placeless accepted
taken = record { none = refl }

pub either : (t : Bool) {v w : Verdict} → Placeless v → Placeless w → Placeless (pick t v w)
either true a b = a
either false a b = b
