-- `publishing::in_cents` meets its contract. Assumes nothing.
use mathlib.Core.Path.{◌≡◌, ap, ◌∙◌}
use Prim.Native.Nat.{◌≤◌}
use native.Mathlib.Omega.{arith}
use lib.IntN.{ℤ, nat_abs}
use mir.Syntax.{w32, w64}
use mir.Val.{SFits, to_z, of_z}
use mir.Facts.{to_z-of_z}
use Rattle.std.specs.Prelude.{Some}
use Rattle.pricing.specs.Passing.{cents}
use Rattle.pricing.proofs.Passings.{cents-size}
use Rattle.laws.proofs.Integers.{abs-fits, narrow-asks, narrow-is}
use Rattle.publishing.proofs.Limits.{fine-at, cents-none, cents_at}
use Rattle.publishing.proofs.in_cents.Goals as goal

-- a limit that is not too large fits in cents
cents-fits : (z : ℤ) {q : ℤ} → nat_abs z ≤ 12800000000000 → q ≡ cents (to_z w64 (of_z w64 z)) → SFits w32 q × (q ≡ cents z)
cents-fits z h e =
    let f : SFits w64 z = abs-fits w64 z (omega (arith, h)) in
    let found = rw (to_z-of_z f) at e in
    (rw found (abs-fits w32 (cents z) (omega (arith, cents-size z 1280000000 (omega (arith, h))))), found)

pub returns-in_err-z : goal.returns-in_err-z
returns-in_err-z c = c.from_residual.ensures ∙ cents-none c.in_err-z.was

pub overflow_cast-result : goal.overflow_cast-result
overflow_cast-result c = narrow-asks (cents-fits c.in_ok-z.z (fine-at c.in_ok-z.was c.requires) c.cents.ensures).0

pub returns : goal.returns
returns c =
    let found = cents-fits c.in_ok-z.z (fine-at c.in_ok-z.was c.requires) c.cents.ensures in
    ap Some (narrow-is found.0 ∙ found.1) ∙ cents_at c.in_ok-z.was
