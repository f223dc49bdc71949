-- The machine's test of whether a price changed, by its bits, is the definition's. Assumes nothing.
use mathlib.Core.Path.{◌≡◌, refl, ap}
use mathlib.Core.Bool.{Bool, true, false, not, ◌||◌}
use native.Mathlib.Omega.{arith}
use lib.Dec.{eqb}
use lib.IntN.{ℤ}
use lib.Signed.{lt_z}
use mir.Syntax.{w32}
use mir.Val.{SFits, of_z, bool_byte}
use borrow.Author.Tests.{eqb-true, eqb-false}
use Rattle.laws.specs.Base.{pick}
use Rattle.laws.proofs.Integers.{bits-same, same, test-nlt, nlt-test}
use Rattle.laws.proofs.Tests.{by-test}
use Rattle.publishing.specs.Published.{differ}

pub changed_is : {x y : ℤ} → SFits w32 x → SFits w32 y → bool_byte (not (eqb (of_z w32 x) (of_z w32 y))) ≡ pick (differ x y) 1 0
changed_is {x} {y} f g = go (eqb (of_z w32 x) (of_z w32 y)) refl
  where
    go : (t : Bool) → eqb (of_z w32 x) (of_z w32 y) ≡ t → bool_byte (not t) ≡ pick (differ x y) 1 0
    go true e =
        let s : x ≡ y = bits-same w32 f g (eqb-true _ _ e) in
        rw (s, nlt-test y y (omega arith)) refl
    go false e =
        let tests : differ x y ≡ (lt_z x y || lt_z y x) = refl in
        by-test (lt_z x y) (λ q. rw q refl)
        (λ q. by-test (lt_z y x) (λ r. rw (q, r) refl)
        (λ r. absurd (eqb-false _ _ e (ap (of_z w32) (same x y (omega (arith, test-nlt x y q, test-nlt y x r)))))))
