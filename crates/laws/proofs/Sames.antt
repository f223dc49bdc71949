-- The test that two signed numbers are the same, as the code makes it of their bits: neither is above the other. Assumes nothing.
use mathlib.Core.Path.{◌≡◌, refl, sym, ap, ◌∙◌}
use mathlib.Core.Bool.{Bool, true, false, ◌&&◌}
use native.Mathlib.Omega.{arith}
use borrow.Author.Tests.{eqb-true, eqb-false}
use lib.Dec.{eqb}
use lib.IntN.{ℤ}
use lib.Signed.{le_z}
use mir.Syntax.{Width}
use mir.Val.{SFits, of_z, to_z}
use mir.Facts.{to_z-of_z}
use Rattle.laws.proofs.Integers.{integers, le_test}
use Rattle.laws.proofs.Tests.{by-test}

pub same-bits : (w : Width) (x y : ℤ) → SFits w x → SFits w y → eqb (of_z w x) (of_z w y) ≡ (le_z x y && le_z y x)
same-bits w x y f h = by (eqb (of_z w x) (of_z w y)) refl
  where
    by : (t : Bool) → eqb (of_z w x) (of_z w y) ≡ t → t ≡ (le_z x y && le_z y x)
    by true e =
        let q : x ≡ y = sym (to_z-of_z f) ∙ ap (to_z w) (eqb-true (of_z w x) (of_z w y) e) ∙ to_z-of_z h in
        rw (q, le_test y y (omega arith)) refl
    by false e =
        let n : x ≡ y → ⊥ = λ q. eqb-false (of_z w x) (of_z w y) e (ap (of_z w) q) in
        by-test (le_z x y) (λ a. by-test (le_z y x) (λ b. absurd (n (omega integers))) (λ b. rw (a, b) refl)) (λ a. rw a refl)

-- in either order
pub and_swap : (a b : Bool) → (a && b) ≡ (b && a)
and_swap true true = refl
and_swap true false = refl
and_swap false true = refl
and_swap false false = refl
