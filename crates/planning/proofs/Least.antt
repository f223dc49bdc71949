-- The number of intervals left, in logical form. Assumes nothing.
use mathlib.Core.Path.{◌≡◌, refl, sym, ◌∙◌, subst}
use mathlib.Core.Bool.{Bool, true, false}
use mathlib.Core.List.{List}
use mathlib.Core.Logic.{⊎_elim}
use Prim.Native.Nat.{ℕ, suc, ◌+◌, ◌-◌, ◌≤◌, ◌<◌}
use native.Mathlib.Omega.{arith}
use borrow.Author.Tests.{ltb-true, ltb-false, lt-ltb, le-ltb}
use lib.Dec.{ltb}
use lib.IntN.{ℤ}
use Rattle.laws.specs.Base.{pick}
use Rattle.laws.specs.Lists.{first_below}
use Rattle.laws.proofs.Tests.{by-test, lt-or-ge}
use Rattle.laws.proofs.Lists.{first_below-found, first_below-none, first_below-passed, first_below-hit}
use Rattle.planning.specs.Left.{exceeds, least_above, Least}

module _ (W : ℕ) (window : List ℤ) (price threshold : ℤ) where
  abbrev test : ℕ → Bool
  test k = exceeds W window price threshold (suc k)

  abbrev first : ℕ
  first = first_below W test

  pub least-is : (n : ℕ) → least_above W window price threshold ≡ suc n → Least W window price threshold (suc n)
  unfolding least_above
  least-is n e =
      by-test (ltb first W)
      (λ t. let l : first < W = ltb-true first W t in
      let q : first ≡ n = omega (arith, subst (λ (b : Bool). pick b (suc first) 0 ≡ suc n) t e) in
      record {
        some = omega arith;
        most = omega arith;
        above = subst (λ (k : ℕ). test k ≡ true) q (first_below-hit W test l);
        fewer = λ k a b. let z : k ≡ suc (k - 1) = omega arith in subst (λ (i : ℕ). exceeds W window price threshold i ≡ false) (sym z) (first_below-passed W test (k - 1) (omega arith));
      })
      (λ t. absurd (omega (arith, subst (λ (b : Bool). pick b (suc first) 0 ≡ suc n) t e)))

  pub none_is : least_above W window price threshold ≡ 0 → (k : ℕ) → 1 ≤ k → k ≤ W → exceeds W window price threshold k ≡ false
  unfolding least_above
  none_is e k a b =
      by-test (ltb first W)
      (λ t. absurd (omega (arith, subst (λ (b : Bool). pick b (suc first) 0 ≡ 0) t e)))
      (λ t. let z : k ≡ suc (k - 1) = omega arith in
      let l : W ≤ first = ltb-false first W t in
      subst (λ (i : ℕ). exceeds W window price threshold i ≡ false) (sym z) (first_below-passed W test (k - 1) (omega arith)))

  -- ---- the search from 1 upward: none of the first n numbers does
  abbrev pub NoneTo : ℕ → Type 0
  NoneTo n = (k : ℕ) → k < n → test k ≡ false

  pub none-start : NoneTo 0
  none-start k h = absurd (omega arith)

  pub none-step : (n : ℕ) → NoneTo n → test n ≡ false → NoneTo (n + 1)
  none-step n all e k h =
      ⊎_elim (λ (l : k < n). all k l)
      (λ (l : n ≤ k). let z : k ≡ n = omega arith in rw z e)
      (lt-or-ge k n)

  pub least-found : (n : ℕ) → n < W → NoneTo n → test n ≡ true → n + 1 ≡ least_above W window price threshold
  unfolding least_above
  least-found n l all e = let z : first ≡ n = first_below-found W n test l all e in rw (z, lt-ltb n W l) (omega arith)

  pub least-none : NoneTo W → 0 ≡ least_above W window price threshold
  unfolding least_above
  least-none all = let z : first ≡ W = first_below-none W test all in rw (z, le-ltb W W (omega arith)) refl

  -- ---- and the other way: a number that is the least is the answer, and where there is none the answer is 0
  pub is-least : (n : ℕ) → Least W window price threshold n → least_above W window price threshold ≡ n
  is-least n h =
      let z : suc (n - 1) ≡ n = omega (arith, h.some) in
      sym (least-found (n - 1) (omega (arith, h.some, h.most)) (λ k l. h.fewer (suc k) (omega arith) (omega arith))
      (subst (λ (k : ℕ). exceeds W window price threshold k ≡ true) (sym z) h.above))
      ∙ omega (arith, h.some)

  pub is_none : ((k : ℕ) → 1 ≤ k → k ≤ W → exceeds W window price threshold k ≡ false) → least_above W window price threshold ≡ 0
  is_none h = sym (least-none (λ k l. h (suc k) (omega arith) (omega arith)))
