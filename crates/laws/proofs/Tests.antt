-- Tests and what they decide. Assumes nothing.
use mathlib.Core.Path.{◌≡◌, refl, sym, subst, ◌∙◌}
use mathlib.Core.Bool.{Bool, true, false, not, ◌&&◌, ◌||◌}
use mathlib.Core.Logic.{◌⊎◌, inl, inr}
use Prim.Native.Nat.{ℕ, ◌<◌, ◌≤◌}
use lib.Dec.{T, ltb}
use borrow.Author.Tests.{ltb-true, ltb-false}

pub is_true : (t : Bool) → T t → t ≡ true
is_true true h = refl
is_true false h = absurd h

pub true-is : {t : Bool} → t ≡ true → T t
true-is e = subst T (sym e) tt

-- no test both holds and fails
pub never {ℓ} : {X : Type ℓ} (t : Bool) → t ≡ true → t ≡ false → X
never t p q = absurd (true-is (sym q ∙ p))

-- both parts of a test that holds
pub and_left : (a b : Bool) → (a && b) ≡ true → a ≡ true
and_left true b e = refl
and_left false b e = e

pub and_right : (a b : Bool) → (a && b) ≡ true → b ≡ true
and_right true b e = e
and_right false b e = absurd (subst T (sym e) tt)

-- a test of which one part holds
pub or_left : (a b : Bool) → a ≡ true → (a || b) ≡ true
or_left true b e = refl
or_left false b e = absurd (true-is e)

pub or_right : (a b : Bool) → b ≡ true → (a || b) ≡ true
or_right true b e = refl
or_right false b e = e

pub and_assoc : (a b c : Bool) → (a && (b && c)) ≡ ((a && b) && c)
and_assoc true b c = refl
and_assoc false b c = refl

-- one of two by a test: the first where it holds, the second where it fails
pub either_first : (t a b : Bool) → t ≡ true → a ≡ (t && a || not t && b)
either_first true true b e = refl
either_first true false b e = refl
either_first false a b e = absurd (true-is e)

pub either_second : (t a b : Bool) → t ≡ false → b ≡ (t && a || not t && b)
either_second true a b e = absurd (true-is (sym e))
either_second false a b e = refl

pub by-test {ℓ} : {X : Type ℓ} (t : Bool) → (t ≡ true → X) → (t ≡ false → X) → X
by-test true f g = f refl
by-test false f g = g refl

pub lt-or-ge : (k n : ℕ) → (k < n) ⊎ (n ≤ k)
lt-or-ge k n = by-test (ltb k n) (λ e. inl (ltb-true k n e)) (λ e. inr (ltb-false k n e))
