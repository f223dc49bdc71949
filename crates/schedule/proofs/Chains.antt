-- What a library's test of a whole list says place by place. Assumes nothing.
use mathlib.Core.Path.{◌≡◌, refl, sym, ap, ◌∙◌}
use mathlib.Core.Bool.{Bool, true, false, ◌||◌}
use mathlib.Core.List.{List, [], ◌∷◌}
use Prim.Native.Nat.{ℕ, zero, suc}
use lib.ListN.{length, get_or}
use Rattle.std.specs.Prelude.{IsTrue, ◌↔◌, All}
use Rattle.std.specs.List.{list_any}
use Rattle.std.proofs.lemmas.List.Elements.{All-from_get_or}
use Rattle.laws.specs.Lists.{all_below, any_below}
use Rattle.laws.proofs.Lists.{all-at, at_all}
use Rattle.laws.proofs.Tests.{by-test, never}

or-false : (a : Bool) → (false || a) ≡ (a || false)
or-false true = refl
or-false false = refl

or_assoc : (a b c : Bool) → ((a || b) || c) ≡ (a || (b || c))
or_assoc true b c = refl
or_assoc false b c = refl

-- the first number aside
any-first : (n : ℕ) (t : ℕ → Bool) → any_below (suc n) t ≡ (t 0 || any_below n (λ k. t (suc k)))
unfolding any_below
any-first zero t = or-false (t 0)
any-first (suc n) t = rw (any-first n t) (or_assoc (t 0) (any_below n (λ k. t (suc k))) (t (suc n)))

module _ {A : Type 0} (p : A → Bool) (d : A) where
  -- whether the element at a place passes
  abbrev pub at : List A → ℕ → Bool
  at xs k = p (get_or xs k d)

  -- what `all` promises
  pub all-is : (xs : List A) (r : Bool) → (IsTrue r ↔ All (λ x. IsTrue (p x)) xs) → r ≡ all_below (length xs) (at xs)
  all-is xs r h =
      by-test r
      (λ e. e ∙ sym (at_all (length xs) (at xs) (λ k l. h.0 e k d l)))
      (λ e. by-test (all_below (length xs) (at xs))
      (λ t. never r (h.1 (All-from_get_or (λ x. IsTrue (p x)) xs d (all-at (length xs) (at xs) t))) e)
      (λ t. e ∙ sym t))

  -- and what `contains` does
  pub any-is : (xs : List A) → list_any p xs ≡ any_below (length xs) (at xs)
  unfolding any_below
  any-is [] = refl
  any-is (x ∷ xs) = ap (λ (b : Bool). p x || b) (any-is xs) ∙ sym (any-first (length xs) (at (x ∷ xs)))
