-- The first wrong line and the first that is out of range, in logical form. Assumes nothing.
use mathlib.Core.Path.{◌≡◌, refl, sym, ap, ◌∙◌}
use mathlib.Core.Bool.{Bool, true, false, not}
use mathlib.Core.List.{List}
use Prim.Native.Nat.{ℕ, ◌<◌}
use native.Mathlib.Omega.{arith}
use borrow.Author.Tests.{not-false, ltb-false, leb-true, leb-false, lt-ltb, le-ltb}
use Rattle.std.proofs.Common.{Option, Some, None, cond}
use Rattle.std.specs.List.{position_or_len}
use Rattle.std.proofs.lemmas.List.Sums.{position_or_len_is}
use lib.Dec.{leb, ltb}
use lib.ListN.{length, get_or}
use Rattle.laws.proofs.Tests.{by-test}
use Rattle.laws.proofs.Lists.{first_below-most, first_below-passed, first_below-hit}
use Rattle.bill_lines.specs.Lines.{most_energy, first_heavy}
use Rattle.bill_lines.specs.Working.{heavy_line}

-- no line is out of range
pub all-in-range : (energy : List ℕ) → ltb (first_heavy energy) (length energy) ≡ false → (i : ℕ) → i < length energy → leb (get_or energy i 0) most_energy ≡ true
all-in-range energy e i h =
    not-false _
    (first_below-passed (length energy) (λ k. not (leb (get_or energy k 0) most_energy)) i (omega (arith, ltb-false (first_heavy energy) (length energy) e)))

-- the search for it answers it, if there is one
over : (x : ℕ) → not (leb x most_energy) ≡ ltb most_energy x
over x = by-test (leb x most_energy) (λ e. rw (e, le-ltb most_energy x (leb-true x most_energy e)) refl) (λ e. rw (e, lt-ltb most_energy x (leb-false x most_energy e)) refl)

module _ (energy : List ℕ) where
  heavy : ℕ → Bool
  heavy i = not (leb (get_or energy i 0) most_energy)

  searched : position_or_len (λ x. ltb most_energy x) energy ≡ first_heavy energy
  unfolding heavy
  searched =
      let n = length energy in
      position_or_len_is (λ x. ltb most_energy x) energy (first_heavy energy) 0 (first_below-most n heavy)
      (λ k h. sym (over (get_or energy k 0)) ∙ first_below-passed n heavy k h)
      (λ h. sym (over (get_or energy (first_heavy energy) 0)) ∙ first_below-hit n heavy h)

  abbrev there : Bool
  there = ltb (first_heavy energy) (length energy)

  line-is : heavy_line energy ≡ cond there (Some (first_heavy energy)) None
  line-is = ap (λ (k : ℕ). cond (ltb k (length energy)) (Some k) None) searched

  pub heavy-some : (h : ℕ) → heavy_line energy ≡ Some h → (ltb (first_heavy energy) (length energy) ≡ true) × (first_heavy energy ≡ h)
  heavy-some h e =
      by-test there
      (λ t. let q : Some (first_heavy energy) ≡ Some h = rw t at (sym line-is ∙ e) in (t, cc))
      (λ t. let q : ◌≡◌ {A = Option ℕ} None (Some h) = rw t at (sym line-is ∙ e) in cc)

  pub heavy-none : heavy_line energy ≡ None → ltb (first_heavy energy) (length energy) ≡ false
  heavy-none e = by-test there (λ t. let q : ◌≡◌ {A = Option ℕ} (Some (first_heavy energy)) None = rw t at (sym line-is ∙ e) in cc) (λ t. t)
