-- A call on the rings where they lie, changed or not. Assumes nothing.
use mathlib.Core.Path.{◌≡◌, refl, sym, ◌∙◌, subst}
use mathlib.Core.Bool.{Bool, true, false, not, beq}
use mathlib.Core.List.{List}
use Prim.Native.Nat.{ℕ}
use lib.IntN.{ℤ}
use Rattle.laws.specs.Base.{pick}
use Rattle.book.specs.declared.record.Book.{Book}
use Rattle.playing.specs.Playing.{State, state_of, playable, step, swaps}
use Rattle.replay.specs.Replay.{turn}

-- changed or not, and once more or not
pub turn-is : (t x : Bool) → not (beq t x) ≡ turn t x
turn-is true true = refl
turn-is true false = refl
turn-is false true = refl
turn-is false false = refl

-- rings that changed places, and change them again or not
arranged : (t x : Bool) (b : Book) (ring other : List ℤ) (image : List ℕ) (numbers : List ℤ) (factors : List ℕ) (table : List ℤ) (at out : ℕ) (answers : List ℕ)
    → state_of (turn t x) b ring other image numbers factors table at out answers ≡ state_of x b (pick t other ring) (pick t ring other) image numbers factors table at out answers
arranged true true b ring other image numbers factors table at out answers = refl
arranged true false b ring other image numbers factors table at out answers = refl
arranged false true b ring other image numbers factors table at out answers = refl
arranged false false b ring other image numbers factors table at out answers = refl

module _ (t : Bool) (b : Book) (ring other : List ℤ) (image : List ℕ) (numbers : List ℤ) (factors : List ℕ) (table : List ℤ) (c : List ℕ) (at out : ℕ) (answers : List ℕ) where
  abbrev lying : State
  lying = state_of t b ring other image numbers factors table at out answers

  pub turned-asks : t ≡ true → playable c lying ≡ true → playable c (state_of false b other ring image numbers factors table at out answers) ≡ true
  turned-asks e h = subst (λ (x : Bool). playable c (state_of x b ring other image numbers factors table at out answers) ≡ true) e h

  pub straight-asks : t ≡ false → playable c lying ≡ true → playable c (state_of false b ring other image numbers factors table at out answers) ≡ true
  straight-asks e h = subst (λ (x : Bool). playable c (state_of x b ring other image numbers factors table at out answers) ≡ true) e h

  module _ (x : Bool) (b₁ : Book) (ring₁ other₁ : List ℤ) (image₁ : List ℕ) (numbers₁ : List ℤ) (factors₁ : List ℕ) (table₁ : List ℤ) (at₁ out₁ : ℕ) (answers₁ : List ℕ) where
    made : (u : Bool) → t ≡ u
        → (x ≡ swaps c (state_of u b ring other image numbers factors table at out answers)) × (state_of x b₁ (pick u other₁ ring₁) (pick u ring₁ other₁) image₁ numbers₁ factors₁ table₁ at₁ out₁ answers₁ ≡ step c (state_of u b ring other image numbers factors table at out answers))
        → (x ≡ swaps c lying) × (state_of (turn t x) b₁ ring₁ other₁ image₁ numbers₁ factors₁ table₁ at₁ out₁ answers₁ ≡ step c lying)
    made u e h =
        subst
        (λ (v : Bool). (x ≡ swaps c (state_of v b ring other image numbers factors table at out answers)) × (state_of (turn v x) b₁ ring₁ other₁ image₁ numbers₁ factors₁ table₁ at₁ out₁ answers₁ ≡ step c (state_of v b ring other image numbers factors table at out answers)))
        (sym e) (h.0, arranged u x b₁ ring₁ other₁ image₁ numbers₁ factors₁ table₁ at₁ out₁ answers₁ ∙ h.1)

    pub turned-made : t ≡ true
        → (x ≡ swaps c (state_of false b other ring image numbers factors table at out answers)) × (state_of x b₁ other₁ ring₁ image₁ numbers₁ factors₁ table₁ at₁ out₁ answers₁ ≡ step c (state_of false b other ring image numbers factors table at out answers))
        → (x ≡ swaps c lying) × (state_of (turn t x) b₁ ring₁ other₁ image₁ numbers₁ factors₁ table₁ at₁ out₁ answers₁ ≡ step c lying)
    turned-made e h = made true e h

    pub straight-made : t ≡ false
        → (x ≡ swaps c (state_of false b ring other image numbers factors table at out answers)) × (state_of x b₁ ring₁ other₁ image₁ numbers₁ factors₁ table₁ at₁ out₁ answers₁ ≡ step c (state_of false b ring other image numbers factors table at out answers))
        → (x ≡ swaps c lying) × (state_of (turn t x) b₁ ring₁ other₁ image₁ numbers₁ factors₁ table₁ at₁ out₁ answers₁ ≡ step c lying)
    straight-made e h = made false e h
