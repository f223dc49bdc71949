-- Choices between equal things, and the row after a row. Assumes nothing.
use mathlib.Core.Path.{◌≡◌, refl, ◌∙◌}
use mathlib.Core.Bool.{Bool, true, false, ◌&&◌}
use Prim.Native.Nat.{ℕ, ◌+◌, ◌*◌}
use native.Mathlib.Nat.{add-mul, one-mul}
use Rattle.laws.specs.Base.{pick}

pub same-pick : {A : Type 0} (t : Bool) (x : A) → pick t x x ≡ x
same-pick true x = refl
same-pick false x = refl

-- what is chosen where the test holds matters only there
pub pick_same : {A : Type 0} (t : Bool) (x y z : A) → (t ≡ true → x ≡ y) → pick t x z ≡ pick t y z
pick_same true x y z e = e refl
pick_same false x y z e = refl

pub pick-and : {A : Type 0} (s t : Bool) (x y : A) → pick s (pick t x y) y ≡ pick (s && t) x y
pick-and true t x y = refl
pick-and false t x y = refl

pub next_row : (r M : ℕ) → (r + 1) * M ≡ r * M + M
next_row r M = add-mul r 1 M ∙ rw (one-mul M)
