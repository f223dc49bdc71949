-- The exact quotient or product that a limit comes to over links, and what it is to be near it. Assumes nothing.
use Rattle.std.specs.Prelude.{Bool, List, [], ◌∷◌, ℕ, ◌*◌, ◌<◌, ℤ, pos, nat_abs, ◌-ℤ◌, ◌*ℤ◌}
use Rattle.laws.specs.Base.{pick}

-- "the exact quotient or product along its route": over links with these factors it is limit × times / by
unfoldable pub times : Bool → List ℕ → ℕ
times caps [] = 1
times caps (factor ∷ factors) = pick caps 10000 factor * times caps factors

unfoldable pub by : Bool → List ℕ → ℕ
by caps [] = 1
by caps (factor ∷ factors) = pick caps factor 10000 * by caps factors

-- how far a number q of cents is from it, times `by`: |q − limit × times / by| × by
abbrev pub apart : Bool → List ℕ → ℤ → ℤ → ℕ
apart caps factors limit q = nat_abs (q *ℤ pos (by caps factors) -ℤ limit *ℤ pos (times caps factors))

-- "less than 0.51 cent from" it
abbrev pub Close : Bool → List ℕ → ℤ → ℤ → Type 0
Close caps factors limit q = 100 * apart caps factors limit q < 51 * by caps factors
