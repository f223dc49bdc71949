-- What the test of a table of worked cases decides. Assumes nothing.
use mathlib.Core.Path.{◌≡◌, refl, ap, ap₂, ◌∙◌}
use mathlib.Core.Bool.{Bool, true, ◌&&◌}
use mathlib.Core.List.{List, [], ◌∷◌, ◌++◌}
use lib.IntN.{ℤ}
use lib.Signed.{le_z}
use Rattle.laws.specs.Tables.{Row, same_numbers, agree}
use Rattle.laws.proofs.Integers.{integers}
use Rattle.laws.proofs.Tests.{and_left, and_right, and_assoc, true-is}

pub same-numbers : (l m : List ℤ) → same_numbers l m ≡ true → l ≡ m
unfolding same_numbers
same-numbers [] [] e = refl
same-numbers [] (y ∷ m) e = absurd (true-is e)
same-numbers (x ∷ l) [] e = absurd (true-is e)
same-numbers (x ∷ l) (y ∷ m) e =
    let both = and_left (le_z x y && le_z y x) (same_numbers l m) e in
    let up = and_left (le_z x y) (le_z y x) both in
    let down = and_right (le_z x y) (le_z y x) both in
    let head : x ≡ y = omega integers in
    ap₂ ◌∷◌ head (same-numbers l m (and_right (le_z x y && le_z y x) (same_numbers l m) e))

-- a table is taken into a longer one
pub agree-append : (a b : List Row) → agree (a ++ b) ≡ (agree a && agree b)
unfolding agree
agree-append [] b = refl
agree-append (row ∷ rows) b =
    ap (λ (t : Bool). same_numbers row.computed row.paper && t) (agree-append rows b)
    ∙ and_assoc (same_numbers row.computed row.paper) (agree rows) (agree b)
