-- A table of worked cases: the numbers that a definition computes beside those of the paper. Assumes nothing.
use Rattle.std.specs.Prelude.{Bool, true, false, ◌&&◌, List, [], ◌∷◌, ℤ}
use Rattle.std.specs.Int.Signed.{le_z}

pub record Row : Type 0 where
  pub computed : List ℤ
  pub paper : List ℤ

-- the same numbers in the same order
unfoldable pub same_numbers : List ℤ → List ℤ → Bool
same_numbers [] [] = true
same_numbers [] (y ∷ m) = false
same_numbers (x ∷ l) [] = false
same_numbers (x ∷ l) (y ∷ m) = le_z x y && le_z y x && same_numbers l m

-- the test of a whole table
unfoldable pub agree : List Row → Bool
agree [] = true
agree (row ∷ rows) = same_numbers row.computed row.paper && agree rows
