-- The worked cases of this crate's definitions that document 01 marks, as rows of its one table. Assumes nothing.
use mathlib.Core.Path.{◌≡◌, refl}
use mathlib.Core.Bool.{true}
use mathlib.Core.List.{List, [], ◌∷◌}
use lib.IntN.{ℤ, pos}
use Rattle.laws.specs.Tables.{Row, same_numbers, agree}
use Rattle.pricing.specs.declared.indexing.Quarters.{Quarters}
use Rattle.pricing.specs.Indexing.{Outcome, indexed}
use Rattle.pricing.specs.Rounding.{nearest}

-- number and dollars of an index
abbrev told : Outcome → List ℤ
told o = pos o.number ∷ pos o.dollars ∷ []

-- four quarters of 4,777 in total, and of 3,844
abbrev year_c : Quarters
year_c = record { q1 = 1183; q2 = 1192; q3 = 1197; q4 = 1205 }

abbrev year_b : Quarters
year_b = record { q1 = 957; q2 = 959; q3 = 963; q4 = 965 }

unfoldable pub cases : List Row
cases =
    -- "1,125,000, quarters 4,777 and 3,844 in total, last 1,359,100: 1,398,100"
    record { computed = told (indexed 1125000 year_c year_b 1359100); paper = pos 0 ∷ pos 1398100 ∷ [] }
    -- "12,500, last 15,100: 15,500"
    ∷ record { computed = told (indexed 12500 year_c year_b 15100); paper = pos 0 ∷ pos 15500 ∷ [] }
    ∷ []

-- the one test over the rows
pub cases-agree : agree cases ≡ true
unfolding agree cases same_numbers indexed nearest
cases-agree = refl
