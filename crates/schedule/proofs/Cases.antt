-- The worked case of the schedule maker's mean that document 01 marks, a row of its one table; and running totals and counts. Assumes nothing.
use mathlib.Core.Path.{◌≡◌, refl}
use mathlib.Core.Bool.{true}
use mathlib.Core.List.{List, [], ◌∷◌, ◌++◌}
use Prim.Native.Nat.{ℕ, ◌+◌, ◌*◌, ◌/◌, ◌%◌}
use lib.IntN.{ℤ, pos, negsuc}
use lib.ListN.{get_or, replicate}
use Rattle.laws.specs.Lists.{run, tabulate, first_below, total}
use Rattle.laws.specs.Tables.{Row, same_numbers, agree}
use Rattle.pricing.specs.Rounding.{nearest, rounded}
use Rattle.schedule.specs.Schedule.{prices_of, mean}
use Rattle.schedule.specs.Running.{totals_of, counts_of, bad_in}

unfoldable pub cases : List Row
cases =
    -- "Means of 2.5 and −2.5 cents: 3, −3"
    record {
      computed =
          mean (pos 2 ∷ pos 3 ∷ pos 2 ∷ pos 3 ∷ pos 2 ∷ pos 3 ∷ [])
          ∷ mean (negsuc 1 ∷ negsuc 2 ∷ negsuc 1 ∷ negsuc 2 ∷ negsuc 1 ∷ negsuc 2 ∷ []) ∷ [];
      paper = pos 3 ∷ negsuc 2 ∷ [];
    }
    ∷ []

-- the one test over the rows
pub cases-agree : agree cases ≡ true
unfolding agree cases same_numbers nearest rounded mean total
cases-agree = refl

-- ---- two half-hours a day, weekday and weekend by turns: 1,000 × (kind + 1) + 100 × half-hour + interval + day cents
turns : List ℕ
turns = tabulate 28 (λ d. d % 2)

weeks : List ℤ
weeks = tabulate 336 (λ k. pos (1000 * (k / 12 % 2 + 1) + 100 * (k % 12 / 6) + k % 6 + k / 12))

unfoldable running : List Row
running =
    -- after day 2, which is three days: totals 12,042 and 13,242 of the weekdays, 12,021 and 12,621 of the weekend
    record {
      computed = totals_of 2 weeks turns 3;
      paper = pos 12042 ∷ pos 13242 ∷ replicate 46 (pos 0) ++ pos 12021 ∷ pos 12621 ∷ replicate 46 (pos 0);
    }
    -- their counts, 12, 12, 6 and 6
    ∷ record {
      computed = tabulate 96 (λ k. pos (get_or (counts_of 2 weeks turns 3) k 0));
      paper = pos 12 ∷ pos 12 ∷ replicate 46 (pos 0) ++ pos 6 ∷ pos 6 ∷ replicate 46 (pos 0);
    }
    -- none of the 36 prices is out of range
    ∷ record { computed = pos (bad_in true weeks 36) ∷ []; paper = pos 36 ∷ [] }
    ∷ []

running-agree : agree running ≡ true
unfolding agree running same_numbers turns weeks run total prices_of first_below
running-agree = refl
