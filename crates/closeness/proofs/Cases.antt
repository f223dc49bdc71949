-- Limits over links as request 2026-04 has them, computed by the definitions beside numbers worked out beforehand: each row is told apart
-- from a limit that is rounded to the cent at every link, but for the guide's. Assumes nothing.
use mathlib.Core.Path.{◌≡◌, refl}
use mathlib.Core.Bool.{true, false}
use mathlib.Core.List.{List, [], ◌∷◌}
use borrow.Author.Tests.{ltb-true}
use lib.IntN.{pos, negsuc}
use lib.ListN.{replicate}
use Rattle.laws.specs.Tables.{Row, same_numbers, agree}
use Rattle.pricing.specs.Rounding.{nearest, rounded}
use Rattle.pricing.specs.Carrying.{carried, along}
use Rattle.pricing.specs.Passing.{cents, passed}
use Rattle.closeness.specs.Exact.{times, by, apart, Close}

unfoldable pub cases : List Row
cases =
    -- one link: 25,005,000 ten-thousandths, though the exact quotient is 2,500.49997. It is 7,501 / 15,001 of a cent away
    record {
      computed =
          passed true (15001 ∷ []) (pos 3751) ∷ pos (apart true (15001 ∷ []) (pos 3751) (pos 2501)) ∷ pos (by true (15001 ∷ [])) ∷ [];
      paper = pos 2501 ∷ pos 7501 ∷ pos 15001 ∷ [];
    }
    -- a cap over one, two and three links
    ∷ record {
      computed =
          passed true (10800 ∷ []) (pos 60000) ∷ passed true (10800 ∷ 10300 ∷ []) (pos 60000)
          ∷ passed true (10800 ∷ 10300 ∷ 10300 ∷ []) (pos 60000) ∷ [];
      paper = pos 55556 ∷ pos 53937 ∷ pos 52366 ∷ [];
    }
    -- a floor over one, two and three
    ∷ record {
      computed =
          passed false (10507 ∷ []) (negsuc 60000) ∷ passed false (10507 ∷ 10507 ∷ []) (negsuc 60000)
          ∷ passed false (10507 ∷ 10507 ∷ 10507 ∷ []) (negsuc 60000) ∷ [];
      paper = negsuc 63042 ∷ negsuc 66238 ∷ negsuc 69597 ∷ [];
    }
    -- a cent over one link and over two: a cap limit of 0
    ∷ record { computed = passed true (20000 ∷ []) (pos 1) ∷ passed true (20000 ∷ 20000 ∷ []) (pos 1) ∷ []; paper = pos 1 ∷ pos 0 ∷ [] }
    -- the largest limits over seven links
    ∷ record {
      computed = passed true (replicate 7 20000) (pos 10000000) ∷ passed false (replicate 7 20000) (negsuc 9999999) ∷ [];
      paper = pos 78125 ∷ negsuc 1279999999 ∷ [];
    }
    -- "the guide's 545.45 and 505.05 still come out", and its floor limits
    ∷ record {
      computed =
          passed true (11000 ∷ []) (pos 60000) ∷ passed true (11000 ∷ 10800 ∷ []) (pos 60000)
          ∷ passed false (11000 ∷ []) (negsuc 59999) ∷ passed false (11000 ∷ 10800 ∷ []) (negsuc 59999) ∷ [];
      paper = pos 54545 ∷ pos 50505 ∷ negsuc 65999 ∷ negsuc 71279 ∷ [];
    }
    ∷ []

-- the one test over the rows
pub cases-agree : agree cases ≡ true
unfolding agree cases same_numbers along carried cents rounded nearest times by
cases-agree = refl

-- the first row again: 100 × 7,501 is less than 51 × 15,001, and is not less than 50 × 15,001
pub one_link : Close true (15001 ∷ []) (pos 3751) (pos 2501)
unfolding times by
one_link = ltb-true 750100 765051 refl
