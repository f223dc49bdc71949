-- The indexed amount of a year, in whole dollars. Assumes nothing.
use Rattle.std.specs.Prelude.{Bool, ◌&&◌, ℕ, ◌+◌, ◌*◌, max, leb, Result, Ok, Err}
use Rattle.laws.specs.Base.{pick}
use Rattle.pricing.specs.Rounding.{nearest}
use Rattle.pricing.specs.declared.indexing.OutOfRange.{OutOfRange}
use Rattle.pricing.specs.declared.indexing.Quarters.{Quarters}

-- a refusal's number, or 0 and the dollars: "answer zeros beside number and place"
pub record Outcome : Type 0 where
  pub number : ℕ
  pub dollars : ℕ

-- the paper's number and value for each case
abbrev pub answered : Result ℕ OutOfRange → Outcome
answered (Ok d) = record { number = 0; dollars = d }
answered (Err _) = record { number = 30; dollars = 0 }

abbrev pub between : ℕ → ℕ → ℕ → Bool
between low high x = leb low x && leb x high

-- "a quarter outside 1..100,000"
abbrev pub quarters_ok : Quarters → Bool
quarters_ok y =
    between 1 100000 y.q1 && between 1 100000 y.q2 && between 1 100000 y.q3 && between 1 100000 y.q4

abbrev pub sum : Quarters → ℕ
sum y = y.q1 + y.q2 + y.q3 + y.q4

-- "30, a quarter outside 1..100,000, amount outside 1..100,000,000, last year's above 10,000,000,000,000"
abbrev pub index_ok : ℕ → Quarters → Quarters → ℕ → Bool
index_ok amount c b last = between 1 100000000 amount && quarters_ok c && quarters_ok b && leb last 10000000000000

-- "amount × (four quarters of year c) / (four of year b), .. to the nearest 100 dollars, half up, and never below last year's"
unfoldable pub indexed : ℕ → Quarters → Quarters → ℕ → Outcome
indexed amount c b last =
    pick (index_ok amount c b last)
    (record { number = 0; dollars = max last (100 * nearest (amount * sum c) (100 * sum b)) })
    (record { number = 30; dollars = 0 })
