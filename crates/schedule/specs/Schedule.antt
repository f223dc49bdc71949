-- The suspension schedule of one market from four weeks of prices. Assumes nothing.
use Rattle.std.specs.Prelude.{Bool, not, ◌&&◌, List, [], ◌++◌, ℕ, zero, suc, ◌+◌, ◌*◌, eqb, leb, ltb, ℤ, pos, length, get_or, replicate, Result, Ok, Err}
use Rattle.laws.specs.Base.{pick}
use Rattle.laws.specs.Lists.{tabulate, all_below, any_below, first_below, total}
use Rattle.schedule.specs.declared.Refusal.{Refusal}
use Rattle.schedule.specs.declared.Refusal.TheVariants.{Sizes, Kinds, Limits, Price}
use Rattle.schedule.specs.declared.Answer.{Answer}
use Rattle.pricing.specs.Verdict.{Verdict, accepted, refused, refused_at}
use Rattle.pricing.specs.Rounding.{rounded}
use Rattle.pricing.specs.Holding.{held, lowest, in_range, limits_ok}

-- the paper's number and place for each case
abbrev pub verdict_of : Result (Unit {0}) Refusal → Verdict
verdict_of (Ok _) = accepted
verdict_of (Err Sizes) = refused 31
verdict_of (Err Kinds) = refused 32
verdict_of (Err Limits) = refused 19
verdict_of (Err (Price place)) = refused_at 16 place

pub record Outcome : Type 0 where
  pub verdict : Verdict
  pub weekday : List ℤ
  pub weekend : List ℤ

abbrev pub answered : Answer → Outcome
answered s = record { verdict = verdict_of s.making; weekday = s.weekday; weekend = s.weekend }

-- "28 days × D prices, day by day": the six prices of half-hour h of day d, where D = 6 × H
abbrev pub half_hour : ℕ → List ℤ → ℕ → ℕ → List ℤ
half_hour H prices d h = tabulate 6 (λ j. get_or prices (d * (6 * H) + 6 * h + j) (pos 0))

-- "all prices of that half-hour and kind", of the first n days
unfoldable pub prices_of : ℕ → List ℤ → List ℕ → ℕ → ℕ → ℕ → List ℤ
prices_of H prices kinds kind h zero = []
prices_of H prices kinds kind h (suc n) =
    prices_of H prices kinds kind h n ++ pick (eqb (get_or kinds n 0) kind) (half_hour H prices n h) []

-- "the mean .., rounded half away from zero"
unfoldable pub mean : List ℤ → ℤ
mean l = rounded (total l) (length l)

-- "then held as in step 1", where `low` is the floor for energy and 0 for a service
unfoldable pub scheduled : ℕ → ℤ → ℤ → List ℤ → List ℕ → ℕ → ℕ → ℤ
scheduled H low cap prices kinds kind h = held (mean (prices_of H prices kinds kind h 28)) low cap

-- "two rows of 48 prices, a row a kind, places from H up zero"
abbrev pub row : ℕ → ℤ → ℤ → List ℤ → List ℕ → ℕ → List ℤ
row H low cap prices kinds kind = tabulate 48 (λ h. pick (ltb h H) (scheduled H low cap prices kinds kind h) (pos 0))

-- 31: "H or lengths"
abbrev pub sizes_ok : ℕ → List ℤ → List ℕ → Bool
sizes_ok H prices kinds = leb 1 H && leb H 48 && eqb (length prices) (28 * (6 * H)) && eqb (length kinds) 28

-- 32: "kind not 0 or 1, or one kind missing"
abbrev pub each_kind : List ℕ → Bool
each_kind kinds = all_below 28 (λ d. leb (get_or kinds d 0) 1)

abbrev pub has_kind : List ℕ → ℕ → Bool
has_kind kinds kind = any_below 28 (λ d. eqb (get_or kinds d 0) kind)

abbrev pub kinds_ok : List ℕ → Bool
kinds_ok kinds = each_kind kinds && has_kind kinds 0 && has_kind kinds 1

-- 16: the first price out of range, or the number of prices where none is
abbrev pub first_bad : Bool → List ℤ → ℕ
first_bad energy prices = first_below (length prices) (λ k. not (in_range energy (get_or prices k (pos 0))))

abbrev pub zeros : List ℤ
zeros = replicate 48 (pos 0)

abbrev pub refused_by : Verdict → Outcome
refused_by v = record { verdict = v; weekday = zeros; weekend = zeros }

-- "Maker: 31 ..; 32 ..; 19; 16 with place"
unfoldable pub schedule : ℕ → ℤ → ℤ → Bool → List ℤ → List ℕ → Outcome
schedule H cap floor energy prices kinds =
    pick (not (sizes_ok H prices kinds)) (refused_by (refused 31))
    (pick (not (kinds_ok kinds)) (refused_by (refused 32))
    (pick (not (limits_ok cap floor)) (refused_by (refused 19))
    (pick (ltb (first_bad energy prices) (length prices)) (refused_by (refused_at 16 (first_bad energy prices)))
    (record {
      verdict = accepted;
      weekday = row H (lowest energy floor) cap prices kinds 0;
      weekend = row H (lowest energy floor) cap prices kinds 1;
    }))))
