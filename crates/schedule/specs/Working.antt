-- What the maker's inner functions are given, and what they make of totals and counts. Assumes nothing.
use Rattle.std.specs.Prelude.{Bool, not, List, [], ◌≡◌, ℕ, ◌+◌, ◌*◌, ◌≤◌, ◌<◌, ltb, ℤ, pos, nat_abs, length, get_or, Option, Some, None, Result, Ok, Err}
use Rattle.std.specs.Option.{option_or}
use Rattle.laws.specs.Base.{pick}
use Rattle.laws.specs.Lists.{tabulate, puts, all_below, first_below}
use Rattle.pricing.specs.Rounding.{rounded}
use Rattle.pricing.specs.Holding.{held, in_range}
use Rattle.pricing.specs.Verdict.{accepted}
use Rattle.schedule.specs.declared.Refusal.{Refusal}
use Rattle.schedule.specs.Schedule.{Outcome, verdict_of, refused_by}
use Rattle.schedule.specs.Running.{bad_in}

-- what the pass is given: the lengths that 31 asks, and kinds that are 0 or 1
pub record Days (H : ℕ) (prices : List ℤ) (kinds : List ℕ) : Type 0 where
  pub halves : (1 ≤ H) × (H ≤ 48)
  pub size : length prices ≡ 28 * (6 * H)
  pub days : length kinds ≡ 28
  pub kind : (d : ℕ) → d < 28 → get_or kinds d 0 ≤ 1

-- no running total is larger than d days of six signed 32-bit prices make it
abbrev pub Room : ℕ → List ℤ → Type 0
Room d totals = (k : ℕ) → nat_abs (get_or totals k (pos 0)) ≤ d * 12884901888

-- six prices that are in some market's range
abbrev pub Small : List ℤ → Type 0
Small six = (j : ℕ) → j < 6 → nat_abs (get_or six j (pos 0)) ≤ 10000000

-- place k, if it is one of the first n
abbrev pub below : ℕ → ℕ → Option ℕ
below n k = pick (ltb k n) (Some k) None

-- of the first n prices the first out of range
abbrev pub found_in : Bool → List ℤ → ℕ → Option ℕ
found_in energy prices n = below n (bad_in energy prices n)

-- whether the six prices of a half-hour are in range, and the place of the first that is not, where they begin at `from`
abbrev pub all_in_range : Bool → List ℤ → Bool
all_in_range energy six = all_below 6 (λ j. in_range energy (get_or six j (pos 0)))

abbrev pub first_out : Bool → List ℤ → ℕ → Option ℕ
first_out energy six from = below (from + 6) (from + first_below 6 (λ j. not (in_range energy (get_or six j (pos 0)))))

-- the first bad price up to a half-hour's end, where `bad` is the first before it
abbrev pub bad_with : Bool → List ℤ → Option ℕ → ℕ → Option ℕ
bad_with energy six bad from = pick (all_in_range energy six) bad (option_or bad (first_out energy six from))

-- what is given where a day is counted: a kind's places, and room for six prices more in each
pub record Countable (H row : ℕ) (counts : List ℕ) : Type 0 where
  pub places : row + H ≤ 96
  pub room : (h : ℕ) → h < H → get_or counts (row + h) 0 ≤ 168

-- six prices more in each place of a kind
abbrev pub counted_on : ℕ → ℕ → List ℕ → List ℕ
counted_on H row counts = puts counts (λ h. row + h) (λ h. get_or counts (row + h) 0 + 6) H

-- a total and a count that have a mean, of numbers of at most 10,000,000 each
abbrev pub Meaned : ℤ → ℕ → Type 0
Meaned sum count = ((1 ≤ count) × (count ≤ 168)) × (nat_abs sum ≤ count * 10000000)

-- the same of each half-hour of a kind
pub record Means (H : ℕ) (totals : List ℤ) (counts : List ℕ) (kind : ℕ) : Type 0 where
  pub halves : H ≤ 48
  pub kinds : kind ≤ 1
  pub meaned : (h : ℕ) → h < H → Meaned (get_or totals (kind * 48 + h) (pos 0)) (get_or counts (kind * 48 + h) 0)

-- the mean of so many numbers, held within the limits
unfoldable pub held_mean : ℤ → ℕ → ℤ → ℤ → ℤ
held_mean sum count low cap = held (rounded sum count) low cap

-- the row of a kind, made of totals and counts
abbrev pub row_by : ℕ → ℤ → ℤ → List ℤ → List ℕ → ℕ → List ℤ
row_by H low cap totals counts kind =
    tabulate 48 (λ h. pick (ltb h H) (held_mean (get_or totals (kind * 48 + h) (pos 0)) (get_or counts (kind * 48 + h) 0) low cap) (pos 0))

-- what the two rows, or the refusal, come to
abbrev pub made_by : Result (List (List ℤ)) Refusal → Outcome
made_by (Ok rows) = record { verdict = accepted; weekday = get_or rows 0 []; weekend = get_or rows 1 [] }
made_by (Err refusal) = refused_by (verdict_of (Err refusal))
