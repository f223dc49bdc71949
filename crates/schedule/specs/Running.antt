-- The running totals and counts of the one pass over the four weeks (request 2026-03). Assumes nothing.
use Rattle.std.specs.Prelude.{Bool, not, List, ℕ, ◌/◌, ◌%◌, ltb, ℤ, pos, length, get_or}
use Rattle.laws.specs.Base.{pick}
use Rattle.laws.specs.Lists.{tabulate, first_below, total}
use Rattle.pricing.specs.Holding.{in_range}
use Rattle.schedule.specs.Schedule.{prices_of}

-- "a running total and count for each half-hour and kind": place k of 96 is half-hour k mod 48 of kind k div 48, and has these prices of
-- the first n days
abbrev pub so_far : ℕ → List ℤ → List ℕ → ℕ → ℕ → List ℤ
so_far H prices kinds n k = prices_of H prices kinds (k / 48) (k % 48) n

-- "after each day these are promised to be those of the days so far": the totals of n days, zeros at the half-hours from H up
abbrev pub totals_of : ℕ → List ℤ → List ℕ → ℕ → List ℤ
totals_of H prices kinds n = tabulate 96 (λ k. pick (ltb (k % 48) H) (total (so_far H prices kinds n k)) (pos 0))

-- and the counts
abbrev pub counts_of : ℕ → List ℤ → List ℕ → ℕ → List ℕ
counts_of H prices kinds n = tabulate 96 (λ k. pick (ltb (k % 48) H) (length (so_far H prices kinds n k)) 0)

-- of the first n prices the first out of range, or n where none is
abbrev pub bad_in : Bool → List ℤ → ℕ → ℕ
bad_in energy prices n = first_below n (λ k. not (in_range energy (get_or prices k (pos 0))))
