-- The lines of a bill against what the rules say of the intervals: which is the first that is wrong. Assumes nothing.
use Rattle.std.specs.Prelude.{Bool, not, ◌&&◌, List, ℕ, max, leb, ltb, eqb, ℤ, pos, ◌*ℤ◌, length, get_or}
use Rattle.std.specs.Int.Signed.{le_z}
use Rattle.laws.specs.Lists.{first_below}
use Rattle.pricing.specs.Rounding.{rounded}

-- "a line for every interval: number, kilowatt-hours, published energy price, amount, in four slices"
pub record Lines : Type 0 where
  pub numbers : List ℕ
  pub energy : List ℕ
  pub prices : List ℤ
  pub amounts : List ℤ

abbrev pub lines_of : List ℕ → List ℕ → List ℤ → List ℤ → Lines
lines_of numbers energy prices amounts = record { numbers = numbers; energy = energy; prices = prices; amounts = amounts }

-- what the rules say of an interval: its number, and the region's published energy price
pub record Shown : Type 0 where
  pub number : ℕ
  pub price : ℤ

abbrev pub shown_as : ℕ → ℤ → Shown
shown_as number price = record { number = number; price = price }

abbrev pub same : ℤ → ℤ → Bool
same x y = le_z x y && le_z y x

-- "each amount is kilowatt-hours × price / 1,000 rounded half away from zero"
abbrev pub amount_of : ℕ → ℤ → ℤ
amount_of energy price = rounded (pos energy *ℤ price) 1000

-- a line says of an interval what the rules say: its number, "each price is the published one", and the amount
unfoldable pub line_right : ℕ → ℕ → ℤ → ℤ → Shown → Bool
line_right number energy price amount s =
    eqb number s.number && same price s.price && same amount (amount_of energy s.price)

abbrev pub right_at : Lines → ℕ → Shown → Bool
right_at l i = line_right (get_or l.numbers i 0) (get_or l.energy i 0) (get_or l.prices i (pos 0)) (get_or l.amounts i (pos 0))

-- "one line an interval in order": line i and interval i are both there and agree
abbrev pub agrees : Lines → List Shown → ℕ → Bool
agrees l shown i = ltb i (length l.numbers) && ltb i (length shown) && right_at l i (get_or shown i (shown_as 0 (pos 0)))

-- the lines or the intervals, whichever are more
abbrev pub how_long : Lines → List Shown → ℕ
how_long l shown = max (length l.numbers) (length shown)

-- "the first wrong line, counted from 0, the missing or surplus one included"; `how_long` where none is wrong
abbrev pub first_wrong : Lines → List Shown → ℕ
first_wrong l shown = first_below (how_long l shown) (λ i. not (agrees l shown i))

-- 46 "kilowatt-hours above 1,000,000,000": the first such line; how many there are where none is
abbrev pub most_energy : ℕ
most_energy = 1000000000

abbrev pub first_heavy : List ℕ → ℕ
first_heavy energy = first_below (length energy) (λ i. not (leb (get_or energy i 0) most_energy))
