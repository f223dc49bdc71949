-- What only proofs need: a line's test as the code makes it, and how many lines in front are right. Assumes nothing.
use Rattle.std.specs.Prelude.{◌≡◌, Bool, not, ◌&&◌, List, ℕ, ◌+◌, leb, ltb, eqb, pos, length, get_or, Option, position}
use Rattle.laws.specs.Base.{pick}
use Rattle.laws.specs.Lists.{first_below}
use Rattle.bill_lines.specs.Lines.{Lines, Shown, shown_as, right_at, most_energy}

-- a line that is there, whose kilowatt-hours are in range, and that is right. One out of range is answered by 46, so that it does not show
unfoldable pub line_told : Lines → ℕ → Shown → Bool
line_told l i s = ltb i (length l.numbers) && (leb (get_or l.energy i 0) most_energy && right_at l i s)

-- "four slices of one length"
pub record OneLength (l : Lines) : Type 0 where
  pub energy : length l.energy ≡ length l.numbers
  pub prices : length l.prices ≡ length l.numbers
  pub amounts : length l.amounts ≡ length l.numbers

-- how many of the first lines were told to be right
abbrev pub leading : Lines → List Shown → ℕ
leading l shown = first_below (length shown) (λ i. not (line_told l i (get_or shown i (shown_as 0 (pos 0)))))

-- the same after one more interval, the lines before it counted
abbrev pub leads_to : Lines → ℕ → ℕ → Shown → ℕ
leads_to l right count s = pick (eqb right count && line_told l count s) (right + 1) right

-- the first line with too many kilowatt-hours, if there is one
abbrev pub heavy_line : List ℕ → Option ℕ
heavy_line energy = position (λ x. ltb most_energy x) energy
