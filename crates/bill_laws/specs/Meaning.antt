-- What the answers of a bill check mean, in logical form. Assumes nothing.
use Rattle.std.specs.Prelude.{◌≡◌, List, ℕ, ◌≤◌, ◌<◌, ℤ, pos, ◌*ℤ◌, length, get_or}
use Rattle.pricing.specs.Verdict.{accepted}
use Rattle.pricing.specs.Rounding.{Nearest}
use Rattle.book.specs.declared.record.Book.{Book}
use Rattle.bill_lines.specs.Lines.{Lines, Shown, shown_as, how_long}
use Rattle.bill_lines.specs.Lent.{lent_verdict}
use Rattle.billing.specs.Billing.{Bill, day_of, lengths_of}

-- what the rules show of interval i
abbrev pub shown_at : List Shown → ℕ → Shown
shown_at shown i = get_or shown i (shown_as 0 (pos 0))

-- line i says of an interval what the rules say: its number, "the published" price, and the amount, which is "kilowatt-hours × price /
-- 1,000 rounded half away from zero" (Nearest: no further from it than a half, and at a half the one further from zero)
pub record LineIs (l : Lines) (i : ℕ) (s : Shown) : Type 0 where
  pub number : get_or l.numbers i 0 ≡ s.number
  pub price : get_or l.prices i (pos 0) ≡ s.price
  pub amount : Nearest (pos (get_or l.energy i 0) *ℤ s.price) 1000 (get_or l.amounts i (pos 0))

-- "say yes exactly when there is one line an interval in order, each price is the published one, and each amount is ..", no refusal
-- coming first. That the answer is yes exactly then is proved in proofs/Answers, both ways
pub record Yes (b : Book) (ring work : List ℤ) (bill : Bill) : Type 0 where
  pub lent : lent_verdict b (lengths_of ring work bill) bill.region ≡ accepted
  pub played : (day_of b ring bill).verdict ≡ accepted
  pub range : (i : ℕ) → i < length bill.lines.energy → get_or bill.lines.energy i 0 ≤ 1000000000
  pub count : length (day_of b ring bill).shown ≡ length bill.lines.numbers
  pub lines : (i : ℕ) → i < length bill.lines.numbers → LineIs bill.lines i (shown_at (day_of b ring bill).shown i)

-- "the first wrong line, counted from 0, the missing or surplus one included": of the lines or the intervals, whichever are more, one
-- at which they are not both there and agree, while all before it do
pub record FirstWrong (l : Lines) (shown : List Shown) (k : ℕ) : Type 0 where
  pub within : k < how_long l shown
  pub wrong : k < length l.numbers → k < length shown → LineIs l k (shown_at shown k) → ⊥
  pub before : (i : ℕ) → i < k → (i < length l.numbers) × (i < length shown) × LineIs l i (shown_at shown i)
