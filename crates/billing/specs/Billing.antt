-- Holding a retailer's bill against the rules: the whole call. Assumes nothing.
use Rattle.std.specs.Prelude.{Result, Ok, Err, Option, Some, None, not, List, [], ◌∷◌, ◌++◌, ℕ, zero, suc, leb, ltb, ℤ, length}
use Rattle.laws.specs.Base.{pick}
use Rattle.pricing.specs.Verdict.{Verdict, accepted, refused_at}
use Rattle.book.specs.declared.record.Book.{Book}
use Rattle.book.specs.Record.{verdict, is_accepted}
use Rattle.bill_lines.specs.declared.lent.Lengths.{Lengths}
use Rattle.bill_lines.specs.Lines.{Lines, Shown, shown_as, how_long, first_wrong, first_heavy}
use Rattle.bill_lines.specs.Lent.{lent_verdict}
use Rattle.interval_entry.specs.Taking as Taking
use Rattle.book.specs.declared.record.Reply.{Reply}
use Rattle.book.specs.declared.record.Refusal.{Refusal}

-- "the day's records, one schedule, a region and the lines"
pub record Bill : Type 0 where
  pub records : List ℕ
  pub schedule : List ℤ
  pub region : ℕ
  pub lines : Lines

abbrev pub bill_of : List ℕ → List ℤ → ℕ → Lines → Bill
bill_of records schedule region lines = record { records = records; schedule = schedule; region = region; lines = lines }

-- ---- the day
-- before an interval: the book and its ring, the interval's place, and what the rules showed of the intervals before it
pub record State : Type 0 where
  pub book : Book
  pub ring : List ℤ
  pub at : ℕ
  pub shown : List Shown

-- how the day ended: the ring is "what the entries accepted till then made of it"
pub record Day : Type 0 where
  pub verdict : Verdict
  pub ring : List ℤ
  pub shown : List Shown

abbrev pub ends : Verdict → State → Day
ends v s = record { verdict = v; ring = s.ring; shown = s.shown }

-- the interval here, read and entered
abbrev pub taken_here : Bill → State → Taking.Outcome
taken_here bill s = Taking.taken s.book s.ring bill.records s.at bill.schedule bill.region

abbrev pub after : State → Taking.Outcome → State
after s o = record { book = o.book; ring = o.ring; at = o.next; shown = s.shown ++ (shown_as o.number o.price ∷ []) }

-- "all refusals of the records and entries, taken interval by interval": at most n intervals, to the records' end or the first refusal
unfoldable pub runs : ℕ → Bill → State → Day
runs zero bill s = ends accepted s
runs (suc n) bill s =
    pick (leb (length bill.records) s.at) (ends accepted s)
    (pick (is_accepted (taken_here bill s).verdict) (runs n bill (after s (taken_here bill s)))
    (ends (taken_here bill s).verdict s))

-- from "the book before the first interval". No interval is without bytes, so that there are no more intervals than these
abbrev pub begins : Book → List ℤ → State
begins b ring = record { book = b; ring = ring; at = 0; shown = [] }

abbrev pub day_of : Book → List ℤ → Bill → Day
day_of b ring bill = runs (length bill.records) bill (begins b ring)

-- ---- the call
pub record Outcome : Type 0 where
  pub verdict : Verdict
  pub right : ℕ
  pub line : ℕ
  pub book : Book
  pub work : List ℤ

abbrev pub refusal : Verdict → Book → List ℤ → Outcome
refusal v b work = record { verdict = v; right = 0; line = 0; book = b; work = work }

-- "46 .. after all refusals of the records and entries", then yes (1) or the first wrong line. "The lent book isn't altered", and the
-- second ring is the day's in each case
abbrev pub judged : Book → Lines → Day → Outcome
judged b l d =
    pick (not (is_accepted d.verdict)) (refusal d.verdict b d.ring)
    (pick (ltb (first_heavy l.energy) (length l.energy)) (refusal (refused_at 46 (first_heavy l.energy)) b d.ring)
    (pick (ltb (first_wrong l d.shown) (how_long l d.shown))
    (record { verdict = accepted; right = 0; line = first_wrong l d.shown; book = b; work = d.ring })
    (record { verdict = accepted; right = 1; line = 0; book = b; work = d.ring })))

abbrev pub lengths_of : List ℤ → List ℤ → Bill → Lengths
lengths_of ring work bill = record {
  ring = length ring;
  work = length work;
  schedule = length bill.schedule;
  numbers = length bill.lines.numbers;
  energy = length bill.lines.energy;
  prices = length bill.lines.prices;
  amounts = length bill.lines.amounts;
}

-- "a second ring, which, once 10, 11 and 21 pass, is made a copy of the book's": before that it stays as it was
unfoldable pub billed : Book → List ℤ → List ℤ → Bill → Outcome
billed b ring work bill =
    let v = lent_verdict b (lengths_of ring work bill) bill.region in
    pick (is_accepted v) (judged b bill.lines (day_of b ring bill)) (refusal v b work)

-- the paper's values for each case: no wrong line, the first, or a refusal
abbrev pub right_in : Result (Option ℕ) Refusal → ℕ
right_in (Ok None) = 1
right_in (Ok (Some line)) = 0
right_in (Err r) = 0

abbrev pub line_in : Result (Option ℕ) Refusal → ℕ
line_in (Ok None) = 0
line_in (Ok (Some line)) = line
line_in (Err r) = 0

abbrev pub outcome : Reply (Option ℕ) → List ℤ → Outcome
outcome r work = record {
  verdict = verdict r.answer;
  right = right_in r.answer;
  line = line_in r.answer;
  book = r.book;
  work = work;
}
