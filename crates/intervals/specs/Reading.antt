-- Reading an interval from its records. Assumes nothing.
use Rattle.std.specs.Prelude.{Result, Ok, Err, Bool, not, List, [], ◌∷◌, ◌++◌, ℕ, ◌+◌, ◌*◌, ◌/◌, ◌%◌, ℤ}
use Rattle.std.specs.Int.{w32}
use Rattle.std.proofs.Common.{to_z}
use Rattle.laws.specs.Base.{pick}
use Rattle.laws.specs.Lists.{tabulate}
use Rattle.laws.specs.Bytes.{number_at}
use Rattle.pricing.specs.Verdict.{Verdict, accepted, refused}
use Rattle.book.specs.declared.record.Book.{Book}
use Rattle.book.specs.Record.{markets_of, has_link, verdict, is_accepted}
use Rattle.book.specs.Validity.{valid}
use Rattle.intervals.specs.declared.reading.Found.{Found}
use Rattle.book.specs.declared.record.Reply.{Reply}
use Rattle.book.specs.declared.record.Refusal.{Refusal}
use Rattle.interval_records.specs.Layout.{Interval, interval_of, head_length, length_for}
use Rattle.intervals.specs.Lent.{slices_ok}
use Rattle.interval_records.specs.Record.{record_place}
use Rattle.interval_records.specs.InOrder.{ordered_verdict}

-- ---- what the records say
-- "region (1), mark (1), flow (4), factor (4), M prices (4 each)": the numbers of region r, whose record is `which r` of those from
-- `first` on
abbrev pub mark_from : ℕ → List ℕ → ℕ → (ℕ → ℕ) → ℕ → ℕ
mark_from markets bytes first which r = number_at bytes (record_place markets first (which r) + 7) 1

abbrev pub flow_from : ℕ → List ℕ → ℕ → (ℕ → ℕ) → ℕ → ℤ
flow_from markets bytes first which r = to_z w32 (number_at bytes (record_place markets first (which r) + 8) 4)

abbrev pub factor_from : ℕ → List ℕ → ℕ → (ℕ → ℕ) → ℕ → ℕ
factor_from markets bytes first which r = number_at bytes (record_place markets first (which r) + 12) 4

-- price q of "R × M prices (region by region)"
abbrev pub price_from : ℕ → List ℕ → ℕ → (ℕ → ℕ) → ℕ → ℤ
price_from markets bytes first which q =
    to_z w32 (number_at bytes (record_place markets first (which (q / markets)) + 16 + 4 * (q % markets)) 4)

-- the additional link's "flow (4) and factor (4), after the last region", "positive from the first named to the second"
abbrev pub link_flow : ℕ → ℕ → List ℕ → ℕ → ℤ
link_flow regions markets bytes first = to_z w32 (number_at bytes (record_place markets first regions + 6) 4)

abbrev pub link_factor : ℕ → ℕ → List ℕ → ℕ → ℕ
link_factor regions markets bytes first = number_at bytes (record_place markets first regions + 10) 4

-- an interval whose region r is record `which r` of those behind its head; the link's flow and factor are "an extra last place"
abbrev pub interval_at : Bool → ℕ → ℕ → List ℕ → ℕ → (ℕ → ℕ) → Interval
interval_at linked regions markets bytes at which = record {
  number = number_at bytes (at + 6) 4;
  kind = number_at bytes (at + 10) 1;
  prices = tabulate (regions * markets) (price_from markets bytes (at + head_length) which);
  marked = tabulate regions (mark_from markets bytes (at + head_length) which);
  flows =
      tabulate regions (flow_from markets bytes (at + head_length) which)
      ++ pick linked (link_flow regions markets bytes (at + head_length) ∷ []) [];
  factors =
      tabulate regions (factor_from markets bytes (at + head_length) which)
      ++ pick linked (link_factor regions markets bytes (at + head_length) ∷ []) [];
}

-- ---- the call
-- "10, 11 .. come first; per record 40, 41", then 45, which "in the reader .. takes the place of 42"
unfoldable pub read_verdict : Book → Interval → List ℕ → ℕ → Verdict
read_verdict b lent bytes at =
    pick (not (valid b)) (refused 10)
    (pick (not (slices_ok b lent)) (refused 11)
    (ordered_verdict (has_link b) b.regions (markets_of b.services) bytes at))

pub record Outcome : Type 0 where
  pub verdict : Verdict
  pub next : ℕ
  pub book : Book
  pub interval : Interval

-- the paper's values for each case
abbrev pub next_in : Result Found Refusal → ℕ
next_in (Ok f) = f.next
next_in (Err r) = 0

abbrev pub number_in : Result Found Refusal → ℕ
number_in (Ok f) = f.number
number_in (Err r) = 0

abbrev pub kind_in : Result Found Refusal → ℕ
kind_in (Ok f) = f.kind
kind_in (Err r) = 0

abbrev pub outcome : Reply Found → List ℤ → List ℕ → List ℤ → List ℕ → Outcome
outcome r prices marked flows factors = record {
  verdict = verdict r.answer;
  next = next_in r.answer;
  book = r.book;
  interval = interval_of (number_in r.answer) (kind_in r.answer) prices marked flows factors;
}

-- accepted: the interval of the records and "the place after it"; refused: what was lent, and zeros
unfoldable pub read_interval : Book → List ℕ → ℕ → Interval → Outcome
read_interval b bytes at lent =
    let regions = b.regions in
    let markets = markets_of b.services in
    pick (is_accepted (read_verdict b lent bytes at))
    (record {
      verdict = accepted;
      next = at + length_for b;
      book = b;
      interval = interval_at (has_link b) regions markets bytes at (λ r. r);
    })
    (record { verdict = read_verdict b lent bytes at; next = 0; book = b; interval = lent })
