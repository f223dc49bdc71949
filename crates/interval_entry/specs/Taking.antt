-- An interval of a day: read from its records, then entered. Assumes nothing.
use Rattle.std.specs.Prelude.{Result, Ok, Err, not, List, ℕ, ◌*◌, ℤ, pos, get_or, replicate}
use Rattle.laws.specs.Base.{pick}
use Rattle.pricing.specs.Verdict.{Verdict, accepted}
use Rattle.book.specs.declared.record.Book.{Book}
use Rattle.book.specs.Record.{markets_of, table_size, link_count, verdict, is_accepted}
use Rattle.publishing.specs.Entry.{entry_of}
use Rattle.entries.specs.Entering as Entering
use Rattle.interval_records.specs.Layout.{Interval, interval_of}
use Rattle.intervals.specs.Reading as Reading
use Rattle.interval_entry.specs.declared.Step.{Step}
use Rattle.book.specs.declared.record.Reply.{Reply}
use Rattle.book.specs.declared.record.Refusal.{Refusal}

-- room of the book's own sizes for what is read and for what is published
abbrev pub blank : Book → Interval
blank b =
    interval_of 0 0 (replicate (table_size b.regions b.services) (pos 0)) (replicate b.regions 0)
    (replicate (link_count b) (pos 0)) (replicate (link_count b) 0)

abbrev pub blank_table : Book → List ℤ
blank_table b = replicate (table_size b.regions b.services) (pos 0)

-- an interval's entry, with a schedule: what `enter` promises
abbrev pub entered_from : Book → List ℤ → List ℤ → List ℤ → Interval → Entering.Outcome
entered_from b ring schedule table v =
    Entering.entered b ring v.number (entry_of v.kind v.prices v.marked v.flows v.factors schedule) table

-- the book and its ring after an interval, its number, a region's published energy price, and the place after it
pub record Outcome : Type 0 where
  pub verdict : Verdict
  pub next : ℕ
  pub number : ℕ
  pub price : ℤ
  pub book : Book
  pub ring : List ℤ

abbrev pub stopped : Verdict → Book → List ℤ → Outcome
stopped v b ring = record { verdict = v; next = 0; number = 0; price = pos 0; book = b; ring = ring }

-- "published energy price": the table's number at region × M
abbrev pub gone : Book → ℕ → Reading.Outcome → Entering.Outcome → Outcome
gone b region r e = record {
  verdict = accepted;
  next = r.next;
  number = r.interval.number;
  price = get_or e.table (region * markets_of b.services) (pos 0);
  book = e.book;
  ring = e.ring;
}

-- the reader's refusal, then the entry's, which gives "the place within [its] own entry"; after a refusal book and ring are as they were
abbrev pub outcome_of : Book → List ℤ → ℕ → Reading.Outcome → Entering.Outcome → Outcome
outcome_of b ring region r e =
    pick (not (is_accepted r.verdict)) (stopped r.verdict b ring)
    (pick (not (is_accepted e.verdict)) (stopped e.verdict b ring)
    (gone b region r e))

-- the interval at a place of the records, read into what is lent and published into a table
unfoldable pub taken_into : Interval → List ℤ → Book → List ℤ → List ℕ → ℕ → List ℤ → ℕ → Outcome
taken_into lent table b ring records at schedule region =
    let r = Reading.read_interval b records at lent in outcome_of b ring region r (entered_from b ring schedule table r.interval)

abbrev pub taken : Book → List ℤ → List ℕ → ℕ → List ℤ → ℕ → Outcome
taken b = taken_into (blank b) (blank_table b) b

-- the paper's values for each case
abbrev pub next_in : Result Step Refusal → ℕ
next_in (Ok s) = s.next
next_in (Err r) = 0

abbrev pub number_in : Result Step Refusal → ℕ
number_in (Ok s) = s.number
number_in (Err r) = 0

abbrev pub price_in : Result Step Refusal → ℤ
price_in (Ok s) = s.price
price_in (Err r) = pos 0

abbrev pub outcome : Reply Step → List ℤ → Outcome
outcome r ring = record {
  verdict = verdict r.answer;
  next = next_in r.answer;
  number = number_in r.answer;
  price = price_in r.answer;
  book = r.book;
  ring = ring;
}
