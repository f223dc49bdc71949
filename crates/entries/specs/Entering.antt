-- The whole call of an entry. Assumes nothing.
use Rattle.std.specs.Prelude.{Result, Ok, Err, not, List, ℕ, ◌+◌, ℤ, length}
use Rattle.laws.specs.Base.{pick}
use Rattle.pricing.specs.Verdict.{Verdict, accepted, refused}
use Rattle.book.specs.declared.record.Book.{Book}
use Rattle.book.specs.Record.{markets_of, verdict, is_accepted}
use Rattle.book.specs.Validity.{valid}
use Rattle.publishing.specs.declared.Terms.{Terms}
use Rattle.publishing.specs.Entry.{Entry}
use Rattle.publishing.specs.Published.{table_of, count_of}
use Rattle.book.specs.declared.record.Reply.{Reply}
use Rattle.book.specs.declared.record.Refusal.{Refusal}
use Rattle.entries.specs.Checking.{Shape, entry_verdict}
use Rattle.counting.specs.Windows.{sums_after, counts_after, nexts_after, ring_after}
use Rattle.counting.specs.Periods.{last_of_day, position_after, marks_after}

abbrev pub shape_of : Book → Shape
shape_of b = record {
  regions = b.regions;
  services = b.services;
  window = b.window;
  halves = b.halves;
  parents = b.parents;
  from = b.from;
}

-- what the book brings to publishing: its limits, and the position of this entry
abbrev pub terms_of : Book → Terms
terms_of b = record {
  regions = b.regions;
  markets = markets_of b.services;
  halves = b.halves;
  position = b.position;
  parents = b.parents;
  from = b.from;
  to = b.to;
  cap = b.cap;
  floor = b.floor;
}

-- the book after steps 5 and 6: "Threshold and limit settings act from the next entry", so that they are this book's
abbrev pub book_after : Book → List ℤ → Entry → Book
book_after b ring e = record {
  regions = b.regions;
  services = b.services;
  window = b.window;
  halves = b.halves;
  parents = b.parents;
  from = b.from;
  to = b.to;
  threshold = b.threshold;
  cap = b.cap;
  floor = b.floor;
  entries = b.entries + 1;
  position = position_after b.halves b.position;
  counts = counts_after b e.offer;
  nexts = nexts_after b e.offer;
  sums = sums_after b ring e.offer;
  marks = marks_after b.regions b.services b.threshold (last_of_day b.halves b.position) (sums_after b ring e.offer) b.marks;
}

pub record Outcome : Type 0 where
  pub verdict : Verdict
  pub count : ℕ
  pub book : Book
  pub ring : List ℤ
  pub table : List ℤ

-- the paper's number for each case: the count, or zero beside a refusal
abbrev pub count : Result ℕ Refusal → ℕ
count (Ok n) = n
count (Err r) = 0

abbrev pub outcome : Reply ℕ → List ℤ → List ℤ → Outcome
outcome r ring table =
    record { verdict = verdict r.answer; count = count r.answer; book = r.book; ring = ring; table = table }

abbrev pub enter_verdict : Book → ℕ → ℕ → Entry → ℕ → Verdict
enter_verdict b ring number e table = pick (not (valid b)) (refused 10) (entry_verdict (shape_of b) b.entries ring number e table)

-- accepted: the table by steps 1 to 4 with the marks before the entry, then steps 5 and 6; refused: nothing is written and
-- the count is zero
unfoldable pub entered : Book → List ℤ → ℕ → Entry → List ℤ → Outcome
entered b ring number e table =
    pick (is_accepted (enter_verdict b (length ring) number e (length table)))
    (record {
      verdict = accepted;
      count = count_of (terms_of b) b.marks e;
      book = book_after b ring e;
      ring = ring_after b ring e.offer;
      table = table_of (terms_of b) b.marks e;
    })
    (record { verdict = enter_verdict b (length ring) number e (length table); count = 0; book = b; ring = ring; table = table })
