-- What a host in C is answered, and the outcome of the call's own definition that it stands for. Assumes nothing.
use Rattle.std.specs.Prelude.{Bool, not, List, ℕ, eqb, ℤ}
use Rattle.pricing.specs.Verdict.{Verdict}
use Rattle.book.specs.declared.record.Book.{Book}
use Rattle.book_calls.specs.Opening as Opening
use Rattle.book_calls.specs.Setting as Setting
use Rattle.book_calls.specs.Report as Report
use Rattle.image.specs.Storing as Storing
use Rattle.image.specs.Loading as Loading
use Rattle.entries.specs.Entering as Entering
use Rattle.interval_records.specs.Layout.{interval_of}
use Rattle.intervals.specs.Reading as Reading
use Rattle.interval_writer.specs.Writing as Writing
use Rattle.interval_rewriter.specs.Rewriting as Rewriting
use Rattle.billing.specs.Billing as Billing
use Rattle.planning.specs.Left as Planning
use Rattle.schedule.specs.Schedule as Schedule
use Rattle.synthetic.specs.Synthetic as Synthetic
use Rattle.face.specs.declared.Kept.{Kept}
use Rattle.face.specs.declared.Taken.{Taken}
use Rattle.face.specs.declared.Seen.{Seen}
use Rattle.face.specs.declared.Written.{Written}
use Rattle.face.specs.declared.Found.{Found}
use Rattle.face.specs.declared.Rewritten.{Rewritten}
use Rattle.face.specs.declared.Drawn.{Drawn}
use Rattle.face.specs.declared.Left.{Left}
use Rattle.face.specs.declared.Billed.{Billed}
use Rattle.face.specs.declared.Rows.{Rows}

-- "number" and "place" beside each other: number 0 is an acceptance
abbrev pub verdict_by : ℕ → ℕ → Verdict
verdict_by number place = record { number = number; place = place }

-- ---- an answer as the outcome that it stands for, with the lent slices as they then are
abbrev pub opened_of : Kept → List ℤ → Opening.Outcome
opened_of r ring = record { verdict = verdict_by r.number r.place; book = r.book; ring = ring }

abbrev pub changed_of : Kept → Setting.Outcome
changed_of r = record { verdict = verdict_by r.number r.place; book = r.book }

abbrev pub loaded_of : Kept → List ℤ → Loading.Outcome
loaded_of r ring = record { verdict = verdict_by r.number r.place; book = r.book; ring = ring }

abbrev pub taken_of : Taken → List ℤ → List ℤ → Entering.Outcome
taken_of r ring table =
    record { verdict = verdict_by r.number r.place; count = r.count; book = r.book; ring = ring; table = table }

-- "Report: 10; 21", which have no place
abbrev pub numbers_of : Seen → Report.Numbers
numbers_of r =
    record { verdict = verdict_by r.number 0; sum = r.sum; counted = r.counted; mark = r.mark; entries = r.entries }

-- "Store: 10; 11; 22 ..; 23", which have no place; the book is the caller's
abbrev pub stored_of : Written → Book → List ℕ → Storing.Outcome
stored_of r book buffer = record { verdict = verdict_by r.number 0; length = r.length; book = book; buffer = buffer }

-- 2026-01: "10, 11", 40, 41, and 2026-08's 45, which have no place; the book is the caller's
abbrev pub read_of : Found → Book → List ℤ → List ℕ → List ℤ → List ℕ → Reading.Outcome
read_of r book prices marked flows factors = record {
  verdict = verdict_by r.number 0;
  next = r.next;
  book = book;
  interval = interval_of r.entry r.kind prices marked flows factors;
}

-- 2026-01: "10, 11 and the writer's 23", which have no place; the book is the caller's
abbrev pub write_of : Written → Book → List ℕ → Writing.Outcome
write_of r book buffer = record { verdict = verdict_by r.number 0; length = r.length; book = book; buffer = buffer }

-- 2026-08: "10, 23, then 40 to 42", which have no place; the book is the caller's
abbrev pub rewrite_of : Rewritten → Book → List ℕ → Rewriting.Outcome
rewrite_of r book buffer = record { verdict = verdict_by r.number 0; next = r.next; book = book; buffer = buffer }

-- 2026-07: "10, then 11 over the filled slices", which have no place; the book is the caller's
abbrev pub synthesized_of : Drawn → Book → List ℤ → List ℕ → List ℤ → List ℕ → Synthetic.Outcome
synthesized_of r book prices marked flows factors = record {
  verdict = verdict_by r.number 0;
  seed = r.seed;
  book = book;
  interval = interval_of r.entry r.kind prices marked flows factors;
}

-- 2026-02: "10, 11, 21 and store's 22", 43, which have no place; the book is the caller's
abbrev pub planned_of : Left → Book → Planning.Outcome
planned_of r book = record { verdict = verdict_by r.number 0; intervals = r.intervals; book = book }

-- 2026-09: "15 to 17 give the place within their own entry", and 46 the line; the book is the caller's
abbrev pub judged_of : Billed → Book → List ℤ → Billing.Outcome
judged_of r book work =
    record { verdict = verdict_by r.number r.place; right = r.right; line = r.line; book = book; work = work }

abbrev pub rows_of : Rows → Schedule.Outcome
rows_of r = record { verdict = verdict_by r.number r.place; weekday = r.weekday; weekend = r.weekend }

-- a byte from C: 0 is a service, anything else energy
abbrev pub energy_of : ℕ → Bool
energy_of energy = not (eqb energy 0)

-- ---- the answer that carries an outcome's numbers
abbrev pub kept_by : Verdict → Book → Kept
kept_by v book = record { book = book; number = v.number; place = v.place }

abbrev pub taken_by : Verdict → ℕ → Book → Taken
taken_by v count book = record { book = book; number = v.number; place = v.place; count = count }

abbrev pub seen_by : Report.Numbers → Seen
seen_by n = record { number = n.verdict.number; counted = n.counted; mark = n.mark; entries = n.entries; sum = n.sum }

abbrev pub written_by : Verdict → ℕ → Written
written_by v length = record { number = v.number; length = length }

abbrev pub found_by : Verdict → ℕ → ℕ → ℕ → Found
found_by v next entry kind = record { number = v.number; next = next; entry = entry; kind = kind }

abbrev pub rewritten_by : Verdict → ℕ → Rewritten
rewritten_by v next = record { number = v.number; next = next }

abbrev pub drawn_by : Verdict → ℕ → ℕ → ℕ → Drawn
drawn_by v seed entry kind = record { number = v.number; seed = seed; entry = entry; kind = kind }

abbrev pub left_by : Verdict → ℕ → Left
left_by v intervals = record { number = v.number; intervals = intervals }

abbrev pub billed_by : Verdict → ℕ → ℕ → Billed
billed_by v right line = record { number = v.number; place = v.place; right = right; line = line }
