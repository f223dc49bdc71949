-- Writing an interval as records. Assumes nothing.
use Rattle.std.specs.Prelude.{Result, Ok, Err, not, List, ◌++◌, ℕ, ltb, length, drop}
use Rattle.laws.specs.Base.{pick}
use Rattle.pricing.specs.Verdict.{Verdict, accepted, refused}
use Rattle.book.specs.declared.record.Book.{Book}
use Rattle.book.specs.Record.{markets_of, has_link, verdict, is_accepted}
use Rattle.book.specs.Validity.{valid}
use Rattle.book.specs.declared.record.Reply.{Reply}
use Rattle.book.specs.declared.record.Refusal.{Refusal}
use Rattle.interval_records.specs.Layout.{Interval, length_for, interval_bytes}
use Rattle.intervals.specs.Lent.{lengths_ok}

-- "10, 11 and the writer's 23"
unfoldable pub write_lengths : Book → ℕ → ℕ → ℕ → ℕ → ℕ → Verdict
write_lengths b prices marked flows factors room =
    pick (not (valid b)) (refused 10)
    (pick (not (lengths_ok b prices marked flows factors)) (refused 11)
    (pick (ltb room (length_for b)) (refused 23)
    accepted))

abbrev pub write_verdict : Book → Interval → ℕ → Verdict
write_verdict b v room =
    write_lengths b (length v.prices) (length v.marked) (length v.flows) (length v.factors) room

pub record Outcome : Type 0 where
  pub verdict : Verdict
  pub length : ℕ
  pub book : Book
  pub buffer : List ℕ

abbrev pub length_in : Result ℕ Refusal → ℕ
length_in (Ok n) = n
length_in (Err r) = 0

abbrev pub outcome : Reply ℕ → List ℕ → Outcome
outcome r buffer = record { verdict = verdict r.answer; length = length_in r.answer; book = r.book; buffer = buffer }

-- "from the buffer's start"; the bytes after the interval stay
unfoldable pub write_interval : Book → Interval → List ℕ → Outcome
write_interval b v buffer =
    pick (is_accepted (write_verdict b v (length buffer)))
    (record {
      verdict = accepted;
      length = length_for b;
      book = b;
      buffer = interval_bytes (has_link b) b.regions (markets_of b.services) v ++ drop (length_for b) buffer;
    })
    (record { verdict = write_verdict b v (length buffer); length = 0; book = b; buffer = buffer })
