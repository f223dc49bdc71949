-- Reading an interval of the earlier form, as request 2026-01's reader did, with the additional link of 2026-10 behind it. No function
-- is of it any more: it says what the rewriter's theorems are about. Assumes nothing.
use Rattle.std.specs.Prelude.{not, List, ℕ, ◌+◌}
use Rattle.laws.specs.Base.{pick}
use Rattle.pricing.specs.Verdict.{Verdict, accepted, refused}
use Rattle.book.specs.declared.record.Book.{Book}
use Rattle.book.specs.Record.{markets_of, has_link, is_accepted}
use Rattle.book.specs.Validity.{valid}
use Rattle.interval_records.specs.Layout.{Interval, head_length, length_for}
use Rattle.intervals.specs.Lent.{slices_ok}
use Rattle.intervals.specs.Reading.{Outcome, interval_at}
use Rattle.interval_rewriter.specs.AnyOrder.{records_verdict, record_of}

-- "10, 11 .. come first; per record 40, 41, 42"
unfoldable pub earlier_verdict : Book → Interval → List ℕ → ℕ → Verdict
earlier_verdict b lent bytes at =
    pick (not (valid b)) (refused 10)
    (pick (not (slices_ok b lent)) (refused 11)
    (records_verdict (has_link b) b.regions (markets_of b.services) bytes at))

-- "One head is followed by R region records, each region once, in any order": accepted, each region's numbers are those of its own record
unfoldable pub read_earlier : Book → List ℕ → ℕ → Interval → Outcome
read_earlier b bytes at lent =
    let regions = b.regions in
    let markets = markets_of b.services in
    pick (is_accepted (earlier_verdict b lent bytes at))
    (record {
      verdict = accepted;
      next = at + length_for b;
      book = b;
      interval = interval_at (has_link b) regions markets bytes at (record_of regions markets bytes (at + head_length));
    })
    (record { verdict = earlier_verdict b lent bytes at; next = 0; book = b; interval = lent })
