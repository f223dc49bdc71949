-- The threshold and limit settings of a running book. Assumes nothing.
use Rattle.std.specs.Prelude.{Bool, not, ◌%◌, eqb, ℤ, nat_abs}
use Rattle.laws.specs.Base.{pick}
use Rattle.pricing.specs.Verdict.{Verdict, accepted, refused}
use Rattle.pricing.specs.Holding.{limits_ok}
use Rattle.book.specs.declared.record.Book.{Book}
use Rattle.book.specs.declared.record.Reply.{Reply}
use Rattle.book.specs.Record.{verdict, is_accepted}
use Rattle.book.specs.Validity.{threshold_ok, valid}

-- "Opening and setting should take only multiples of 10,000 cents" (request 2026-06): whole hundreds of dollars
abbrev pub in_hundreds : ℤ → Bool
in_hundreds threshold = eqb (nat_abs threshold % 10000) 0

-- "44: a threshold within range but no multiple of 10,000; directly after 18": of openings and settings alike. "Settings: 10; 18 or 19":
-- this and the next are what follows 10
unfoldable pub threshold_verdict : ℤ → Verdict
threshold_verdict threshold =
    pick (not (threshold_ok threshold)) (refused 18)
    (pick (not (in_hundreds threshold)) (refused 44)
    accepted)

unfoldable pub limits_verdict : ℤ → ℤ → Verdict
limits_verdict cap floor = pick (not (limits_ok cap floor)) (refused 19) accepted

-- the book with another threshold, cap and floor: all that a setting changes, so that it acts "from the next entry"
abbrev pub with_settings : Book → ℤ → ℤ → ℤ → Book
with_settings b threshold cap floor = record {
  regions = b.regions;
  services = b.services;
  window = b.window;
  halves = b.halves;
  parents = b.parents;
  from = b.from;
  to = b.to;
  threshold = threshold;
  cap = cap;
  floor = floor;
  entries = b.entries;
  position = b.position;
  counts = b.counts;
  nexts = b.nexts;
  sums = b.sums;
  marks = b.marks;
}

pub record Outcome : Type 0 where
  pub verdict : Verdict
  pub book : Book

abbrev pub outcome : Reply Unit → Outcome
outcome r = record { verdict = verdict r.answer; book = r.book }

-- 10, then the setting's own refusal; refused: "hand back the lent book unchanged"
abbrev pub changed : Book → Verdict → Book → Outcome
changed b v after =
    pick (not (valid b)) (record { verdict = refused 10; book = b })
    (pick (is_accepted v) (record { verdict = accepted; book = after }) (record { verdict = v; book = b }))

unfoldable pub set_threshold : Book → ℤ → Outcome
set_threshold b threshold = changed b (threshold_verdict threshold) (with_settings b threshold b.cap b.floor)

unfoldable pub set_limits : Book → ℤ → ℤ → Outcome
set_limits b cap floor = changed b (limits_verdict cap floor) (with_settings b b.threshold cap floor)
