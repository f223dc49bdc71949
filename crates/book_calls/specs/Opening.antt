-- Opening a book. Assumes nothing.
use Rattle.std.specs.Prelude.{Bool, not, ◌&&◌, List, ℕ, eqb, ℤ, pos, length, replicate}
use Rattle.laws.specs.Base.{pick}
use Rattle.pricing.specs.Verdict.{Verdict, accepted, refused}
use Rattle.pricing.specs.Holding.{limits_ok}
use Rattle.book.specs.declared.record.Book.{Book}
use Rattle.book.specs.declared.record.Settings.{Settings}
use Rattle.book.specs.declared.record.Reply.{Reply}
use Rattle.book.specs.Record.{closed, ring_size, verdict, is_accepted}
use Rattle.book.specs.Validity.{shape_ok, parents_ok, ends_ok}
use Rattle.book_calls.specs.Setting.{threshold_verdict}

-- 20 "a setting", and "20 bad ends"
abbrev pub settings_ok : Settings → Bool
settings_ok s =
    shape_ok s.regions s.services s.window s.halves s.first && parents_ok s.regions s.parents
    && ends_ok s.regions s.parents s.from s.to

-- "Open: 20 a setting; 11 ring length; 18 threshold; 19 cap or floor", and 44 "directly after 18"
unfoldable pub open_verdict : Settings → ℕ → Verdict
open_verdict s ring =
    pick (not (settings_ok s)) (refused 20)
    (pick (not (eqb ring (ring_size s.regions s.services s.window))) (refused 11)
    (pick (not (is_accepted (threshold_verdict s.threshold))) (threshold_verdict s.threshold)
    (pick (not (limits_ok s.cap s.floor)) (refused 19)
    accepted)))

-- a book as opened: no entry, no price counted, nothing administered
abbrev pub fresh : Settings → Book
fresh s = record {
  regions = s.regions;
  services = s.services;
  window = s.window;
  halves = s.halves;
  parents = s.parents;
  from = s.from;
  to = s.to;
  threshold = s.threshold;
  cap = s.cap;
  floor = s.floor;
  entries = 0;
  position = s.first;
  counts = replicate 8 0;
  nexts = replicate 8 0;
  sums = replicate 88 (pos 0);
  marks = replicate 88 0;
}

pub record Outcome : Type 0 where
  pub verdict : Verdict
  pub book : Book
  pub ring : List ℤ

abbrev pub outcome : Reply Unit → List ℤ → Outcome
outcome r ring = record { verdict = verdict r.answer; book = r.book; ring = ring }

-- accepted: a fresh book and a ring "zeroed by opening"; refused: the closed book and the ring as it was
unfoldable pub opened : Settings → List ℤ → Outcome
opened s ring =
    pick (is_accepted (open_verdict s (length ring)))
    (record { verdict = accepted; book = fresh s; ring = replicate (length ring) (pos 0) })
    (record { verdict = open_verdict s (length ring); book = closed; ring = ring })
