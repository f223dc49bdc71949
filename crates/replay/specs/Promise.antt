-- What a replay promises: the bytes of the ledger machine's answers (demand 3 of one compiled function). Assumes nothing.
--
-- In words: where the bytes begin with an opening, the replay writes the opening's answer and then, one after the other, the
-- answers of the ledger machine P to the calls that stand in the bytes, each as a record. After a refused opening there is no
-- ledger and the book is closed: every call is refused by 10.
use Rattle.std.specs.Prelude.{List, [], ◌∷◌, ◌++◌, ℕ, zero, suc, ◌+◌, ◌-◌, length}
use Rattle.laws.specs.Base.{pick}
use Rattle.pricing.specs.Verdict.{Verdict, refused}
use Rattle.book.specs.Record.{is_accepted}
use Rattle.book_calls.specs.Opening.{open_verdict}
use Rattle.ledger.specs.Calls.{Call, entry, threshold, limits, report, restart, Answer, entered, set, reported, restarted, answers, refused_answer}
use Rattle.ledger.specs.Ledger as Ledger
use Rattle.records.specs.Reading.{opening_size, settings_in, call_size, answer_size, goes}
use Rattle.records.specs.Writing.{plain_record, entry_record, report_record}
use Rattle.playing.specs.Fed.{Lengths, call_at}
use Rattle.replay.specs.Replay.{Lent, part_of, size_in, begun}

-- ---- the calls in the bytes
-- at most so many calls from a place, with so many bytes left for the answers
unfoldable pub calls_from : ℕ → Lengths → List ℕ → ℕ → ℕ → List Call
calls_from zero m c at left = []
calls_from (suc n) m c at left =
    pick (goes m.room c at left) (call_at m c at ∷ calls_from n m c (at + call_size c at) (left - answer_size c at)) []

-- how long what is lent is
pub record Sizes : Type 0 where
  pub answers : ℕ
  pub ring : ℕ
  pub other : ℕ
  pub image : ℕ
  pub numbers : ℕ
  pub factors : ℕ
  pub table : ℕ

abbrev pub sizes_of : Lent → Sizes
sizes_of m = record {
  answers = length m.answers;
  ring = length m.ring;
  other = length m.other;
  image = length m.image;
  numbers = length m.numbers;
  factors = length m.factors;
  table = length m.table;
}

abbrev pub lengths_of : List ℕ → Sizes → Lengths
lengths_of c z = record {
  room = record { ring = part_of (size_in c) z.ring; numbers = z.numbers; factors = z.factors; table = z.table };
  other = part_of (size_in c) z.other;
  image = z.image;
}

abbrev pub calls_in : List ℕ → Sizes → List Call
calls_in c z = calls_from (length c) (lengths_of c z) c opening_size (z.answers - 14)

-- ---- the answers as bytes: a call's kind, and its answer's record
abbrev pub kind_of : Call → ℕ
kind_of (entry ring number e table) = 65
kind_of (threshold x) = 66
kind_of (limits c f) = 67
kind_of (report region market) = 68
kind_of (restart second buffer ring) = 69

abbrev pub record_of : Call → Answer → List ℕ
record_of c (entered v count table) = entry_record v count table
record_of c (set v) = plain_record (kind_of c) v
record_of c (reported numbers) = report_record numbers
record_of c (restarted v) = plain_record (kind_of c) v

unfoldable pub records_of : List Call → List Answer → List ℕ
records_of [] l = []
records_of (c ∷ L) [] = []
records_of (c ∷ L) (a ∷ l) = record_of c a ++ records_of L l

-- ---- P's answers
unfoldable pub refusals : List Call → List Answer
refusals [] = []
refusals (c ∷ L) = refused_answer c (refused 10) ∷ refusals L

abbrev pub ledger_answers : List ℕ → Verdict → List Call → List Answer
ledger_answers c v L = pick (is_accepted v) (answers Ledger.play (Ledger.begin (settings_in c)) L) (refusals L)

-- the opening's verdict on the part of a ring that it is lent
abbrev pub opening_verdict : List ℕ → Sizes → Verdict
opening_verdict c z = open_verdict (settings_in c) (part_of (size_in c) z.ring)

-- the bytes that a replay writes, of what is lent by the lengths alone
unfoldable pub promised_for : List ℕ → Sizes → List ℕ
promised_for c z =
    pick (begun c z.answers)
    (plain_record 64 (opening_verdict c z) ++ records_of (calls_in c z) (ledger_answers c (opening_verdict c z) (calls_in c z)))
    []

abbrev pub promised : List ℕ → Lent → List ℕ
promised c m = promised_for c (sizes_of m)
