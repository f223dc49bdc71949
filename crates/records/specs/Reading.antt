-- Records of calls, read from bytes (docs/RECORDS.md). Assumes nothing.
use Rattle.std.specs.Prelude.{Bool, true, not, ◌&&◌, List, ◌++◌, ℕ, ◌+◌, ◌-◌, ◌*◌, eqb, leb, ltb, ℤ, length, take, drop}
use Rattle.std.specs.Int.{w32, w64}
use Rattle.std.proofs.Common.{to_z}
use Rattle.laws.specs.Base.{pick}
use Rattle.laws.specs.Lists.{tabulate}
use Rattle.laws.specs.Bytes.{number_at, price_at}
use Rattle.book.specs.declared.record.Settings.{Settings}
use Rattle.publishing.specs.Entry.{Entry, entry_of}
use Rattle.records.specs.declared.reading.Lengths.{Lengths}
use Rattle.records.specs.declared.reading.Room.{Room}

-- ---- numbers in bytes: so many signed ones, unsigned ones and single bytes from a place
abbrev pub words_at : List ℕ → ℕ → ℕ → List ℤ
words_at c at n = tabulate n (price_at c at)

abbrev pub numbers_at : List ℕ → ℕ → ℕ → List ℕ
numbers_at c at n = tabulate n (λ i. number_at c (at + 4 * i) 4)

abbrev pub bytes_at : List ℕ → ℕ → ℕ → List ℕ
bytes_at c at n = take n (drop at c)

-- ---- a record begins with its length, four bytes, and its kind, two
abbrev pub size_at : List ℕ → ℕ → ℕ
size_at c at = number_at c at 4

abbrev pub kind_at : List ℕ → ℕ → ℕ
kind_at c at = number_at c (at + 4) 2

-- ---- the opening, kind 64, which is the first record: its fields end to end, byte 11 is zero
abbrev pub opening_size : ℕ
opening_size = 38

abbrev pub parent_at : List ℕ → ℕ → ℕ
parent_at c i = number_at c (14 + i) 1

abbrev pub settings_in : List ℕ → Settings
settings_in c = record {
  regions = number_at c 6 1;
  services = number_at c 7 1;
  window = number_at c 8 2;
  halves = number_at c 10 1;
  first = number_at c 12 2;
  parents = tabulate 8 (parent_at c);
  from = 255;
  to = 255;
  threshold = to_z w64 (number_at c 22 8);
  cap = to_z w32 (number_at c 30 4);
  floor = to_z w32 (number_at c 34 4);
}

unfoldable pub opens : List ℕ → Bool
opens c = leb opening_size (length c) && (eqb (size_at c 0) opening_size && (eqb (kind_at c 0) 64 && eqb (number_at c 11 1) 0))

-- ---- an entry, kind 65: number, day kind, a zero byte, and the lengths of prices, marks, flows, factors, schedule, table and ring
abbrev pub lengths_at : List ℕ → ℕ → Lengths
lengths_at c at = record {
  prices = number_at c (at + 12) 4;
  marks = number_at c (at + 16) 4;
  flows = number_at c (at + 20) 4;
  factors = number_at c (at + 24) 4;
  schedule = number_at c (at + 28) 4;
  table = number_at c (at + 32) 4;
  ring = number_at c (at + 36) 4;
}

-- the contents of the first six stand in that order, marks a byte each, all others four: where each begins in the record
abbrev pub prices_from : ℕ
prices_from = 40

abbrev pub marks_from : Lengths → ℕ
marks_from l = 40 + 4 * l.prices

abbrev pub flows_from : Lengths → ℕ
flows_from l = marks_from l + l.marks

abbrev pub factors_from : Lengths → ℕ
factors_from l = flows_from l + 4 * l.flows

abbrev pub schedule_from : Lengths → ℕ
schedule_from l = factors_from l + 4 * l.factors

abbrev pub table_from : Lengths → ℕ
table_from l = schedule_from l + 4 * l.schedule

abbrev pub entry_size : Lengths → ℕ
entry_size l = table_from l + 4 * l.table

abbrev pub prices_at : List ℕ → ℕ → List ℤ
prices_at c at = words_at c (at + prices_from) (lengths_at c at).prices

abbrev pub marks_at : List ℕ → ℕ → List ℕ
marks_at c at = bytes_at c (at + marks_from (lengths_at c at)) (lengths_at c at).marks

abbrev pub flows_at : List ℕ → ℕ → List ℤ
flows_at c at = words_at c (at + flows_from (lengths_at c at)) (lengths_at c at).flows

abbrev pub factors_at : List ℕ → ℕ → List ℕ
factors_at c at = numbers_at c (at + factors_from (lengths_at c at)) (lengths_at c at).factors

abbrev pub schedule_at : List ℕ → ℕ → List ℤ
schedule_at c at = words_at c (at + schedule_from (lengths_at c at)) (lengths_at c at).schedule

abbrev pub table_at : List ℕ → ℕ → List ℤ
table_at c at = words_at c (at + table_from (lengths_at c at)) (lengths_at c at).table

-- the entry of a record, and its number
abbrev pub entry_at : List ℕ → ℕ → Entry
entry_at c at = entry_of (number_at c (at + 10) 1) (prices_at c at) (marks_at c at) (flows_at c at) (factors_at c at) (schedule_at c at)

abbrev pub entry_number : List ℕ → ℕ → ℕ
entry_number c at = number_at c (at + 6) 4

-- the signed numbers of an entry, one after the other
abbrev pub signed_at : List ℕ → ℕ → List ℤ
signed_at c at = prices_at c at ++ (flows_at c at ++ schedule_at c at)

-- ---- whole records
-- how long an entry's record is by its own lengths, 0 where it is cut short or its zero byte isn't zero
unfoldable pub entry_size_at : List ℕ → ℕ → ℕ
entry_size_at c at =
    pick (ltb (length c - at) 40) 0
    (pick (not (eqb (number_at c (at + 11) 1) 0)) 0
    (entry_size (lengths_at c at)))

-- how long a call's record of a kind is, 0 for an unknown kind
unfoldable pub size_for : List ℕ → ℕ → ℕ → ℕ
size_for c at kind =
    pick (eqb kind 65) (entry_size_at c at)
    (pick (leb 66 kind && leb kind 68) 14
    (pick (eqb kind 69) 6 0))

-- the length of the whole record of a call at a place, 0 where none stands; there the replay ends
unfoldable pub call_size : List ℕ → ℕ → ℕ
call_size c at =
    pick (ltb (length c - at) 6) 0
    (pick (ltb (length c - at) (size_at c at)) 0
    (pick (eqb (size_at c at) (size_for c at (kind_at c at))) (size_at c at) 0))

-- ---- what fits the room that a replay is lent
-- an entry's contents and ring fit
abbrev pub fits : Room → Lengths → Bool
fits m l =
    leb (l.prices + l.flows + l.schedule) m.numbers
    && (leb l.factors m.factors && (leb l.table m.table && leb l.ring m.ring))

-- how many bytes the answer to the call at a place takes
unfoldable pub answer_size : List ℕ → ℕ → ℕ
answer_size c at =
    pick (eqb (kind_at c at) 65) (18 + 4 * (lengths_at c at).table)
    (pick (eqb (kind_at c at) 68) 34 14)

-- the call at a place is played: its record stands whole, its contents fit, and so does its answer
unfoldable pub goes : Room → List ℕ → ℕ → ℕ → Bool
goes m c at left =
    not (eqb (call_size c at) 0)
    && (pick (eqb (kind_at c at) 65) (fits m (lengths_at c at)) true && leb (answer_size c at) left)
