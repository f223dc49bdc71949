-- One call of a replay: what it makes of the book and of all that is lent. Assumes nothing.
use Rattle.std.specs.Prelude.{Bool, false, List, ◌++◌, ℕ, ◌+◌, ◌-◌, eqb, ℤ, length, take, drop}
use Rattle.std.proofs.lemmas.List.Edits.{sets}
use Rattle.std.specs.Int.{w32, w64}
use Rattle.std.proofs.Common.{to_z}
use Rattle.laws.specs.Base.{pick}
use Rattle.laws.specs.Bytes.{number_at}
use Rattle.pricing.specs.Verdict.{Verdict}
use Rattle.book.specs.declared.record.Book.{Book}
use Rattle.book.specs.Record.{is_accepted}
use Rattle.book_calls.specs.Setting as Setting
use Rattle.book_calls.specs.Report as Report
use Rattle.entries.specs.Entering as Entering
use Rattle.image.specs.Storing as Storing
use Rattle.image.specs.Loading as Loading
use Rattle.records.specs.declared.reading.Room.{Room}
use Rattle.records.specs.Reading.{kind_at, lengths_at, entry_at, entry_number, signed_at, factors_at, table_at, call_size, answer_size, goes}
use Rattle.records.specs.Writing.{plain_record, entry_record, report_record}

-- the book with its ring; the other ring, the image's buffer and the slices for an entry's contents; the next record's place,
-- the next answer's, and the answers' buffer
pub record State : Type 0 where
  pub book : Book
  pub ring : List ℤ
  pub other : List ℤ
  pub image : List ℕ
  pub numbers : List ℤ
  pub factors : List ℕ
  pub table : List ℤ
  pub at : ℕ
  pub out : ℕ
  pub answers : List ℕ

-- the state of a book and of what is lent, the rings' places changed or not
abbrev pub state_of : Bool → Book → List ℤ → List ℤ → List ℕ → List ℤ → List ℕ → List ℤ → ℕ → ℕ → List ℕ → State
state_of changed b ring other image numbers factors table at out answers = record {
  book = b;
  ring = pick changed other ring;
  other = pick changed ring other;
  image = image;
  numbers = numbers;
  factors = factors;
  table = table;
  at = at;
  out = out;
  answers = answers;
}

abbrev pub room_of : State → Room
room_of s = record { ring = length s.ring; numbers = length s.numbers; factors = length s.factors; table = length s.table }

-- a call is played at the next place
abbrev pub playable : List ℕ → State → Bool
playable c s = goes (room_of s) c s.at (length s.answers - s.out)

-- a call that is played appends its answer's record: the state after it, with this book
abbrev pub says : List ℕ → State → Book → List ℕ → State
says c s b answer = record {
  book = b;
  ring = s.ring;
  other = s.other;
  image = s.image;
  numbers = s.numbers;
  factors = s.factors;
  table = s.table;
  at = s.at + call_size c s.at;
  out = s.out + answer_size c s.at;
  answers = sets s.answers s.out answer;
}

-- ---- settings and reports
abbrev pub threshold_in : List ℕ → ℕ → ℤ
threshold_in c at = to_z w64 (number_at c (at + 6) 8)

abbrev pub cap_in : List ℕ → ℕ → ℤ
cap_in c at = to_z w32 (number_at c (at + 6) 4)

abbrev pub floor_in : List ℕ → ℕ → ℤ
floor_in c at = to_z w32 (number_at c (at + 10) 4)

abbrev pub region_in : List ℕ → ℕ → ℕ
region_in c at = number_at c (at + 6) 4

abbrev pub market_in : List ℕ → ℕ → ℕ
market_in c at = number_at c (at + 10) 4

abbrev pub changes : List ℕ → State → ℕ → Setting.Outcome → State
changes c s kind o = says c s o.book (plain_record kind o.verdict)

abbrev pub threshold : List ℕ → State → State
threshold c s = changes c s 66 (Setting.set_threshold s.book (threshold_in c s.at))

abbrev pub limits : List ℕ → State → State
limits c s = changes c s 67 (Setting.set_limits s.book (cap_in c s.at) (floor_in c s.at))

abbrev pub reports : List ℕ → State → Report.Outcome → State
reports c s o = says c s o.book (report_record o.numbers)

abbrev pub report : List ℕ → State → State
report c s = reports c s (Report.reported s.book (region_in c s.at) (market_in c s.at))

-- ---- an entry: it is lent the first places of the book's ring, as many as its record says, and a table that holds what its record says
abbrev pub entered_at : List ℕ → ℕ → Book → List ℤ → Entering.Outcome
entered_at c at b ring = Entering.entered b (take (lengths_at c at).ring ring) (entry_number c at) (entry_at c at) (table_at c at)

abbrev pub entered_record : Entering.Outcome → List ℕ
entered_record o = entry_record o.verdict o.count o.table

abbrev pub enters : List ℕ → State → Entering.Outcome → State
enters c s o = record {
  book = o.book;
  ring = o.ring ++ drop (lengths_at c s.at).ring s.ring;
  other = s.other;
  image = s.image;
  numbers = sets s.numbers 0 (signed_at c s.at);
  factors = sets s.factors 0 (factors_at c s.at);
  table = o.table ++ drop (lengths_at c s.at).table s.table;
  at = s.at + call_size c s.at;
  out = s.out + answer_size c s.at;
  answers = sets s.answers s.out (entered_record o);
}

abbrev pub entry : List ℕ → State → State
entry c s = enters c s (entered_at c s.at s.book s.ring)

-- ---- a restart: the book is stored, then loaded into the other ring, which is then the book's. Refused, the book and its ring stay
abbrev pub reload : Storing.Outcome → List ℤ → Loading.Outcome
reload o other = Loading.loaded (take o.length o.buffer) other

abbrev pub restart_verdict : Storing.Outcome → List ℤ → Verdict
restart_verdict o other = pick (is_accepted o.verdict) (reload o other).verdict o.verdict

-- whether the rings change places
abbrev pub swapped : Storing.Outcome → List ℤ → Bool
swapped o other = is_accepted (restart_verdict o other)

abbrev pub restarted_book : Storing.Outcome → List ℤ → Book → Book
restarted_book o other b = pick (swapped o other) (reload o other).book b

-- what the other ring then holds: a store that is refused leaves it, and so does a load
abbrev pub reloaded : Storing.Outcome → List ℤ → List ℤ
reloaded o other = pick (is_accepted o.verdict) (reload o other).ring other

abbrev pub restarts : List ℕ → State → Storing.Outcome → State
restarts c s o = record {
  book = restarted_book o s.other s.book;
  ring = pick (swapped o s.other) (reloaded o s.other) s.ring;
  other = pick (swapped o s.other) s.ring (reloaded o s.other);
  image = o.buffer;
  numbers = s.numbers;
  factors = s.factors;
  table = s.table;
  at = s.at + call_size c s.at;
  out = s.out + answer_size c s.at;
  answers = sets s.answers s.out (plain_record 69 (restart_verdict o s.other));
}

abbrev pub restart : List ℕ → State → State
restart c s = restarts c s (Storing.stored false s.book s.ring s.image)

-- ---- the call at the next place, by its kind
unfoldable pub step : List ℕ → State → State
step c s =
    pick (eqb (kind_at c s.at) 65) (entry c s)
    (pick (eqb (kind_at c s.at) 66) (threshold c s)
    (pick (eqb (kind_at c s.at) 67) (limits c s)
    (pick (eqb (kind_at c s.at) 68) (report c s)
    (restart c s))))

unfoldable pub swaps : List ℕ → State → Bool
swaps c s =
    pick (eqb (kind_at c s.at) 65) false
    (pick (eqb (kind_at c s.at) 66) false
    (pick (eqb (kind_at c s.at) 67) false
    (pick (eqb (kind_at c s.at) 68) false
    (swapped (Storing.stored false s.book s.ring s.image) s.other))))
