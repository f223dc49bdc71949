-- Worked cases of interval records, computed: a book of two regions without services. Assumes nothing.
use mathlib.Core.Path.{◌≡◌, refl}
use mathlib.Core.Bool.{false}
use mathlib.Core.List.{List, [], ◌∷◌, ◌++◌}
use Prim.Native.Nat.{ℕ}
use lib.IntN.{pos, negsuc}
use lib.ListN.{replicate, take}
use Rattle.laws.specs.Lists.{run, joined, all_below}
use Rattle.laws.specs.Bytes.{le, number, number_at, encode, words}
use Rattle.pricing.specs.Verdict.{accepted, refused}
use Rattle.book.specs.declared.record.Book.{Book}
use Rattle.book.specs.Validity.{valid}
use Rattle.interval_records.specs.Layout.{Interval, interval_of, head_widths, region_widths, head_record, region_record, interval_bytes}
use Rattle.interval_records.specs.Record.{whole, due_verdict, link_verdict, head_verdict, first_refusal}
use Rattle.interval_records.specs.InOrder.{next_verdict, ordered_verdict}
use Rattle.intervals.specs.Reading.{read_verdict, read_interval}
use Rattle.intervals.specs.Reading as Reading
use Rattle.interval_writer.specs.Writing.{write_lengths, write_interval}

abbrev pub two : Book
two = record {
  regions = 2;
  services = 0;
  window = 1;
  halves = 1;
  parents = 255 ∷ 0 ∷ replicate 6 255;
  from = 255;
  to = 255;
  threshold = pos 90000;
  cap = pos 60000;
  floor = negsuc 59999;
  entries = 0;
  position = 0;
  counts = replicate 8 0;
  nexts = replicate 8 0;
  sums = replicate 88 (pos 0);
  marks = replicate 88 0;
}

-- the head, and the records of region 0 (100,000) and of region 1 (90,000, flow 1, factor 11,000)
abbrev pub head : ℕ → List ℕ
head total = 12 ∷ 0 ∷ 0 ∷ 0 ∷ 16 ∷ 0 ∷ 0 ∷ 0 ∷ 0 ∷ 0 ∷ 0 ∷ total ∷ []

abbrev pub first : List ℕ
first = 20 ∷ 0 ∷ 0 ∷ 0 ∷ 17 ∷ 0 ∷ 0 ∷ 0 ∷ 0 ∷ 0 ∷ 0 ∷ 0 ∷ 0 ∷ 0 ∷ 0 ∷ 0 ∷ 160 ∷ 134 ∷ 1 ∷ 0 ∷ []

abbrev pub second : List ℕ
second = 20 ∷ 0 ∷ 0 ∷ 0 ∷ 17 ∷ 0 ∷ 1 ∷ 0 ∷ 1 ∷ 0 ∷ 0 ∷ 0 ∷ 248 ∷ 42 ∷ 0 ∷ 0 ∷ 144 ∷ 95 ∷ 1 ∷ 0 ∷ []

abbrev pub upward : List ℕ
upward = head 2 ++ (first ++ second)

abbrev pub said : Interval
said = interval_of 0 0 (pos 100000 ∷ pos 90000 ∷ []) (0 ∷ 0 ∷ []) (pos 0 ∷ pos 1 ∷ []) (0 ∷ 11000 ∷ [])

-- what is lent, and stays after a refusal
abbrev pub lent : Interval
lent = interval_of 0 0 (pos 7 ∷ pos 7 ∷ []) (7 ∷ 7 ∷ []) (pos 7 ∷ pos 7 ∷ []) (7 ∷ 7 ∷ [])

bytes-are : interval_bytes false 2 1 said ≡ upward
unfolding interval_bytes head_record region_record head_widths region_widths encode le words joined run
bytes-are = refl

-- a read from the first byte on, and what it says
abbrev reads : List ℕ → Reading.Outcome
reads bytes = read_interval two bytes 0 lent

abbrev refusal : ℕ → Reading.Outcome
refusal n = record { verdict = refused n; next = 0; book = two; interval = lent }

reads-upward : reads upward ≡ record { verdict = accepted; next = 52; book = two; interval = said }
unfolding read_interval read_verdict valid all_below ordered_verdict head_verdict due_verdict link_verdict whole next_verdict first_refusal number_at number run
reads-upward = refl

exchanged-45 : reads (head 2 ++ (second ++ first)) ≡ refusal 45
unfolding read_interval read_verdict valid all_below ordered_verdict head_verdict due_verdict link_verdict whole next_verdict first_refusal number_at number run
exchanged-45 = refl

-- cut by a byte; a head with another total and nothing behind it; region 0 twice
cut-40 : reads (take 51 upward) ≡ refusal 40
unfolding read_interval read_verdict valid all_below ordered_verdict head_verdict due_verdict link_verdict whole next_verdict first_refusal number_at number run
cut-40 = refl

total-41 : reads (head 3) ≡ refusal 41
unfolding read_interval read_verdict valid all_below ordered_verdict head_verdict due_verdict link_verdict whole next_verdict first_refusal number_at number run
total-41 = refl

twice-45 : reads (head 2 ++ (first ++ first)) ≡ refusal 45
unfolding read_interval read_verdict valid all_below ordered_verdict head_verdict due_verdict link_verdict whole next_verdict first_refusal number_at number run
twice-45 = refl

-- into 55 bytes and into 51
written : write_interval two said (replicate 55 7) ≡ record { verdict = accepted; length = 52; book = two; buffer = upward ++ (7 ∷ 7 ∷ 7 ∷ []) }
unfolding write_interval write_lengths valid all_below interval_bytes head_record region_record head_widths region_widths encode le words joined run
written = refl

short-23 : write_interval two said (replicate 51 7) ≡ record { verdict = refused 23; length = 0; book = two; buffer = replicate 51 7 }
unfolding write_interval write_lengths valid all_below
short-23 = refl
