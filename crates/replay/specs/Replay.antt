-- A replay: the opening, then every call that stands in the bytes. Assumes nothing.
use Rattle.std.specs.Prelude.{Bool, false, not, ◌&&◌, ◌||◌, List, ◌++◌, ℕ, zero, suc, leb, ℤ, length, take, drop}
use Rattle.std.proofs.lemmas.List.Edits.{sets}
use Rattle.laws.specs.Base.{pick}
use Rattle.laws.specs.Bytes.{number_at}
use Rattle.book.specs.Record.{ring_size}
use Rattle.book_calls.specs.Opening as Opening
use Rattle.records.specs.Reading.{opening_size, settings_in, opens}
use Rattle.records.specs.Writing.{plain_record}
use Rattle.playing.specs.Playing.{State, playable, step, swaps}

-- at most so many calls, one after the other
unfoldable pub runs : ℕ → List ℕ → State → State
runs zero c s = s
runs (suc n) c s = pick (playable c s) (runs n c (step c s)) s

-- whether the rings have changed places in the end: t at first, and each accepted restart turns it
abbrev pub turn : Bool → Bool → Bool
turn t swapped = (t && not swapped) || (not t && swapped)

unfoldable pub turns : ℕ → List ℕ → State → Bool → Bool
turns zero c s t = t
turns (suc n) c s t = pick (playable c s) (turns n c (step c s) (turn t (swaps c s))) t

-- ---- the opening
-- how many places of a ring a book of this size is lent: all of it where it has fewer
abbrev pub part_of : ℕ → ℕ → ℕ
part_of size room = pick (leb size room) size room

abbrev pub size_in : List ℕ → ℕ
size_in c = ring_size (number_at c 6 1) (number_at c 7 1) (number_at c 8 2)

-- what is lent
pub record Lent : Type 0 where
  pub answers : List ℕ
  pub ring : List ℤ
  pub other : List ℤ
  pub image : List ℕ
  pub numbers : List ℤ
  pub factors : List ℕ
  pub table : List ℤ

abbrev pub mine : List ℕ → Lent → ℕ
mine c m = part_of (size_in c) (length m.ring)

abbrev pub spare : List ℕ → Lent → ℕ
spare c m = part_of (size_in c) (length m.other)

-- the opening of a ring, and the state after it over rings of the book's size
abbrev pub opened_on : List ℕ → List ℤ → Opening.Outcome
opened_on c ring = Opening.opened (settings_in c) ring

abbrev pub begins_with : Lent → Opening.Outcome → State
begins_with m o = record {
  book = o.book;
  ring = o.ring;
  other = m.other;
  image = m.image;
  numbers = m.numbers;
  factors = m.factors;
  table = m.table;
  at = opening_size;
  out = 14;
  answers = sets m.answers 0 (plain_record 64 o.verdict);
}

abbrev pub begins : List ℕ → Lent → State
begins c m = begins_with m (opened_on c m.ring)

-- the parts of the rings that the book is lent
abbrev pub parts : List ℕ → Lent → Lent
parts c m = record {
  answers = m.answers;
  ring = take (mine c m) m.ring;
  other = take (spare c m) m.other;
  image = m.image;
  numbers = m.numbers;
  factors = m.factors;
  table = m.table;
}

abbrev pub opened : List ℕ → Lent → Opening.Outcome
opened c m = opened_on c (take (mine c m) m.ring)

-- ---- the whole replay: how many bytes it wrote, and what is lent then
pub record Outcome : Type 0 where
  pub written : ℕ
  pub lent : Lent

-- what is left of a state, the rings where they lie: with what was left out of them, behind them
abbrev pub left : State → Bool → List ℤ → List ℤ → Outcome
left s turned ring other = record {
  written = s.out;
  lent = record {
    answers = s.answers;
    ring = pick turned s.other s.ring ++ ring;
    other = pick turned s.ring s.other ++ other;
    image = s.image;
    numbers = s.numbers;
    factors = s.factors;
    table = s.table;
  };
}

-- every call from a state on
abbrev pub finished : List ℕ → State → List ℤ → List ℤ → Outcome
finished c s ring other = left (runs (length c) c s) (turns (length c) c s false) ring other

-- an opening stands first, and its answer fits
unfoldable pub begun : List ℕ → ℕ → Bool
begun c answers = opens c && leb 14 answers

unfoldable pub replayed : List ℕ → Lent → Outcome
replayed c m =
    pick (begun c (length m.answers))
    (finished c (begins c (parts c m)) (drop (mine c m) m.ring) (drop (spare c m) m.other))
    (record { written = 0; lent = m })

-- the same of the lent slices' contents
abbrev pub lent_of : List ℕ → List ℤ → List ℤ → List ℕ → List ℤ → List ℕ → List ℤ → Lent
lent_of answers ring other image numbers factors table = record {
  answers = answers;
  ring = ring;
  other = other;
  image = image;
  numbers = numbers;
  factors = factors;
  table = table;
}

abbrev pub outcome : ℕ → List ℕ → List ℤ → List ℤ → List ℕ → List ℤ → List ℕ → List ℤ → Outcome
outcome written answers ring other image numbers factors table =
    record { written = written; lent = lent_of answers ring other image numbers factors table }
