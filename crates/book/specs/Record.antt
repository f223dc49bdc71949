-- The closed book, the sizes of the lent slices, and the paper's number and place of every refusal. Assumes nothing.
use Rattle.std.specs.Prelude.{Bool, not, Result, Ok, Err, ℕ, ◌+◌, ◌*◌, eqb, pos, replicate}
use Rattle.laws.specs.Base.{pick}
use Rattle.pricing.specs.Verdict.{Verdict, accepted, refused, refused_at}
use Rattle.book.specs.declared.record.Book.{Book}
use Rattle.book.specs.declared.record.Refusal.{Refusal}
use Rattle.book.specs.declared.record.Refusal.TheVariants.{Invalid, Length, Full, Number, Kind, Mark, Price, Factor, Threshold, Limits, Setting, Market, Sums, Buffer, ImageLength, ImageKind, ImageField, ImageTotal, Broken, RecordKind, RecordRegion, PlannedPrice, Hundreds, RecordOrder, BilledEnergy, ImageFirst}

-- "A closed book (all zero) is what refused opening or loading returns"
abbrev pub closed : Book
closed = record {
  regions = 0;
  services = 0;
  window = 0;
  halves = 0;
  parents = replicate 8 0;
  from = 0;
  to = 0;
  threshold = pos 0;
  cap = pos 0;
  floor = pos 0;
  entries = 0;
  position = 0;
  counts = replicate 8 0;
  nexts = replicate 8 0;
  sums = replicate 88 (pos 0);
  marks = replicate 88 0;
}

-- "M = S+1 markets a region", R × M of them in all, and "a lent ring of exactly R × M × W"
abbrev pub markets_of : ℕ → ℕ
markets_of services = services + 1

abbrev pub table_size : ℕ → ℕ → ℕ
table_size regions services = regions * markets_of services

abbrev pub ring_size : ℕ → ℕ → ℕ → ℕ
ring_size regions services window = table_size regions services * window

-- no region: no parent, and no end of the additional link of 2026-10
abbrev pub none : ℕ
none = 255

-- "A book may be opened with one additional link between two regions": `from` is the first named
abbrev pub is_linked : ℕ → Bool
is_linked from = not (eqb from none)

-- "R flows, R factors", and the additional link's "as an extra last place"
abbrev pub links_with : ℕ → ℕ → ℕ
links_with regions from = pick (is_linked from) (regions + 1) regions

abbrev pub has_link : Book → Bool
has_link b = is_linked b.from

-- a flow and a factor for each link that a book may have
abbrev pub link_count : Book → ℕ
link_count b = links_with b.regions b.from

-- "The book record carries 88 sums and 88 period marks, at place 11 × region + market"
abbrev pub place_of : ℕ → ℕ → ℕ
place_of region market = 11 * region + market

-- the number of each refusal in documents 01 and 02, and its place
abbrev pub verdict_of : Refusal → Verdict
verdict_of Invalid = refused 10
verdict_of Length = refused 11
verdict_of Full = refused 12
verdict_of Number = refused 13
verdict_of Kind = refused 14
verdict_of (Mark place) = refused_at 15 place
verdict_of (Price place) = refused_at 16 place
verdict_of (Factor place) = refused_at 17 place
verdict_of Threshold = refused 18
verdict_of Limits = refused 19
verdict_of Setting = refused 20
verdict_of Market = refused 21
verdict_of Sums = refused 22
verdict_of Buffer = refused 23
verdict_of ImageLength = refused 24
verdict_of ImageKind = refused 25
verdict_of ImageField = refused 26
verdict_of ImageTotal = refused 27
verdict_of Broken = refused 40
verdict_of RecordKind = refused 41
verdict_of RecordRegion = refused 42
verdict_of PlannedPrice = refused 43
verdict_of Hundreds = refused 44
verdict_of RecordOrder = refused 45
verdict_of (BilledEnergy place) = refused_at 46 place
verdict_of ImageFirst = refused 47

-- of a call that answers `T` where it accepts
abbrev pub verdict : {T : Type 0} → Result T Refusal → Verdict
verdict (Ok _) = accepted
verdict (Err r) = verdict_of r

-- number 0 is an acceptance
abbrev pub is_accepted : Verdict → Bool
is_accepted v = eqb v.number 0
