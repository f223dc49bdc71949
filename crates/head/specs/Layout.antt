-- The layout of an image: a table of fields, and the book that the fields say. Assumes nothing.
use Rattle.std.specs.Prelude.{Bool, List, [], ◌∷◌, ◌++◌, ◌≡◌, refl, ℕ, ◌+◌, ◌*◌, ltb, eqb, ℤ, pos, get_or, take, drop, replicate}
use Rattle.std.specs.Int.{w32, w64}
use Rattle.std.proofs.Common.{of_z, to_z}
use Rattle.laws.specs.Base.{pick}
use Rattle.laws.specs.Lists.{tabulate}
use Rattle.laws.specs.Bytes.{number_at, encode, decode, words}
use Rattle.book.specs.declared.record.Book.{Book}
use Rattle.book.specs.Record.{none}
use Rattle.head.specs.Counted.{counted, how_many}

-- "0: length, 4 bytes. 4: kind 1, 2 bytes. 6: R. 7: S. 8: W, 2 bytes. 10: H. 11: zero. 12: parents. 20: entries taken,
-- 4 bytes. 24: the next entry's position, 2 bytes; 26: two zeros. 28: threshold, 8 bytes. 36: cap. 40: floor, 4 bytes each.
-- 44: eight 2-byte counts of prices. 60: 88 period bytes": the width of each field in order
unfoldable pub widths : List ℕ
widths = (4 ∷ 2 ∷ 1 ∷ 1 ∷ 2 ∷ 1 ∷ 1 ∷ []) ++ (replicate 8 1 ++ ((4 ∷ 2 ∷ 2 ∷ 8 ∷ 4 ∷ 4 ∷ []) ++ (replicate 8 2 ++ replicate 88 1)))

-- the place of each field, added up from the widths
abbrev pub places_from : ℕ → List ℕ → List ℕ
places_from at [] = []
places_from at (w ∷ ws) = at ∷ places_from (at + w) ws

-- they are the paper's places; counts and periods by their first ones
places-are : take 22 (places_from 0 widths) ≡ 0 ∷ 4 ∷ 6 ∷ 7 ∷ 8 ∷ 10 ∷ 11 ∷ 12 ∷ 13 ∷ 14 ∷ 15 ∷ 16 ∷ 17 ∷ 18 ∷ 19 ∷ 20 ∷ 24 ∷ 26 ∷ 28 ∷ 36 ∷ 40 ∷ 44 ∷ []
unfolding widths
places-are = refl

period-place : get_or (places_from 0 widths) 29 0 ≡ 60
unfolding widths
period-place = refl

-- ---- the two kinds: `second` tells kind 2 (true) from kind 1 (false)
abbrev pub kind_of : Bool → ℕ
kind_of second = pick second 2 1

-- "148: for each region and market its counted prices"; of kind 2 "prices from 156"
abbrev pub head_size : Bool → ℕ
head_size second = pick second 156 148

-- "Length = 148 + 4 × M × (sum of counts)", "from which 27 then reckons"
abbrev pub length_of : Bool → Book → ℕ
length_of second b = head_size second + 4 * how_many b

-- "Image kind 2 has at 148 the two ends (255, 255 for none), two zeros, at 152 four bytes of 255 kept for 2026-11"
unfoldable pub tail_widths : List ℕ
tail_widths = 1 ∷ 1 ∷ 2 ∷ 4 ∷ []

unfoldable pub tail : Book → List ℕ
tail b = b.from ∷ b.to ∷ 0 ∷ 4294967295 ∷ []

abbrev pub tail_of : Bool → Book → List ℕ
tail_of second b = pick second (encode tail_widths (tail b)) []

-- the number in each field, of an image of n bytes; cap, floor and threshold by two's complement
unfoldable pub firsts : ℕ → ℕ → Book → List ℕ
firsts n kind b = n ∷ kind ∷ b.regions ∷ b.services ∷ b.window ∷ b.halves ∷ 0 ∷ []

unfoldable pub seconds : Book → List ℕ
seconds b = b.entries ∷ b.position ∷ 0 ∷ of_z w64 b.threshold ∷ of_z w32 b.cap ∷ of_z w32 b.floor ∷ []

unfoldable pub values : ℕ → ℕ → Book → List ℕ
values n kind b = firsts n kind b ++ (b.parents ++ (seconds b ++ (b.counts ++ b.marks)))

-- what stands before the prices
abbrev pub front_of : ℕ → Bool → Book → List ℕ
front_of n second b = encode widths (values n (kind_of second) b) ++ tail_of second b

-- the whole image of a book and its ring
unfoldable pub image_of : Bool → Book → List ℤ → List ℕ
image_of second b ring =
    encode widths (values (length_of second b) (kind_of second) b) ++ (tail_of second b ++ words (counted b ring))

-- ---- read back
-- "Loading puts the oldest at the window's first place": the next place of a window with so many prices
abbrev pub next_of : ℕ → ℕ → ℕ
next_of w count = pick (ltb count w) count 0

-- the book that the numbers of the fields say, with these ends and sums
unfoldable pub book_of : List ℕ → ℕ → ℕ → List ℤ → Book
book_of vs from to sums = record {
  regions = get_or vs 2 0;
  services = get_or vs 3 0;
  window = get_or vs 4 0;
  halves = get_or vs 5 0;
  parents = take 8 (drop 7 vs);
  from = from;
  to = to;
  threshold = to_z w64 (get_or vs 18 0);
  cap = to_z w32 (get_or vs 19 0);
  floor = to_z w32 (get_or vs 20 0);
  entries = get_or vs 15 0;
  position = get_or vs 16 0;
  counts = take 8 (drop 21 vs);
  nexts = tabulate 8 (λ r. next_of (get_or vs 4 0) (get_or (take 8 (drop 21 vs)) r 0));
  sums = sums;
  marks = take 88 (drop 29 vs);
}

-- the ends that an image says. "Kind 1 loads as having no such link"
abbrev pub is_second : List ℕ → Bool
is_second bytes = eqb (number_at bytes 4 2) 2

abbrev pub end_in : List ℕ → ℕ → ℕ
end_in bytes at = pick (is_second bytes) (number_at bytes at 1) none

abbrev pub from_in : List ℕ → ℕ
from_in bytes = end_in bytes 148

abbrev pub to_in : List ℕ → ℕ
to_in bytes = end_in bytes 149

-- the book of an image's head, before its sums are added up
abbrev pub head_from : List ℕ → Book
head_from bytes = book_of (decode widths bytes) (from_in bytes) (to_in bytes) (replicate 88 (pos 0))
