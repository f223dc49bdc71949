-- Rule 10: whether a book is one that a call may take. Assumes nothing.
use Rattle.std.specs.Prelude.{Bool, not, ◌&&◌, ◌||◌, List, ℕ, ◌*◌, ◌/◌, ◌%◌, leb, ltb, eqb, ℤ, pos, negsuc, get_or}
use Rattle.std.specs.Int.Signed.{le_z}
use Rattle.laws.specs.Lists.{all_below}
use Rattle.pricing.specs.Holding.{limits_ok}
use Rattle.book.specs.declared.record.Book.{Book}
use Rattle.book.specs.Record.{none}

-- "The parent of region r is a lower region linked to it, or 255 for none; region 0 and places from R up hold 255"
abbrev pub parent_ok : ℕ → ℕ → ℕ → Bool
parent_ok regions r parent = eqb parent 255 || ltb r regions && ltb parent r

abbrev pub parents_ok : ℕ → List ℕ → Bool
parents_ok regions parents = all_below 8 (λ r. parent_ok regions r (get_or parents r 0))

-- "one additional link between two regions not already linked", or 255 and 255 for none
abbrev pub ends_ok : ℕ → List ℕ → ℕ → ℕ → Bool
ends_ok regions parents from to =
    eqb from none && eqb to none
    || ltb from regions && ltb to regions && not (eqb from to)
    && not (eqb (get_or parents from none) to) && not (eqb (get_or parents to none) from)

-- "regions R 1..8; services S 0..10 ..; window W 1..2,016; half-hours a day H 1..48, D = 6 × H intervals; first position
-- 0..D−1; eight parent bytes". Of a book the position is the next entry's
abbrev pub shape_ok : ℕ → ℕ → ℕ → ℕ → ℕ → Bool
shape_ok regions services window halves position =
    leb 1 regions && leb regions 8 && leb services 10 && leb 1 window && leb window 2016 && leb 1 halves && leb halves 48
    && ltb position (6 * halves)

-- 18: "threshold 1..100,000,000,000"
abbrev pub threshold_ok : ℤ → Bool
threshold_ok threshold = le_z (pos 1) threshold && le_z threshold (pos 100000000000)

-- "a count above W or above entries taken, next place not the count while below W", "a region's count (0..W) and next
-- place (0..W−1)". The rule on next places holds at all eight regions: unused ones have count and next place 0
abbrev pub region_ok : Bool → ℕ → ℕ → ℕ → ℕ → Bool
region_ok used window entries count next =
    used && (leb count window && leb count entries && ltb next window && (eqb count window || eqb next count))
    || not used && (eqb count 0 && eqb next 0)

-- "a sum beyond ±20,160,000,000", a period mark that is neither 0 nor 1, "an unused sum, count or mark not zero"
abbrev pub place_ok : Bool → ℤ → ℕ → Bool
place_ok used sum mark =
    used && (le_z (negsuc 20159999999) sum && le_z sum (pos 20160000000) && leb mark 1)
    || not used && (le_z (pos 0) sum && le_z sum (pos 0) && eqb mark 0)

-- whether the place k = 11 × region + market is a market of the book
abbrev pub used_place : ℕ → ℕ → ℕ → Bool
used_place regions services k = ltb (k / 11) regions && leb (k % 11) services

abbrev pub regions_ok : ℕ → ℕ → ℕ → List ℕ → List ℕ → Bool
regions_ok regions window entries counts nexts =
    all_below 8 (λ r. region_ok (ltb r regions) window entries (get_or counts r 0) (get_or nexts r 0))

abbrev pub places_ok : ℕ → ℕ → List ℤ → List ℕ → Bool
places_ok regions services sums marks =
    all_below 88 (λ k. place_ok (used_place regions services k) (get_or sums k (pos 0)) (get_or marks k 0))

-- 10: "it is closed or a field is outside its limits: entries taken above 10,000,000, ..". A closed book has R 0
unfoldable pub valid : Book → Bool
valid b =
    shape_ok b.regions b.services b.window b.halves b.position && parents_ok b.regions b.parents
    && ends_ok b.regions b.parents b.from b.to && threshold_ok b.threshold && limits_ok b.cap b.floor
    && leb b.entries 10000000
    && regions_ok b.regions b.window b.entries b.counts b.nexts
    && places_ok b.regions b.services b.sums b.marks
