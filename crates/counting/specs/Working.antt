-- The way by which the code takes prices into the windows and makes the marks anew: its steps over numbers and lent slices, and what
-- one part asks of another. The promise of an entry does not speak of these. Assumes nothing.
use Rattle.std.specs.Prelude.{◌≡◌, Bool, true, ◌&&◌, List, [], ℕ, ◌+◌, ◌*◌, ◌<◌, ◌≤◌, eqb, ltb, ℤ, pos, nat_abs, ◌+ℤ◌, ◌-ℤ◌, get_or}
use Rattle.laws.specs.Base.{pick}
use Rattle.laws.specs.Lists.{tabulate, puts}
use Rattle.book.specs.declared.record.Book.{Book}
use Rattle.counting.specs.declared.windows.Windows.{Windows}
use Rattle.book.specs.Record.{table_size, ring_size, place_of}
use Rattle.book.specs.Validity.{valid}
use Rattle.publishing.specs.Entry.{Offer, Entry, offer_of, entry_of}
use Rattle.counting.specs.Windows.{grown, following}
use Rattle.counting.specs.Periods.{mark_after}

-- ---- step 5
-- of an entry steps 5 and 6 read prices and marks
abbrev pub offered : List ℤ → List ℕ → Offer
offered prices marked = offer_of 0 prices marked []

abbrev pub entering : List ℤ → List ℕ → Entry
entering prices marked = entry_of 0 prices marked [] [] []

-- a market's next place in the ring
abbrev pub place_in : Windows → ℕ → ℕ
place_in w market = (w.region * w.markets + market) * w.window + w.next

-- "the oldest leaves once W are counted"
abbrev pub oldest : Windows → ℤ → ℤ
oldest w was = pick (ltb w.count w.window) (pos 0) was

-- one region's prices stored at its next places, and its sums
abbrev pub joining_price : Windows → List ℤ → ℕ → ℤ
joining_price w prices m = get_or prices (w.region * w.markets + m) (pos 0)

abbrev pub ring_by : Windows → List ℤ → List ℤ → List ℤ
ring_by w prices ring = puts ring (place_in w) (joining_price w prices) w.markets

abbrev pub sum_by : Windows → List ℤ → List ℤ → List ℤ → ℕ → ℤ
sum_by w prices ring sums m =
    get_or sums (place_of w.region m) (pos 0) +ℤ (joining_price w prices m -ℤ oldest w (get_or ring (place_in w m) (pos 0)))

abbrev pub sums_by : Windows → List ℤ → List ℤ → List ℤ → List ℤ
sums_by w prices ring sums = puts sums (place_of w.region) (sum_by w prices ring sums) w.markets

-- what a region's taking asks: places within the lent slices, which are given by their lengths p and l, and sums s that rule 10
-- allows
pub record RegionOk (w : Windows) (p l : ℕ) (s : List ℤ) : Type 0 where
  pub region : w.region < 8
  pub markets : w.markets ≤ 11
  pub next : w.next < w.window
  pub prices : w.region * w.markets + w.markets ≤ p
  pub ring : (w.region * w.markets + w.markets) * w.window ≤ l
  pub sums : (m : ℕ) → m < w.markets → nat_abs (get_or s (place_of w.region m) (pos 0)) ≤ 20160000000

-- what step 5 asks of the book and of the lengths of the ring, the prices and the marks
pub record Takes (b : Book) (ring prices marked : ℕ) : Type 0 where
  pub valid : valid b ≡ true
  pub ring-size : ring ≡ ring_size b.regions b.services b.window
  pub prices-size : prices ≡ table_size b.regions b.services
  pub marked-size : marked ≡ b.regions

-- counts and next places: those of the unmarked regions move
abbrev pub counts_by : ℕ → ℕ → List ℕ → List ℕ → List ℕ
counts_by regions window marked counts =
    tabulate 8 (λ r. pick (ltb r regions && eqb (get_or marked r 0) 0) (grown window (get_or counts r 0)) (get_or counts r 0))

abbrev pub nexts_by : ℕ → ℕ → List ℕ → List ℕ → List ℕ
nexts_by regions window marked nexts =
    tabulate 8 (λ r. pick (ltb r regions && eqb (get_or marked r 0) 0) (following window (get_or nexts r 0)) (get_or nexts r 0))

-- ---- step 6
-- at the first n places, those of the book's regions: an unused one among them has sum and mark 0, and a threshold is above 0, so
-- that its mark stays
abbrev pub marks_by : ℕ → ℤ → Bool → List ℤ → List ℕ → List ℕ
marks_by n threshold last sums marks = tabulate 88 (λ k. pick (ltb k n) (mark_after threshold last (get_or sums k (pos 0)) (get_or marks k 0)) (get_or marks k 0))
