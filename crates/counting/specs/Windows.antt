-- Step 5: prices join the windows of the unmarked regions. Assumes nothing.
use Rattle.std.specs.Prelude.{Bool, ◌&&◌, List, ℕ, ◌+◌, ◌*◌, ◌/◌, ◌%◌, eqb, ltb, ℤ, pos, ◌+ℤ◌, ◌-ℤ◌, length, get_or}
use Rattle.laws.specs.Base.{pick}
use Rattle.laws.specs.Lists.{tabulate}
use Rattle.book.specs.declared.record.Book.{Book}
use Rattle.book.specs.Record.{markets_of, place_of}
use Rattle.book.specs.Validity.{used_place}
use Rattle.publishing.specs.Entry.{Offer}

-- "Each unmarked region's entry prices, .. join its windows; .. A marked region's windows stay"
abbrev pub unmarked : Offer → ℕ → Bool
unmarked o region = eqb (get_or o.marked region 0) 0

abbrev pub joins : Book → Offer → ℕ → Bool
joins b o region = ltb region b.regions && unmarked o region

-- the price that joins market q = region × M + market: "entry prices, never the capped ones"
abbrev pub joining : Offer → ℕ → ℤ
joining o q = get_or o.prices q (pos 0)

-- the market's next place: its window starts at q × W
abbrev pub next_place : Book → ℕ → ℕ → ℕ
next_place b region market = (region * markets_of b.services + market) * b.window + get_or b.nexts region 0

-- "the oldest leaves once W are counted": it stands at the next place. Of a ring that others changed this is the price read
-- there; "sums then move by price in less the price read there"
abbrev pub leaving : Book → List ℤ → ℕ → ℕ → ℤ
leaving b ring region market = pick (ltb (get_or b.counts region 0) b.window) (pos 0) (get_or ring (next_place b region market) (pos 0))

abbrev pub sum_after : Book → List ℤ → Offer → ℕ → ℕ → ℤ
sum_after b ring o region market =
    pick (joins b o region)
    (get_or b.sums (place_of region market) (pos 0) +ℤ (joining o (region * markets_of b.services + market) -ℤ leaving b ring region market))
    (get_or b.sums (place_of region market) (pos 0))

abbrev pub sums_after : Book → List ℤ → Offer → List ℤ
sums_after b ring o =
    tabulate 88 (λ k. pick (used_place b.regions b.services k) (sum_after b ring o (k / 11) (k % 11)) (get_or b.sums k (pos 0)))

abbrev pub grown : ℕ → ℕ → ℕ
grown window count = pick (ltb count window) (count + 1) count

abbrev pub counts_after : Book → Offer → List ℕ
counts_after b o = tabulate 8 (λ r. pick (joins b o r) (grown b.window (get_or b.counts r 0)) (get_or b.counts r 0))

-- one on, and from the window's last place to its first
abbrev pub following : ℕ → ℕ → ℕ
following window next = pick (eqb (next + 1) window) 0 (next + 1)

abbrev pub nexts_after : Book → Offer → List ℕ
nexts_after b o = tabulate 8 (λ r. pick (joins b o r) (following b.window (get_or b.nexts r 0)) (get_or b.nexts r 0))

-- place i of the ring is place i mod W of the window of market q = i div W: written where it is its region's next place
abbrev pub written : Book → Offer → ℕ → Bool
written b o i =
    joins b o (i / b.window / markets_of b.services) && eqb (i % b.window) (get_or b.nexts (i / b.window / markets_of b.services) 0)

abbrev pub ring_after : Book → List ℤ → Offer → List ℤ
ring_after b ring o = tabulate (length ring) (λ i. pick (written b o i) (joining o (i / b.window)) (get_or ring i (pos 0)))
