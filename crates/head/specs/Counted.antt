-- The counted prices of a book: in the ring, oldest first. Assumes nothing.
use Rattle.std.specs.Prelude.{List, ℕ, ◌+◌, ◌-◌, ◌*◌, ◌/◌, ltb, ℤ, pos, get_or}
use Rattle.laws.specs.Base.{pick}
use Rattle.laws.specs.Lists.{tabulate, joined, sum_from}
use Rattle.book.specs.declared.record.Book.{Book}
use Rattle.book.specs.Record.{markets_of, table_size}

-- the markets of a book are numbered q = region × M + market: how many there are, and the count of q's region
abbrev pub market_count : Book → ℕ
market_count b = table_size b.regions b.services

abbrev pub count_at : Book → ℕ → ℕ
count_at b q = get_or b.counts (q / markets_of b.services) 0

-- where the oldest price stands in its window: at the first place until W are counted, then at the next place
abbrev pub oldest_at : Book → ℕ → ℕ
oldest_at b q = pick (ltb (count_at b q) b.window) 0 (get_or b.nexts (q / markets_of b.services) 0)

-- place k round a window of w places
abbrev pub wrap : ℕ → ℕ → ℕ
wrap w k = pick (ltb k w) k (k - w)

-- n prices of a window of w places that starts at base, the oldest at its place s
abbrev pub window_of : List ℤ → ℕ → ℕ → ℕ → ℕ → List ℤ
window_of ring base w s n = tabulate n (λ i. get_or ring (base + wrap w (s + i)) (pos 0))

-- "a market's window starts at (region × M + market) × W": the counted prices of market q, "oldest first"
abbrev pub in_order : Book → List ℤ → ℕ → List ℤ
in_order b ring q = window_of ring (q * b.window) b.window (oldest_at b q) (count_at b q)

-- "for each region and market its counted prices, oldest first"
abbrev pub counted : Book → List ℤ → List ℤ
counted b ring = joined (market_count b) 0 (in_order b ring)

-- M × (sum of counts)
abbrev pub how_many : Book → ℕ
how_many b = markets_of b.services * sum_from 8 0 (λ r. get_or b.counts r 0)
