-- Interval records: their fields, their places and the bytes of an interval. Assumes nothing.
use Rattle.std.specs.Prelude.{Bool, List, [], ◌∷◌, ◌++◌, ℕ, ◌+◌, ◌*◌, ℤ, pos, get_or}
use Rattle.std.specs.Int.{w32}
use Rattle.std.proofs.Common.{of_z}
use Rattle.laws.specs.Base.{pick}
use Rattle.laws.specs.Lists.{tabulate, joined}
use Rattle.laws.specs.Bytes.{encode, words}
use Rattle.book.specs.declared.record.Book.{Book}
use Rattle.book.specs.Record.{markets_of, has_link}

-- what an interval's records say: an entry, its schedule aside
pub record Interval : Type 0 where
  pub number : ℕ
  pub kind : ℕ
  pub prices : List ℤ
  pub marked : List ℕ
  pub flows : List ℤ
  pub factors : List ℕ

abbrev pub interval_of : ℕ → ℕ → List ℤ → List ℕ → List ℤ → List ℕ → Interval
interval_of number kind prices marked flows factors =
    record { number = number; kind = kind; prices = prices; marked = marked; flows = flows; factors = factors }

-- "A record, little-endian throughout, is its length (4 bytes, the whole record), a two-byte kind, then the body. Kind 16 heads
-- an interval: number (4), day kind (1), regions (1)"
unfoldable pub head_widths : List ℕ
head_widths = 4 ∷ 2 ∷ 4 ∷ 1 ∷ 1 ∷ []

abbrev pub head_length : ℕ
head_length = 12

-- "Kind 17 is a region: region (1), mark (1), flow (4), factor (4), M prices (4 each)": the fields before the prices
unfoldable pub region_widths : List ℕ
region_widths = 4 ∷ 2 ∷ 1 ∷ 1 ∷ 4 ∷ 4 ∷ []

abbrev pub region_length : ℕ → ℕ
region_length markets = 16 + 4 * markets

-- the additional link's: "a kind 18, flow (4) and factor (4)"
unfoldable pub link_widths : List ℕ
link_widths = 4 ∷ 2 ∷ 4 ∷ 4 ∷ []

abbrev pub link_length : ℕ
link_length = 14

-- "One head is followed by R region records", and the link's "after the last region, read and written exactly when the book has
-- the link"
abbrev pub interval_length : Bool → ℕ → ℕ → ℕ
interval_length linked regions markets = head_length + regions * region_length markets + pick linked link_length 0

-- the bytes of an interval of a book: the only place that knows them
abbrev pub length_for : Book → ℕ
length_for b = interval_length (has_link b) b.regions (markets_of b.services)

-- the bytes of an interval, "our writer goes upward"
unfoldable pub head_record : ℕ → Interval → List ℕ
head_record regions v = encode head_widths (head_length ∷ 16 ∷ v.number ∷ v.kind ∷ regions ∷ [])

abbrev pub row_of : ℕ → List ℤ → ℕ → List ℤ
row_of markets prices r = tabulate markets (λ m. get_or prices (r * markets + m) (pos 0))

unfoldable pub region_record : ℕ → Interval → ℕ → List ℕ
region_record markets v r =
    encode region_widths
    (region_length markets ∷ 17 ∷ r ∷ get_or v.marked r 0 ∷ of_z w32 (get_or v.flows r (pos 0)) ∷ get_or v.factors r 0 ∷ [])
    ++ words (row_of markets v.prices r)

-- the link's "flow and factor come as an extra last place"
unfoldable pub link_record : ℕ → Interval → List ℕ
link_record regions v =
    encode link_widths (link_length ∷ 18 ∷ of_z w32 (get_or v.flows regions (pos 0)) ∷ get_or v.factors regions 0 ∷ [])

unfoldable pub interval_bytes : Bool → ℕ → ℕ → Interval → List ℕ
interval_bytes linked regions markets v =
    head_record regions v ++ (joined regions 0 (region_record markets v) ++ pick linked (link_record regions v) [])
