-- The refusals of an entry after 10, as functions of the book's shape, the entries taken and the arguments. Assumes nothing.
use Rattle.std.specs.Prelude.{Bool, not, ◌&&◌, ◌||◌, List, ℕ, ◌*◌, ◌/◌, ◌%◌, eqb, leb, ltb, ℤ, pos, length, get_or}
use Rattle.laws.specs.Base.{pick}
use Rattle.laws.specs.Lists.{first_below}
use Rattle.pricing.specs.Verdict.{Verdict, accepted, refused, refused_at}
use Rattle.pricing.specs.Holding.{is_energy, in_range}
use Rattle.book.specs.Record.{markets_of, table_size, ring_size, links_with}
use Rattle.publishing.specs.Entry.{Entry}

-- the settings that never change, of a book and of its opening alike
pub record Shape : Type 0 where
  pub regions : ℕ
  pub services : ℕ
  pub window : ℕ
  pub halves : ℕ
  pub parents : List ℕ
  pub from : ℕ

-- 11 "any slice's length (schedule R × M × 2 × H)"; ring and table by their lengths
abbrev pub lengths_ok : Shape → ℕ → Entry → ℕ → Bool
lengths_ok s ring e table =
    eqb ring (ring_size s.regions s.services s.window)
    && eqb (length e.offer.prices) (table_size s.regions s.services)
    && eqb (length e.offer.marked) s.regions
    && eqb (length e.flows) (links_with s.regions s.from)
    && eqb (length e.factors) (links_with s.regions s.from)
    && eqb (length e.offer.schedule) (table_size s.regions s.services * 2 * s.halves)
    && eqb table (table_size s.regions s.services)

-- 15 "mark not 0 or 1": the first such mark, or R
abbrev pub first_mark : ℕ → List ℕ → ℕ
first_mark regions marked = first_below regions (λ r. not (leb (get_or marked r 0) 1))

-- 16 "an unmarked region's energy beyond ±10,000,000 or service outside 0..10,000,000": the first such price, or R × M
abbrev pub bad_price : ℕ → List ℤ → List ℕ → ℕ → Bool
bad_price markets prices marked k = eqb (get_or marked (k / markets) 0) 0 && not (in_range (is_energy (k % markets)) (get_or prices k (pos 0)))

abbrev pub first_price : ℕ → ℕ → List ℤ → List ℕ → ℕ
first_price regions markets prices marked = first_below (regions * markets) (bad_price markets prices marked)

-- 17 "a factor out of range where the region has a parent", and "17 now covers its factor", the additional link's, which stands at R
abbrev pub has_factor : ℕ → List ℕ → ℕ → Bool
has_factor regions parents r = eqb r regions || not (eqb (get_or parents r 255) 255)

-- the first such factor, or how many there are
abbrev pub bad_factor : ℕ → List ℕ → List ℕ → ℕ → Bool
bad_factor regions parents factors r =
    has_factor regions parents r && not (leb 10000 (get_or factors r 0) && leb (get_or factors r 0) 20000)

abbrev pub first_factor : ℕ → ℕ → List ℕ → List ℕ → ℕ
first_factor links regions parents factors = first_below links (bad_factor regions parents factors)

-- "Entry: 10; 11 ..; 12, 10,000,000 entries taken; 13 number not the next; 14 kind; 15 ..; 16 ..; 17 ... 15 to 17 give the
-- first place in the lent slice". Entries number from 0, so the next number is how many were taken
unfoldable pub entry_verdict : Shape → ℕ → ℕ → ℕ → Entry → ℕ → Verdict
entry_verdict s taken ring number e table =
    pick (not (lengths_ok s ring e table)) (refused 11)
    (pick (leb 10000000 taken) (refused 12)
    (pick (not (eqb number taken)) (refused 13)
    (pick (not (leb e.offer.kind 1)) (refused 14)
    (pick (ltb (first_mark s.regions e.offer.marked) s.regions) (refused_at 15 (first_mark s.regions e.offer.marked))
    (pick (ltb (first_price s.regions (markets_of s.services) e.offer.prices e.offer.marked) (table_size s.regions s.services))
    (refused_at 16 (first_price s.regions (markets_of s.services) e.offer.prices e.offer.marked))
    (pick (ltb (first_factor (links_with s.regions s.from) s.regions s.parents e.factors) (links_with s.regions s.from))
    (refused_at 17 (first_factor (links_with s.regions s.from) s.regions s.parents e.factors))
    accepted))))))
