-- The way by which the code takes an entry: its steps over numbers and lent slices, and what one part asks of another. The
-- promise of `enter` does not speak of these; its proof shows that they come to the same. Assumes nothing.
use Rattle.std.specs.Prelude.{◌≡◌, Option, Some, None, cond, true, List, ℕ, ◌+◌, ◌*◌, ◌<◌, ◌≤◌, ltb, ℤ, pos, length, get_or}
use Rattle.laws.specs.Base.{pick}
use Rattle.pricing.specs.Verdict.{Verdict, accepted, refused_at}
use Rattle.pricing.specs.Holding.{is_energy, in_range}
use Rattle.pricing.specs.Carrying.{Factor}
use Rattle.book.specs.declared.record.Book.{Book}
use Rattle.book.specs.Record.{markets_of, table_size, ring_size, link_count}
use Rattle.book.specs.Validity.{valid}
use Rattle.publishing.specs.Entry.{Entry}
use Rattle.publishing.specs.Published.{table_of, count_of}
use Rattle.entries.specs.Checking.{first_mark, first_price, first_factor}
use Rattle.counting.specs.Windows.{ring_after}
use Rattle.entries.specs.Entering.{Outcome, terms_of, book_after}

-- the place that a search answered, if it lies before the end
abbrev pub found : ℕ → ℕ → Option ℕ
found end place = cond (ltb place end) (Some place) None

-- 15 to 17, the refusals that have a place
unfoldable pub slices_verdict : ℕ → ℕ → ℕ → List ℕ → List ℤ → List ℕ → List ℕ → Verdict
slices_verdict links regions markets parents prices marked factors =
    pick (ltb (first_mark regions marked) regions) (refused_at 15 (first_mark regions marked))
    (pick (ltb (first_price regions markets prices marked) (regions * markets)) (refused_at 16 (first_price regions markets prices marked))
    (pick (ltb (first_factor links regions parents factors) links) (refused_at 17 (first_factor links regions parents factors))
    accepted))

-- what an accepted entry is: the facts of rule 10 and of the tests 11 to 17
pub record Accepts (b : Book) (ring n : ℕ) (e : Entry) (table : ℕ) : Type 0 where
  pub valid : valid b ≡ true
  pub ring-size : ring ≡ ring_size b.regions b.services b.window
  pub prices-size : length e.offer.prices ≡ table_size b.regions b.services
  pub marked-size : length e.offer.marked ≡ b.regions
  pub flows-size : length e.flows ≡ link_count b
  pub factors-size : length e.factors ≡ link_count b
  pub schedule-size : length e.offer.schedule ≡ table_size b.regions b.services * 2 * b.halves
  pub table-size : table ≡ table_size b.regions b.services
  pub entries : b.entries < 10000000
  pub number : n ≡ b.entries
  pub kind : e.offer.kind ≤ 1
  pub marks : (r : ℕ) → r < b.regions → get_or e.offer.marked r 0 ≤ 1
  pub prices : (r m : ℕ) → r < b.regions → m < markets_of b.services → get_or e.offer.marked r 0 ≡ 0
      → in_range (is_energy m) (get_or e.offer.prices (r * markets_of b.services + m) (pos 0)) ≡ true
  pub factors : (r : ℕ) → r < b.regions → (get_or b.parents r 255 ≡ 255 → ⊥) → Factor (get_or e.factors r 0)
  pub extra : (b.from ≡ 255 → ⊥) → Factor (get_or e.factors b.regions 0)

-- ---- the call: what an accepted entry leaves
abbrev pub acceptance : Book → List ℤ → Entry → Outcome
acceptance b ring e = record {
  verdict = accepted;
  count = count_of (terms_of b) b.marks e;
  book = book_after b ring e;
  ring = ring_after b ring e.offer;
  table = table_of (terms_of b) b.marks e;
}
