-- What an entry has looked at: two entries that are alike in it may differ in the rest. Assumes nothing.
use Rattle.std.specs.Prelude.{◌≡◌, ℕ, ◌<◌, pos, length, get_or}
use Rattle.book.specs.declared.record.Book.{Book}
use Rattle.book.specs.Record.{markets_of, none}
use Rattle.publishing.specs.Entry.{Entry, flat, schedule_place}
use Rattle.entries.specs.Entering.{terms_of}

-- "Unused entry and schedule numbers are not looked at", "A region without a parent has no flow or factor looked at". Looked at are
-- the five lengths, the kind and the R marks; the prices of unmarked regions; of marked ones the schedule's numbers at this
-- interval's place; the flow and the factor of a region that has a parent, and the additional link's. A region whose mark is neither 0
-- nor 1 has nothing else looked at: 15 refuses the entry. proofs/Unused: entries that are alike come to the same
pub record Alike (b : Book) (e e' : Entry) : Type 0 where
  pub prices-length : length e.offer.prices ≡ length e'.offer.prices
  pub marked-length : length e.offer.marked ≡ length e'.offer.marked
  pub flows-length : length e.flows ≡ length e'.flows
  pub factors-length : length e.factors ≡ length e'.factors
  pub schedule-length : length e.offer.schedule ≡ length e'.offer.schedule
  pub kind : e.offer.kind ≡ e'.offer.kind
  pub marked : (r : ℕ) → r < b.regions → get_or e.offer.marked r 0 ≡ get_or e'.offer.marked r 0
  pub prices : (r m : ℕ) → r < b.regions → m < markets_of b.services → get_or e.offer.marked r 0 ≡ 0
      → get_or e.offer.prices (flat (terms_of b) r m) (pos 0) ≡ get_or e'.offer.prices (flat (terms_of b) r m) (pos 0)
  pub schedule : (r m : ℕ) → r < b.regions → m < markets_of b.services → get_or e.offer.marked r 0 ≡ 1
      → get_or e.offer.schedule (schedule_place (terms_of b) e.offer.kind r m) (pos 0)
      ≡ get_or e'.offer.schedule (schedule_place (terms_of b) e.offer.kind r m) (pos 0)
  pub linked : (r : ℕ) → r < b.regions → (get_or b.parents r 255 ≡ 255 → ⊥)
      → (get_or e.flows r (pos 0) ≡ get_or e'.flows r (pos 0)) × (get_or e.factors r 0 ≡ get_or e'.factors r 0)
  pub extra : (b.from ≡ none → ⊥)
      → (get_or e.flows b.regions (pos 0) ≡ get_or e'.flows b.regions (pos 0))
      × (get_or e.factors b.regions 0 ≡ get_or e'.factors b.regions 0)
