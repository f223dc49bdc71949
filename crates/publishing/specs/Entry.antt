-- What an interval is published from: the terms of the book and the entry's lent slices. Assumes nothing.
use Rattle.std.specs.Prelude.{◌≡◌, true, ◌⊎◌, List, ℕ, ◌+◌, ◌*◌, ◌/◌, ◌≤◌, ◌<◌, ℤ, length, get_or}
use Rattle.pricing.specs.Holding.{limits_ok}
use Rattle.pricing.specs.Carrying.{Factor}
use Rattle.book.specs.Record.{links_with}
use Rattle.routes.specs.declared.Network.{Network}
use Rattle.publishing.specs.declared.Terms.{Terms}

-- "An entry lends: .. day kind (0 weekday, 1 weekend or holiday), R × M prices (region by region), R marks (1: priced by
-- schedule), R flows, R factors, a schedule". Its number and the table to publish into are left out: publishing reads neither. Of the rest an offer is what prices are made of
pub record Offer : Type 0 where
  pub kind : ℕ
  pub prices : List ℤ
  pub marked : List ℕ
  pub schedule : List ℤ

pub record Entry : Type 0 where
  pub offer : Offer
  pub flows : List ℤ
  pub factors : List ℕ

abbrev pub offer_of : ℕ → List ℤ → List ℕ → List ℤ → Offer
offer_of kind prices marked schedule = record { kind = kind; prices = prices; marked = marked; schedule = schedule }

abbrev pub entry_of : ℕ → List ℤ → List ℕ → List ℤ → List ℕ → List ℤ → Entry
entry_of kind prices marked flows factors schedule =
    record { offer = offer_of kind prices marked schedule; flows = flows; factors = factors }

-- the links of the terms' regions
abbrev pub network_of : Terms → Network
network_of t = record { regions = t.regions; parents = t.parents; from = t.from; to = t.to }

-- a market's place in a slice of R × M numbers, "region by region"
abbrev pub flat : Terms → ℕ → ℕ → ℕ
flat t region market = region * t.markets + market

-- "the schedule's number at ((region × M + market) × 2 + kind) × H + position div 6"
abbrev pub schedule_place : Terms → ℕ → ℕ → ℕ → ℕ
schedule_place t kind region market = (flat t region market * 2 + kind) * t.halves + t.position / 6

-- what publishing is given: terms that rule 10 accepts, and an entry that passes 11, 14 and 17
pub record TermsOk (t : Terms) : Type 0 where
  pub regions : (1 ≤ t.regions) × (t.regions ≤ 8)
  pub markets : (1 ≤ t.markets) × (t.markets ≤ 11)
  pub position : t.position < 6 * t.halves
  pub halves : t.halves ≤ 48
  pub limits : limits_ok t.cap t.floor ≡ true
  pub parents : (r : ℕ) → r < 8 → (get_or t.parents r 0 ≡ 255) ⊎ ((r < t.regions) × (get_or t.parents r 0 < r))

pub record OfferOk (t : Terms) (o : Offer) : Type 0 where
  pub kind : o.kind < 2
  pub prices : length o.prices ≡ t.regions * t.markets
  pub marked : length o.marked ≡ t.regions
  pub schedule : length o.schedule ≡ t.regions * t.markets * 2 * t.halves

pub record LinksOk (t : Terms) (flows : List ℤ) (factors : List ℕ) : Type 0 where
  pub flows-size : length flows ≡ links_with t.regions t.from
  pub factors-size : length factors ≡ links_with t.regions t.from
  pub linked : (r : ℕ) → r < t.regions → (get_or t.parents r 0 ≡ 255 → ⊥) → Factor (get_or factors r 0)
  pub extra : (t.from ≡ 255 → ⊥) → Factor (get_or factors t.regions 0)
