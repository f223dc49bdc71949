-- "Unused entry and schedule numbers are not looked at": two entries that agree where they are used publish the same. Assumes nothing.
use mathlib.Core.Path.{◌≡◌, refl, ap}
use mathlib.Core.Bool.{Bool, true, false}
use mathlib.Core.List.{List}
use Prim.Native.Nat.{ℕ, ◌*◌, ◌/◌, ◌%◌, ◌<◌}
use native.Mathlib.Nat.{div-lt_iff_lt-mul, mod-lt}
use native.Mathlib.Omega.{arith}
use lib.IntN.{pos}
use lib.ListN.{get_or}
use Rattle.laws.specs.Base.{pick}
use Rattle.laws.proofs.Lists.{tabulate-same, count_below-same}
use Rattle.routes.proofs.Links.{power-same}
use Rattle.routes.proofs.Routes.{limit-same}
use Rattle.publishing.specs.declared.Terms.{Terms}
use Rattle.publishing.specs.Entry.{Entry, TermsOk, flat, schedule_place, network_of}
use Rattle.publishing.specs.Effective.{is_marked, scheduled, effective}
use Rattle.publishing.specs.Bounds.{has_limit, in_cents, limit}
use Rattle.publishing.specs.Published.{published, table_of, count_of}

-- what is used: the kind and the marks; prices of unmarked regions, and the schedule's numbers at this interval's place of marked ones;
-- the flow and the factor of a region that has a parent
pub record Alike (t : Terms) (a b : Entry) : Type 0 where
  pub kind : a.offer.kind ≡ b.offer.kind
  pub marked : (r : ℕ) → r < t.regions → get_or a.offer.marked r 0 ≡ get_or b.offer.marked r 0
  pub prices : (r m : ℕ) → r < t.regions → m < t.markets → is_marked a.offer r ≡ false
      → get_or a.offer.prices (flat t r m) (pos 0) ≡ get_or b.offer.prices (flat t r m) (pos 0)
  pub schedule : (r m : ℕ) → r < t.regions → m < t.markets → is_marked a.offer r ≡ true
      → get_or a.offer.schedule (schedule_place t a.offer.kind r m) (pos 0) ≡ get_or b.offer.schedule (schedule_place t a.offer.kind r m) (pos 0)
  pub linked : (r : ℕ) → r < t.regions → (get_or t.parents r 255 ≡ 255 → ⊥)
      → (get_or a.flows r (pos 0) ≡ get_or b.flows r (pos 0)) × (get_or a.factors r 0 ≡ get_or b.factors r 0)
  pub extra : (t.from ≡ 255 → ⊥)
      → (get_or a.flows t.regions (pos 0) ≡ get_or b.flows t.regions (pos 0)) × (get_or a.factors t.regions 0 ≡ get_or b.factors t.regions 0)

module _ (t : Terms) (ok : TermsOk t) (marks : List ℕ) (a b : Entry) (same : Alike t a b) where
  scheduled-same : (r m : ℕ) → r < t.regions → m < t.markets → is_marked a.offer r ≡ true → scheduled t a.offer r m ≡ scheduled t b.offer r m
  unfolding scheduled
  scheduled-same r m h l e = rw (← same.kind, same.schedule r m h l e)

  pub effective-same : (r m : ℕ) → r < t.regions → m < t.markets → effective t a.offer r m ≡ effective t b.offer r m
  unfolding effective
  effective-same r m h l = rw (← same.marked r h) (go (is_marked a.offer r) refl)
    where
      go : (x : Bool) → is_marked a.offer r ≡ x
          → pick x (scheduled t a.offer r m) (get_or a.offer.prices (flat t r m) (pos 0)) ≡ pick x (scheduled t b.offer r m) (get_or b.offer.prices (flat t r m) (pos 0))
      go true e = scheduled-same r m h l e
      go false e = same.prices r m h l e

  source-same : (caps : Bool) (r : ℕ) → r < t.regions → has_limit caps t marks a.offer r ≡ has_limit caps t marks b.offer r
  unfolding has_limit
  source-same caps r h = rw (effective-same r 0 h (omega (arith, ok.markets.0)))

  bound-same : (caps : Bool) (r : ℕ) → r < t.regions → limit caps t marks a r ≡ limit caps t marks b r
  unfolding limit
  bound-same caps r h =
      ap in_cents (limit-same caps _ _ _ _ t.regions
      (power-same (network_of t) (omega (arith, ok.regions.1)) a.flows b.flows a.factors b.factors same.linked same.extra)
      (λ x i. rw (source-same caps x i)) r h)

  pub published-same : (r m : ℕ) → r < t.regions → m < t.markets → published t marks a r m ≡ published t marks b r m
  unfolding published
  published-same r m h l = rw (effective-same r m h l, bound-same true r h, bound-same false r h)

  -- of a flat place
  region-in : (k : ℕ) → k < t.regions * t.markets → k / t.markets < t.regions
  region-in k h = let p : 0 < t.markets = omega (arith, ok.markets.0) in (div-lt_iff_lt-mul p).1 h

  market-in : (k : ℕ) → k % t.markets < t.markets
  market-in k = mod-lt k (omega (arith, ok.markets.0))

  pub table_same : table_of t marks a ≡ table_of t marks b
  table_same = tabulate-same (t.regions * t.markets) _ _ (λ k h. published-same (k / t.markets) (k % t.markets) (region-in k h) (market-in k))

  pub count_same : count_of t marks a ≡ count_of t marks b
  count_same =
      count_below-same (t.regions * t.markets) _ _
      (λ k h. rw (published-same (k / t.markets) (k % t.markets) (region-in k h) (market-in k), effective-same (k / t.markets) (k % t.markets) (region-in k h) (market-in k)))
