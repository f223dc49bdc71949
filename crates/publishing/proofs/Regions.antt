-- The way by which the code publishes comes to the published table: each region's prices by its bounds are those by its limits. Assumes nothing.
use mathlib.Core.Path.{◌≡◌, refl}
use mathlib.Core.Bool.{true, false}
use mathlib.Core.List.{List}
use Prim.Native.Nat.{ℕ, ◌+◌, ◌*◌, ◌<◌}
use native.Mathlib.Omega.{arith}
use mir.Syntax.{w32}
use mir.Val.{SFits}
use Rattle.std.specs.Prelude.{ℤ, Option}
use Rattle.laws.specs.Lists.{run, count_below}
use Rattle.laws.proofs.Lists.{run-same, count_below-same, flat-div, flat-mod}
use Rattle.pricing.specs.Holding.{held, is_energy}
use Rattle.publishing.specs.declared.Terms.{Terms}
use Rattle.publishing.specs.Entry.{Entry, TermsOk}
use Rattle.publishing.specs.Capped.{administered, any_administered, capped_by, capped}
use Rattle.publishing.specs.Bounds.{limit}
use Rattle.publishing.specs.Published.{published, published_at, changed_at}
use Rattle.publishing.specs.Working.{published_by, region_price, region_prices, region_count}
use Rattle.publishing.proofs.Limits.{pick-fits, min-fits, max-fits, source_fits}

-- ---- prices stay 32-bit numbers
pub held_fits : {x low high : ℤ} → SFits w32 x → SFits w32 low → SFits w32 high → SFits w32 (held x low high)
unfolding held
held_fits f g h = max-fits g (min-fits f h)

module _ (t : Terms) (ok : TermsOk t) where
  pub capped_fits : (marks : List ℕ) (region market : ℕ) {price : ℤ} → SFits w32 price → SFits w32 (capped t marks region market price)
  unfolding capped_by
  capped_fits marks region market f =
      pick-fits (is_energy market) (pick-fits (administered marks region 0) (held_fits f (source_fits t ok false) (source_fits t ok true)) f)
      (pick-fits (any_administered t marks region) (min-fits f (source_fits t ok true)) f)

-- ---- a region's prices
module _ (t : Terms) (marks : List ℕ) (e : Entry) (region : ℕ) {top bottom : Option ℤ} (a : top ≡ limit true t marks e region) (b : bottom ≡ limit false t marks e region) where
  -- a price at its flat place
  price-at : (m : ℕ) → m < t.markets → region_price t marks e.offer top bottom region m ≡ published_at t marks e (region * t.markets + m)
  unfolding published_by published
  price-at m l = rw (a, b, flat-div region m t.markets l, flat-mod region m t.markets l) refl

  pub prices-are : region_prices t marks e.offer top bottom region ≡ run t.markets (region * t.markets) (published_at t marks e)
  prices-are = run-same t.markets 0 (region * t.markets) _ _ (λ m l. let z : 0 + m ≡ m = omega arith in rw z (price-at m l))

  pub count-is : region_count t marks e.offer top bottom region ≡ count_below t.markets (λ k. changed_at t marks e (region * t.markets + k))
  count-is = count_below-same t.markets _ _ (λ m l. rw (price-at m l, flat-div region m t.markets l, flat-mod region m t.markets l))
