-- The way by which the code publishes: each region's limits in cents, region by region. The promises of `publish` do not
-- speak of these; its proof shows that they come to the same. Assumes nothing.
use Rattle.std.specs.Prelude.{Bool, false, List, ℕ, ◌≤◌, ℤ, nat_abs, ltb, Option, Some, None}
use Rattle.laws.specs.Base.{pick}
use Rattle.laws.specs.Lists.{tabulate, count_below}
use Rattle.pricing.specs.Holding.{is_energy}
use Rattle.pricing.specs.Passing.{fine}
use Rattle.routes.specs.Limits.{own}
use Rattle.routes.specs.Links.{power_of}
use Rattle.routes.specs.Routes.{limit_of}
use Rattle.publishing.specs.declared.Terms.{Terms}
use Rattle.publishing.specs.Entry.{Offer, network_of}
use Rattle.publishing.specs.Effective.{effective}
use Rattle.publishing.specs.Capped.{administered, any_administered, capped_by}
use Rattle.publishing.specs.Bounds.{has_limit, in_cents, at_most, at_least}
use Rattle.publishing.specs.Published.{differ}

-- a limit in ten-thousandths of a cent that a 32-bit number holds in cents: over seven links a floor limit has at most
-- 10,000,000 × 2^7 cents
abbrev pub Fine : Option ℤ → Type 0
Fine None = Unit {0}
Fine (Some z) = nat_abs z ≤ 12800000000000

-- the regions that have a limit of their own, of eight
abbrev pub sources : Bool → Terms → List ℕ → Offer → List Bool
sources caps t marks o = tabulate 8 (λ r. pick (ltb r t.regions) (has_limit caps t marks o r) false)

-- each region's limit over every route, in cents
abbrev pub bounds_of : Bool → Terms → List Bool → List ℤ → List ℕ → List (Option ℤ)
bounds_of caps t sources flows factors =
    tabulate 8 (λ r. pick (ltb r t.regions)
    (in_cents (limit_of caps (power_of (network_of t) flows factors) (own sources (fine (pick caps t.cap t.floor))) t.regions r))
    None)

-- steps 2 and 4 at a market, by its region's bounds
unfoldable pub published_by : Bool → Bool → ℤ → ℤ → Option ℤ → Option ℤ → ℕ → ℤ → ℤ
published_by energy any floor cap top bottom market price =
    pick (is_energy market) (at_least bottom (at_most top (capped_by energy any floor cap market price))) (capped_by energy any floor cap market price)

abbrev pub region_price : Terms → List ℕ → Offer → Option ℤ → Option ℤ → ℕ → ℕ → ℤ
region_price t marks o top bottom region market =
    published_by (administered marks region 0) (any_administered t marks region) t.floor t.cap top bottom market (effective t o region market)

abbrev pub region_prices : Terms → List ℕ → Offer → Option ℤ → Option ℤ → ℕ → List ℤ
region_prices t marks o top bottom region = tabulate t.markets (region_price t marks o top bottom region)

abbrev pub region_changed : Terms → List ℕ → Offer → Option ℤ → Option ℤ → ℕ → ℕ → Bool
region_changed t marks o top bottom region m = differ (region_price t marks o top bottom region m) (effective t o region m)

abbrev pub region_count : Terms → List ℕ → Offer → Option ℤ → Option ℤ → ℕ → ℕ
region_count t marks o top bottom region = count_below t.markets (region_changed t marks o top bottom region)
