-- Steps 3 and 4: the limits of every region, its own and those that travel to it. Assumes nothing.
use Rattle.std.specs.Prelude.{Bool, ◌&&◌, List, ℕ, ℤ, Option, Some, None}
use Rattle.std.specs.Int.Signed.{le_z}
use Rattle.laws.specs.Base.{pick, min_z, max_z}
use Rattle.pricing.specs.Passing.{fine, cents}
use Rattle.routes.specs.Links.{power_of}
use Rattle.routes.specs.Routes.{limit_of}
use Rattle.publishing.specs.declared.Terms.{Terms}
use Rattle.publishing.specs.Entry.{Offer, Entry, network_of}
use Rattle.publishing.specs.Effective.{effective}
use Rattle.publishing.specs.Capped.{administered}

-- "A region with administered energy and effective energy at or above the cap has cap limit = cap; at or below the
-- floor, floor limit = floor"
unfoldable pub has_limit : Bool → Terms → List ℕ → Offer → ℕ → Bool
has_limit caps t marks o region =
    administered marks region 0 && pick caps (le_z t.cap (effective t o region 0)) (le_z (effective t o region 0) t.floor)

-- the limit of a source, in the unit in which it travels
abbrev pub own_limit : Bool → Terms → List ℕ → Offer → ℕ → Option ℤ
own_limit caps t marks o region = pick (has_limit caps t marks o region) (Some (fine (pick caps t.cap t.floor))) None

-- "the last step alone rounds to the cent": a limit as it binds
unfoldable pub in_cents : Option ℤ → Option ℤ
in_cents None = None
in_cents (Some z) = Some (cents z)

-- "Limits travel on over any number of links": the limit of a region over every route. Request 2026-04: "the last step alone rounds to
-- the cent. Published prices are compared with this", so that the tightest is found in ten-thousandths and then rounded
unfoldable pub limit : Bool → Terms → List ℕ → Entry → ℕ → Option ℤ
limit caps t marks e region =
    in_cents (limit_of caps (power_of (network_of t) e.flows e.factors) (own_limit caps t marks e.offer) t.regions region)

-- "The smallest cap limit and highest floor limit bind energy"
unfoldable pub at_most : Option ℤ → ℤ → ℤ
at_most None x = x
at_most (Some z) x = min_z x z

unfoldable pub at_least : Option ℤ → ℤ → ℤ
at_least None x = x
at_least (Some z) x = max_z z x
