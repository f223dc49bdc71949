-- Where the limit comes from that an interval's prices are held to: the routes that bring one, and the one that binds. Assumes nothing.
use Rattle.std.specs.Prelude.{◌≡◌, Bool, true, List, [], ◌∷◌, ◌++◌, ℕ, ◌<◌, ℤ}
use Rattle.std.specs.Int.Signed.{le_z}
use Rattle.laws.specs.Base.{pick}
use Rattle.pricing.specs.Passing.{passed}
use Rattle.routes.specs.Links.{power_of, step}
use Rattle.routes.specs.Routes.{unseen, Simple}
use Rattle.publishing.specs.declared.Terms.{Terms}
use Rattle.publishing.specs.Entry.{Entry, network_of}
use Rattle.publishing.specs.Bounds.{has_limit}
use Rattle.closeness.specs.Exact.{Close}

-- a route from x is the list of the regions after x. Its last region is the source, whose limit comes back along it
unfoldable pub source_of : ℕ → List ℕ → ℕ
source_of x [] = x
source_of x (y ∷ route) = source_of y route

-- the factors of the links that it comes over, the source's first; 0 where no power goes that way
unfoldable pub factors_on : Bool → (ℕ → ℕ → ℕ) → ℕ → List ℕ → List ℕ
factors_on caps power x [] = []
factors_on caps power x (y ∷ route) = factors_on caps power y route ++ (step caps power x y ∷ [])

-- power goes over each of these links
abbrev pub Powered : List ℕ → Type 0
Powered [] = Unit {0}
Powered (factor ∷ factors) = (0 < factor) × Powered factors

-- the factors along a route of an interval
abbrev pub links_of : Bool → Terms → Entry → ℕ → List ℕ → List ℕ
links_of caps t e region route = factors_on caps (power_of (network_of t) e.flows e.factors) region route

-- a route that brings a limit to a region: it visits no region twice, its source has the limit (step 3), and power goes over its links
pub record Brings (caps : Bool) (t : Terms) (marks : List ℕ) (e : Entry) (region : ℕ) (route : List ℕ) : Type 0 where
  pub simple : Simple t.regions unseen region route
  pub source : has_limit caps t marks e.offer (source_of region route) ≡ true
  pub powered : Powered (links_of caps t e region route)

-- what it brings, in cents
abbrev pub brought : Bool → Terms → Entry → ℕ → List ℕ → ℤ
brought caps t e region route = passed caps (links_of caps t e region route) (pick caps t.cap t.floor)

-- a limit that is no looser than another: a cap limit no larger, a floor limit no smaller
abbrev pub no_looser : Bool → ℤ → ℤ → Bool
no_looser caps q other = pick caps (le_z q other) (le_z other q)

-- "a passed-on limit, cap or floor, is less than 0.51 cent from the exact quotient or product along its route": q is what one
-- route brings, it is that close to the exact value along that route, and it is no looser than what any route brings
pub record PassedOn (caps : Bool) (t : Terms) (marks : List ℕ) (e : Entry) (region : ℕ) (q : ℤ) : Type 0 where
  pub route : List ℕ
  pub brings : Brings caps t marks e region route
  pub is : q ≡ brought caps t e region route
  pub close : Close caps (links_of caps t e region route) (pick caps t.cap t.floor) q
  pub tightest : (other : List ℕ) → Brings caps t marks e region other → no_looser caps q (brought caps t e region other) ≡ true
