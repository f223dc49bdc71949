-- Limits over every route that visits no region twice. Assumes nothing.
use Rattle.std.specs.Prelude.{◌≡◌, Bool, true, false, List, [], ◌∷◌, ◌++◌, ℕ, zero, suc, ◌-◌, ◌<◌, get_or, set, replicate, Option, None, ℤ}
use Rattle.laws.specs.Base.{pick}
use Rattle.routes.specs.Limits.{tighter, over}
use Rattle.routes.specs.Links.{step}

-- a route from x is the list of the regions after x; the limit of the region at its end comes back over its links, each of which
-- rounds, in ten-thousandths of a cent, and "Limits travel on over any number of links, whether or not a price on the way changed"
unfoldable pub along : Bool → (ℕ → ℕ → ℕ) → (ℕ → Option ℤ) → ℕ → List ℕ → Option ℤ
along caps power own x [] = own x
along caps power own x (y ∷ route) = over caps (step caps power x y) (along caps power own y route)

-- f 0 ++ f 1 ++ .. f (n - 1)
unfoldable pub joined : (ℕ → List (List ℕ)) → ℕ → List (List ℕ)
joined f zero = []
joined f (suc n) = joined f n ++ f n

-- each route with y in front
unfoldable pub after : ℕ → List (List ℕ) → List (List ℕ)
after y [] = []
after y (r ∷ rs) = (y ∷ r) ∷ after y rs

-- all routes from x, of at most `left` links, through the regions below R that were not seen
unfoldable pub routes_from : ℕ → ℕ → List Bool → ℕ → List (List ℕ)
routes_from R zero seen x = [] ∷ []
routes_from R (suc left) seen x =
    [] ∷ joined (λ y. pick (get_or (set seen x true) y false) [] (after y (routes_from R left (set seen x true) y))) R

-- the tightest of the limits along the routes
unfoldable pub over_all : Bool → (ℕ → ℕ → ℕ) → (ℕ → Option ℤ) → ℕ → List (List ℕ) → Option ℤ
over_all caps power own x [] = None
over_all caps power own x (r ∷ rs) = tighter caps (along caps power own x r) (over_all caps power own x rs)

-- the eight regions, none seen
abbrev pub unseen : List Bool
unseen = replicate 8 false

-- the limit of region x of R: the tightest over every route from x that visits no region twice
unfoldable pub limit_of : Bool → (ℕ → ℕ → ℕ) → (ℕ → Option ℤ) → ℕ → ℕ → Option ℤ
limit_of caps power own R x = over_all caps power own x (routes_from R (R - 1) unseen x)

-- a route from x that visits no region twice: each region is below R and was neither seen nor passed. That `routes_from`
-- lists exactly these is proved in proofs/Simples
abbrev pub Simple : ℕ → List Bool → ℕ → List ℕ → Type 0
Simple R seen x [] = Unit {0}
Simple R seen x (y ∷ r) = (y < R) × (get_or (set seen x true) y false ≡ false) × Simple R (set seen x true) y r
