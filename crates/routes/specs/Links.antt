-- Links between regions: a link is a direction of power and a factor, for a pair of regions. Assumes nothing.
use Rattle.std.specs.Prelude.{Bool, ◌&&◌, List, ℕ, ◌/◌, ◌%◌, eqb, ltb, ℤ, pos, get_or}
use Rattle.std.specs.Int.Signed.{lt_z}
use Rattle.laws.specs.Base.{pick}
use Rattle.laws.specs.Lists.{tabulate}
use Rattle.routes.specs.declared.Network.{Network}

-- the additional link: "its flow and factor come as an extra last place", so at R
abbrev pub last_flow : Network → List ℤ → ℤ
last_flow l flows = get_or flows l.regions (pos 0)

abbrev pub last_factor : Network → List ℕ → ℕ
last_factor l factors = get_or factors l.regions 0

-- "positive from the first named to the second": the factor of the additional link where power goes over it from x to y, or 0
unfoldable pub extra_of : Network → List ℤ → List ℕ → ℕ → ℕ → ℕ
extra_of l flows factors x y =
    pick (eqb l.from x && eqb l.to y && lt_z (pos 0) (last_flow l flows)) (last_factor l factors)
    (pick (eqb l.from y && eqb l.to x && lt_z (last_flow l flows) (pos 0)) (last_factor l factors) 0)

-- "Flow above 0 carries from a region to its parent, below 0 from the parent, 0 not at all": the factor of the link over
-- which power goes from x to y, or 0 where none goes. 255 is no region, so of a region without a parent nothing is looked at. No two
-- regions have two links, so the order does not matter
unfoldable pub power_of : Network → List ℤ → List ℕ → ℕ → ℕ → ℕ
power_of l flows factors x y =
    pick (eqb (get_or l.parents x 255) y && lt_z (pos 0) (get_or flows x (pos 0))) (get_or factors x 0)
    (pick (eqb (get_or l.parents y 255) x && lt_z (get_or flows y (pos 0)) (pos 0)) (get_or factors y 0)
    (extra_of l flows factors x y))

-- the same as a table, from x to y at 8 × x + y
abbrev pub power_at : Network → List ℤ → List ℕ → ℕ → ℕ
power_at l flows factors k =
    pick (ltb (k / 8) l.regions && ltb (k % 8) l.regions) (power_of l flows factors (k / 8) (k % 8)) 0

abbrev pub powers_of : Network → List ℤ → List ℕ → List ℕ
powers_of l flows factors = tabulate 64 (power_at l flows factors)

-- the factor of the link over which x takes a limit of y: "Where power goes from X to Y, a cap limit c of Y gives X the
-- limit .., and a floor limit f of X gives Y .."
abbrev pub step : Bool → (ℕ → ℕ → ℕ) → ℕ → ℕ → ℕ
step caps power x y = pick caps (power x y) (power y x)
