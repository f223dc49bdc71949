-- Cap limits and floor limits, in ten-thousandths of a cent. `caps` tells a cap limit (true) from a floor limit (false). Assumes nothing.
use Rattle.std.specs.Prelude.{Bool, false, List, ℕ, eqb, ℤ, get_or, Option, Some, None}
use Rattle.laws.specs.Base.{pick, min_z, max_z}
use Rattle.pricing.specs.Carrying.{carried}

-- "The smallest cap limit and highest floor limit bind": of two limits the one that binds. None is no limit
unfoldable pub tighter : Bool → Option ℤ → Option ℤ → Option ℤ
tighter caps None b = b
tighter caps (Some x) None = Some x
tighter caps (Some x) (Some y) = Some (pick caps (min_z x y) (max_z x y))

-- a limit over the link with this factor; factor 0 stands for no power, over which no limit travels
unfoldable pub over : Bool → ℕ → Option ℤ → Option ℤ
over caps factor None = None
over caps factor (Some z) = pick (eqb factor 0) None (Some (carried caps factor z))

-- a region's own limit (step 3): `bound` where it has one
abbrev pub own : List Bool → ℤ → ℕ → Option ℤ
own hits bound x = pick (get_or hits x false) (Some bound) None
