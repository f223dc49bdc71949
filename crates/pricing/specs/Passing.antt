-- A limit on its way over links: in ten-thousandths of a cent on each, in cents where it binds. Assumes nothing.
use Rattle.std.specs.Prelude.{Bool, List, ℕ, ℤ, pos, ◌*ℤ◌}
use Rattle.pricing.specs.Rounding.{rounded}
use Rattle.pricing.specs.Carrying.{along}

-- "Each link should carry its limit in ten-thousandths of a cent": a source's limit in that unit, in which it travels from its source on
abbrev pub fine : ℤ → ℤ
fine limit = limit *ℤ pos 10000

-- "the last step alone rounds to the cent", half away from zero: so many ten-thousandths as they bind
unfoldable pub cents : ℤ → ℤ
cents limit = rounded limit 10000

-- a limit of so many cents that has passed links with these factors, the source's first
abbrev pub passed : Bool → List ℕ → ℤ → ℤ
passed caps factors limit = cents (along caps factors (fine limit))
