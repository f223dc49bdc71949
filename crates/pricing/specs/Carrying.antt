-- A limit carried over one link, and over links in turn. Assumes nothing.
use Rattle.std.specs.Prelude.{Bool, true, false, List, [], ◌∷◌, ℕ, ◌≤◌, ℤ, pos, ◌*ℤ◌}
use Rattle.pricing.specs.Rounding.{rounded}

-- "a cap limit c of Y gives X the limit c × 10,000 / factor, and a floor limit f of X gives Y f × factor / 10,000", and, where
-- document 01 has "Each link rounds to the nearest cent", by request 2026-04 "Each link should carry its limit in ten-thousandths of
-- a cent, rounded there half away from zero": limits are in that unit here (Passing). `caps` tells a cap limit (true) from a
-- floor limit (false)
unfoldable pub carried : Bool → ℕ → ℤ → ℤ
carried true factor limit = rounded (limit *ℤ pos 10000) factor
carried false factor limit = rounded (limit *ℤ pos factor) 10000

-- "The factor is in ten-thousandths, 10,000..20,000"
pub record Factor (factor : ℕ) : Type 0 where
  pub least : 10000 ≤ factor
  pub most : factor ≤ 20000

-- "Limits travel on over any number of links": over links with these factors, the source's first
unfoldable pub along : Bool → List ℕ → ℤ → ℤ
along caps [] limit = limit
along caps (factor ∷ factors) limit = along caps factors (carried caps factor limit)

-- each of them a factor
abbrev pub Factors : List ℕ → Type 0
Factors [] = Unit {0}
Factors (factor ∷ factors) = Factor factor × Factors factors
