-- Holding a price within limits, and the ranges of prices and limits. Assumes nothing.
use Rattle.std.specs.Prelude.{Bool, ◌&&◌, ℕ, eqb, ℤ, pos, negsuc}
use Rattle.std.specs.Int.Signed.{le_z}
use Rattle.laws.specs.Base.{pick, min_z, max_z}

-- x "held within" low and high
unfoldable pub held : ℤ → ℤ → ℤ → ℤ
held x low high = max_z low (min_z x high)

-- "Market 0 is energy, markets 1 to 10 are services"
abbrev pub is_energy : ℕ → Bool
is_energy market = eqb market 0

-- "within floor and cap (energy) or 0 and cap (service)": the lower of the two
abbrev pub lowest : Bool → ℤ → ℤ
lowest energy floor = pick energy floor (pos 0)

-- 16: "energy beyond ±10,000,000 or service outside 0..10,000,000" is out of range
abbrev pub in_range : Bool → ℤ → Bool
in_range energy price = le_z (lowest energy (negsuc 9999999)) price && le_z price (pos 10000000)

-- 19: "cap 1..10,000,000; floor −10,000,000..−1"
abbrev pub limits_ok : ℤ → ℤ → Bool
limits_ok cap floor = le_z (pos 1) cap && le_z cap (pos 10000000) && le_z (negsuc 9999999) floor && le_z floor (negsuc 0)
