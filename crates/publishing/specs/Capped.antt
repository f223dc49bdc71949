-- Step 2: administered prices. `marks` are the 88 period marks before the entry. Assumes nothing.
use Rattle.std.specs.Prelude.{Bool, List, ℕ, eqb, ℤ, get_or}
use Rattle.laws.specs.Base.{pick, min_z}
use Rattle.laws.specs.Lists.{any_below}
use Rattle.pricing.specs.Holding.{held, is_energy}
use Rattle.book.specs.Record.{place_of}
use Rattle.publishing.specs.declared.Terms.{Terms}

abbrev pub administered : List ℕ → ℕ → ℕ → Bool
administered marks region market = eqb (get_or marks (place_of region market) 0) 1

-- "Energy or any service administered"
unfoldable pub any_administered : Terms → List ℕ → ℕ → Bool
any_administered t marks region = any_below t.markets (administered marks region)

-- "Energy administered in its region: energy is held within floor and cap. Energy or any service administered: every
-- service is at most the cap. Services have no floor". `energy` and `any` tell what of the region is administered
unfoldable pub capped_by : Bool → Bool → ℤ → ℤ → ℕ → ℤ → ℤ
capped_by energy any floor cap market price =
    pick (is_energy market) (pick energy (held price floor cap) price) (pick any (min_z price cap) price)

abbrev pub capped : Terms → List ℕ → ℕ → ℕ → ℤ → ℤ
capped t marks region market price =
    capped_by (administered marks region 0) (any_administered t marks region) t.floor t.cap market price
