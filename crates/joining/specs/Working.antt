-- The way by which the code makes the prices that join: a copy of the entry's, and in it the table's energy where a region's energy isn't
-- administered. The promise of an entry does not speak of these. Assumes nothing.
use Rattle.std.specs.Prelude.{not, ◌&&◌, List, ℕ, ◌*◌, ◌/◌, ◌%◌, ℤ, pos, get_or}
use Rattle.laws.specs.Base.{pick}
use Rattle.laws.specs.Lists.{tabulate}
use Rattle.pricing.specs.Holding.{is_energy}
use Rattle.publishing.specs.Capped.{administered}

-- place q = region × M + market, by a published table and the entry's prices
abbrev pub joined_from : ℕ → ℕ → List ℕ → List ℤ → List ℤ → List ℤ
joined_from regions markets marks prices table =
    tabulate (regions * markets)
    (λ q. pick (is_energy (q % markets) && not (administered marks (q / markets) 0)) (get_or table q (pos 0)) (get_or prices q (pos 0)))
