-- The published table of an interval and the count of changed prices. Assumes nothing.
use Rattle.std.specs.Prelude.{Bool, true, false, ◌||◌, List, ℕ, ◌*◌, ◌/◌, ◌%◌, ℤ}
use Rattle.std.specs.Int.Signed.{lt_z}
use Rattle.laws.specs.Base.{pick}
use Rattle.laws.specs.Lists.{tabulate, count_below}
use Rattle.pricing.specs.Holding.{is_energy}
use Rattle.publishing.specs.declared.Terms.{Terms}
use Rattle.publishing.specs.Entry.{Offer, Entry}
use Rattle.publishing.specs.Effective.{effective}
use Rattle.publishing.specs.Capped.{capped}
use Rattle.publishing.specs.Bounds.{limit, at_most, at_least}

-- the price of a market after steps 1, 2 and, for energy, 4. That a cap limit and a floor limit never cross, so that the
-- order in which they bind does not matter, is proved in proofs/Crossing
unfoldable pub published : Terms → List ℕ → Entry → ℕ → ℕ → ℤ
published t marks e region market =
    pick (is_energy market)
    (at_least (limit false t marks e region) (at_most (limit true t marks e region) (capped t marks region market (effective t e.offer region market))))
    (capped t marks region market (effective t e.offer region market))

-- place k = region × M + market of the table, and of the effective prices
abbrev pub published_at : Terms → List ℕ → Entry → ℕ → ℤ
published_at t marks e k = published t marks e (k / t.markets) (k % t.markets)

abbrev pub effective_at : Terms → Offer → ℕ → ℤ
effective_at t o k = effective t o (k / t.markets) (k % t.markets)

abbrev pub table_of : Terms → List ℕ → Entry → List ℤ
table_of t marks e = tabulate (t.regions * t.markets) (published_at t marks e)

-- "the count of published prices that differ from the effective ones"
abbrev pub differ : ℤ → ℤ → Bool
differ x y = lt_z x y || lt_z y x

abbrev pub changed_at : Terms → List ℕ → Entry → ℕ → Bool
changed_at t marks e k = differ (published_at t marks e k) (effective_at t e.offer k)

abbrev pub count_of : Terms → List ℕ → Entry → ℕ
count_of t marks e = count_below (t.regions * t.markets) (changed_at t marks e)
