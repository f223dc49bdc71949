-- Step 1: the effective price. Assumes nothing.
use Rattle.std.specs.Prelude.{Bool, ℕ, eqb, ℤ, pos, get_or}
use Rattle.laws.specs.Base.{pick}
use Rattle.pricing.specs.Holding.{held, is_energy, lowest}
use Rattle.publishing.specs.declared.Terms.{Terms}
use Rattle.publishing.specs.Entry.{Offer, flat, schedule_place}

-- "R marks (1: priced by schedule)"
abbrev pub is_marked : Offer → ℕ → Bool
is_marked o region = eqb (get_or o.marked region 0) 1

-- "for a marked region the schedule's number .., held within floor and cap (energy) or 0 and cap (service)"
unfoldable pub scheduled : Terms → Offer → ℕ → ℕ → ℤ
scheduled t o region market =
    held (get_or o.schedule (schedule_place t o.kind region market) (pos 0)) (lowest (is_energy market) t.floor) t.cap

-- "Effective price: the entry price, or for a marked region the schedule's number"
unfoldable pub effective : Terms → Offer → ℕ → ℕ → ℤ
effective t o region market = pick (is_marked o region) (scheduled t o region market) (get_or o.prices (flat t region market) (pos 0))
