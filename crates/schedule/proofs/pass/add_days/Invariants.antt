-- `schedule::pass::add_days` meets its contract. The loop's invariant is what a day promises. Assumes nothing.
use mathlib.Core.Path.{◌≡◌}
use Prim.Native.Nat.{◌*◌, ◌≤◌}
use Rattle.pricing.specs.Holding.{is_energy}
use Rattle.schedule.specs.Running.{totals_of, counts_of}
use Rattle.schedule.specs.Working.{Room, found_in}
use Rattle.schedule.proofs.pass.add_days.Given as goal

abbrev pub invariant-loop-d : goal.invariant-loop-d
invariant-loop-d l =
    (l.d ≤ 28)
    × (l.bad ≡ found_in (is_energy l.market) l.prices (l.d * (6 * l.halves)))
    × (l.totals ≡ totals_of l.halves l.prices l.kinds l.d)
    × (l.counts ≡ counts_of l.halves l.prices l.kinds l.d)
    × Room l.d l.totals
