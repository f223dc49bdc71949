-- `schedule::pass::add_day` meets its contract. The loop's invariant: totals, counts and first bad price are those of the half-hours passed. Assumes nothing.
use mathlib.Core.Path.{◌≡◌}
use Prim.Native.Nat.{◌+◌, ◌*◌, ◌≤◌}
use lib.IntN.{pos}
use Rattle.laws.specs.Lists.{total}
use Rattle.pricing.specs.Holding.{is_energy}
use Rattle.schedule.specs.Working.{Room, found_in}
use Rattle.schedule.proofs.Runs.{table, during}
use Rattle.schedule.proofs.pass.add_day.Given as goal

abbrev pub invariant-loop-h : goal.invariant-loop-h
invariant-loop-h l =
    (l.h ≤ l.halves)
    × (l.bad ≡ found_in (is_energy l.market) l.prices (l.d * (6 * l.halves) + 6 * l.h))
    × (l.totals ≡ table total (pos 0) l.halves l.prices l.kinds (during l.d l.h))
    × Room (l.d + 1) l.totals
