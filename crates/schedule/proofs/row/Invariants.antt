-- `schedule::row` meets its contract. The loop's invariant: the half-hours passed are filled, the others still zero. Assumes nothing.
use mathlib.Core.Path.{◌≡◌}
use Prim.Native.Nat.{◌+◌, ◌*◌, ◌≤◌}
use lib.IntN.{pos}
use lib.ListN.{get_or}
use Rattle.schedule.specs.Working.{held_mean}
use Rattle.schedule.proofs.Schedules.{filled}
use Rattle.schedule.proofs.row.Given as goal

abbrev pub invariant-loop-h : goal.invariant-loop-h
invariant-loop-h l =
    (l.h ≤ l.halves)
    × (l.all ≡ filled (λ h'. held_mean (get_or l.totals (l.kind * 48 + h') (pos 0)) (get_or l.counts (l.kind * 48 + h') 0) l.low l.cap) l.h)
