-- `schedule::pass::count_day` meets its contract. The loop's invariant: the half-hours passed are counted. Assumes nothing.
use mathlib.Core.Path.{◌≡◌}
use Prim.Native.Nat.{◌≤◌}
use Rattle.schedule.specs.Working.{counted_on}
use Rattle.schedule.proofs.pass.count_day.Given as goal

abbrev pub invariant-loop-h : goal.invariant-loop-h
invariant-loop-h l = (l.h ≤ l.halves) × (l.counts ≡ counted_on l.h l.row l.initial.counts)
