-- `counting::periods::marks_after` meets its contract. Assumes nothing.
use mathlib.Core.Path.{◌≡◌}
use mathlib.Core.List.{◌++◌}
use Prim.Native.Nat.{◌≤◌}
use lib.IntN.{pos}
use lib.ListN.{length, get_or, drop}
use Rattle.laws.specs.Lists.{tabulate}
use Rattle.counting.specs.Periods.{mark_after}
use Rattle.counting.proofs.periods.marks_after.Given as goal

abbrev pub invariant-loop-k : goal.invariant-loop-k
invariant-loop-k l =
    (l.k ≤ l.n) × (length l.initial.after ≡ 88) × (length l.after ≡ 88)
    × (l.after ≡ tabulate l.k (λ q. mark_after l.threshold l.last (get_or l.sums q (pos 0)) (get_or l.initial.after q 0)) ++ drop l.k l.initial.after)
