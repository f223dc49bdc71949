-- `head::layout::next_places` meets its contract. The loop fills the array from the front. Assumes nothing.
use mathlib.Core.Path.{◌≡◌}
use mathlib.Core.List.{◌++◌}
use Prim.Native.Nat.{◌≤◌}
use lib.ListN.{length, get_or, drop}
use Rattle.laws.specs.Lists.{tabulate}
use Rattle.head.specs.Layout.{next_of}
use Rattle.head.proofs.layout.next_places.Given as goal

abbrev pub invariant-loop-i : goal.invariant-loop-i
invariant-loop-i l = (l.i ≤ 8) × (length l.nexts ≡ 8) × (l.nexts ≡ tabulate l.i (λ k. next_of l.window (get_or l.counts k 0)) ++ drop l.i l.initial.nexts)
