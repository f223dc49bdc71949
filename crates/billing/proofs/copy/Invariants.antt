-- `billing::copy` meets its contract. The loop's invariant: the book's ring up to `i`, then the second one as it was. Assumes nothing.
use mathlib.Core.Path.{◌≡◌}
use mathlib.Core.List.{◌++◌}
use Prim.Native.Nat.{◌≤◌}
use lib.IntN.{pos}
use lib.ListN.{length, drop, get_or}
use Rattle.laws.specs.Lists.{tabulate}
use Rattle.billing.proofs.copy.Given as goal

abbrev pub invariant-loop-i : goal.invariant-loop-i
invariant-loop-i l = (l.i ≤ length l.ring) × (length l.work ≡ length l.initial.work) × (l.work ≡ tabulate l.i (λ k. get_or l.ring k (pos 0)) ++ drop l.i l.initial.work)
