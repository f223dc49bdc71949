-- `publishing::Interval::sources` meets its contract. Assumes nothing.
use mathlib.Core.Path.{◌≡◌}
use mathlib.Core.List.{◌++◌}
use Prim.Native.Nat.{◌≤◌}
use lib.ListN.{length, drop}
use Rattle.laws.specs.Lists.{tabulate}
use Rattle.publishing.specs.Bounds.{has_limit}
use Rattle.publishing.proofs.Interval.sources.Given as goal

abbrev pub invariant-loop-r : goal.invariant-loop-r
invariant-loop-r l = (l.r ≤ l.r-end) × (length l.all ≡ 8) × (l.all ≡ tabulate l.r (has_limit l.caps l.self.terms l.self.marks l.self.offer) ++ drop l.r l.initial.all)
