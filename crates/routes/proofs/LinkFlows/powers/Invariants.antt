-- `routes::LinkFlows::powers` meets its contract. The loop's invariant: the places passed hold their powers, the others what they held. Assumes nothing.
use mathlib.Core.Path.{◌≡◌}
use mathlib.Core.List.{◌++◌}
use Prim.Native.Nat.{◌≤◌}
use lib.ListN.{length, drop}
use Rattle.laws.specs.Lists.{tabulate}
use Rattle.routes.specs.Links.{power_at}
use Rattle.routes.proofs.LinkFlows.powers.Given as goal

abbrev pub invariant-loop-k : goal.invariant-loop-k
invariant-loop-k l = (l.k ≤ 64) × (length l.all ≡ 64) × (l.all ≡ tabulate l.k (power_at l.self.network l.self.flows l.self.factors) ++ drop l.k l.initial.all)
