-- `publishing::bounds` meets its contract. Assumes nothing.
use mathlib.Core.Path.{◌≡◌}
use mathlib.Core.Bool.{false}
use mathlib.Core.List.{◌++◌}
use Prim.Native.Nat.{◌≤◌}
use lib.ListN.{length, get_or, drop}
use Rattle.laws.specs.Lists.{tabulate}
use Rattle.publishing.specs.Bounds.{in_cents}
use Rattle.publishing.proofs.Limits.{limit_by}
use Rattle.publishing.proofs.bounds.Given as goal

abbrev pub invariant-loop-r : goal.invariant-loop-r
invariant-loop-r l = (l.r ≤ l.terms.regions) × (length l.all ≡ 8) × (l.all ≡ tabulate l.r (λ x. in_cents (limit_by l.caps l.terms l.flows l.factors (λ y. get_or l.sources y false) x)) ++ drop l.r l.initial.all)
