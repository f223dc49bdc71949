-- `routes::limit_from` meets its contract; its measure is `left`. The loop's invariant: `best` is the tightest of the region's own
-- limit and what the regions passed add to it. Assumes nothing.
use mathlib.Core.Path.{◌≡◌}
use mathlib.Core.List.{List}
use Prim.Native.Nat.{ℕ, ◌+◌, ◌-◌, ◌*◌, ◌≤◌}
use lib.ListN.{get_or}
use Rattle.routes.specs.Limits.{own}
use Rattle.routes.specs.Search.{tightest}
use Rattle.routes.proofs.Limits.{reached}
use Rattle.routes.proofs.+limit_from.Given as goal

abbrev power : List ℕ → ℕ → ℕ → ℕ
power powers x y = get_or powers (8 * x + y) 0

abbrev pub decreases-limit_from : goal.decreases-limit_from
decreases-limit_from l = l.left

abbrev pub invariant-loop-y : goal.invariant-loop-y
invariant-loop-y l =
    (l.y ≤ l.regions) × (l.best ≡ tightest l.caps (reached l.caps (power l.powers) (own l.hits l.bound) l.regions (l.left - 1) l.marked l.x) l.initial.best l.y)
