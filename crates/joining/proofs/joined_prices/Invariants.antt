-- `joining::joined_prices` meets its contract. The loop's invariant: the regions passed are filled in. Assumes nothing.
use Rattle.std.proofs.Common.{◌≡◌, ◌≤◌, length}
use Rattle.joining.proofs.Filling.{Filled}
use Rattle.joining.proofs.joined_prices.Given as goal

abbrev pub invariant-loop-r : goal.invariant-loop-r
invariant-loop-r l = (l.r ≤ l.regions) × (length l.joined ≡ 88) × Filled l.regions l.markets l.marks l.prices l.table l.r l.joined
