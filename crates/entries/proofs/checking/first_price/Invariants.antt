-- `entries::checking::first_price` meets its contract. The loops' invariant: no price passed is bad. Assumes nothing.
use mathlib.Core.Path.{◌≡◌}
use Prim.Native.Nat.{◌≤◌, ◌+◌, ◌*◌}
use Rattle.std.proofs.Common.{None}
use Rattle.entries.proofs.Bads.{Clean}
use Rattle.entries.proofs.checking.first_price.Given as goal

abbrev pub invariant-loop-market : goal.invariant-loop-market
invariant-loop-market l = (l.market ≤ l.markets) × (l.found ≡ l.initial.found) × Clean l.markets l.prices l.marked (l.region * l.markets + l.market)

abbrev pub invariant-search : goal.invariant-search
invariant-search l = (l.region ≤ l.regions) × (l.found ≡ None) × Clean l.markets l.prices l.marked (l.region * l.markets)
