-- `interval_rewriter::any_order::record_of` meets its contract. The loop's invariant: no record passed is of the region. Assumes nothing.
use mathlib.Core.Path.{◌≡◌}
use mathlib.Core.Bool.{false}
use Prim.Native.Nat.{ℕ, ◌≤◌, ◌<◌}
use lib.Dec.{eqb}
use Rattle.interval_records.specs.Record.{region_at}
use Rattle.interval_rewriter.proofs.any_order.record_of.Given as goal

abbrev pub invariant-loop-k : goal.invariant-loop-k
invariant-loop-k l = (l.k ≤ l.regions) × ((i : ℕ) → i < l.k → eqb (region_at l.markets l.bytes l.first i) l.region ≡ false)
