-- `interval_rewriter::any_order::given_before` meets its contract. The loop's invariant: no record passed is the region's. Assumes nothing.
use mathlib.Core.Path.{◌≡◌}
use mathlib.Core.Bool.{false}
use lib.Dec.{eqb}
use Rattle.laws.specs.Lists.{any_below}
use Rattle.interval_records.specs.Record.{region_at}
use Rattle.interval_rewriter.proofs.any_order.given_before.Given as goal

abbrev pub invariant-loop-j : goal.invariant-loop-j
invariant-loop-j l = any_below l.j (λ i. eqb (region_at l.markets l.bytes l.first i) l.region) ≡ false
