-- `intervals::reading::read_regions` meets its contract. The loop's invariant: the numbers of the regions passed are stored,
-- region r's from record r. Assumes nothing.
use mathlib.Core.Path.{◌≡◌}
use mathlib.Core.List.{◌++◌}
use Prim.Native.Nat.{◌≤◌, ◌*◌}
use lib.ListN.{length, drop}
use lib.Seq.{sets}
use Rattle.laws.specs.Lists.{run, tabulate}
use Rattle.intervals.specs.Reading.{price_from, mark_from, flow_from, factor_from}
use Rattle.intervals.proofs.reading.read_regions.Given as goal

abbrev pub invariant-loop-r : goal.invariant-loop-r
invariant-loop-r l =
    (l.r ≤ l.regions)
    × ((length l.prices ≡ length l.initial.prices)
    × (length l.marked ≡ length l.initial.marked)
    × (length l.flows ≡ length l.initial.flows)
    × (length l.factors ≡ length l.initial.factors))
    × (l.prices ≡ sets l.initial.prices 0 (run (l.r * l.markets) 0 (price_from l.markets l.bytes l.first (λ k. k))))
    × (l.marked ≡ tabulate l.r (mark_from l.markets l.bytes l.first (λ k. k)) ++ drop l.r l.initial.marked)
    × (l.flows ≡ tabulate l.r (flow_from l.markets l.bytes l.first (λ k. k)) ++ drop l.r l.initial.flows)
    × (l.factors ≡ tabulate l.r (factor_from l.markets l.bytes l.first (λ k. k)) ++ drop l.r l.initial.factors)
