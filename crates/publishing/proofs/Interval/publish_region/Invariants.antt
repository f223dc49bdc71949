-- `publishing::Interval::publish_region` meets its contract. The loop's invariant: what is still to be stored makes the table the same
-- at every turn, and the count is that of the markets passed. Assumes nothing.
use mathlib.Core.Path.{◌≡◌}
use Prim.Native.Nat.{◌≤◌, ◌+◌, ◌-◌}
use lib.ListN.{length}
use lib.Seq.{sets}
use Rattle.laws.specs.Lists.{run, count_below}
use Rattle.publishing.specs.Working.{region_price, region_changed}
use Rattle.publishing.proofs.Interval.publish_region.Given as goal

abbrev pub invariant-loop-m : goal.invariant-loop-m
invariant-loop-m l =
    (l.m ≤ l.terms.markets)
    × (length l.table ≡ length l.initial.table)
    × (sets l.table (l.from + l.m) (run (l.terms.markets - l.m) l.m (region_price l.terms l.self.marks l.self.offer l.fn.top l.fn.bottom l.region))
    ≡ sets l.initial.table l.from (run l.terms.markets 0 (region_price l.terms l.self.marks l.self.offer l.fn.top l.fn.bottom l.region)))
    × (l.count ≡ count_below l.m (region_changed l.terms l.self.marks l.self.offer l.fn.top l.fn.bottom l.region))
