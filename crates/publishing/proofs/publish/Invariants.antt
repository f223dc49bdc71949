-- `publishing::publish` meets its contract. The loop's invariant: the rows of the regions passed are stored, and their changes counted. Assumes nothing.
use mathlib.Core.Path.{◌≡◌}
use Prim.Native.Nat.{◌≤◌, ◌*◌}
use lib.ListN.{length}
use lib.Seq.{sets}
use Rattle.laws.specs.Lists.{run, count_below}
use Rattle.publishing.specs.Entry.{entry_of}
use Rattle.publishing.specs.Published.{published_at, changed_at}
use Rattle.publishing.proofs.publish.Given as goal

abbrev pub invariant-loop-r : goal.invariant-loop-r
invariant-loop-r l =
    (l.r ≤ l.r-end)
    × (length l.table ≡ length l.initial.table)
    × (l.table ≡ sets l.initial.table 0 (run (l.r * l.interval.terms.markets) 0 (published_at l.interval.terms l.interval.marks (entry_of l.kind l.prices l.marked l.flows l.factors l.schedule))))
    × (l.count ≡ count_below (l.r * l.interval.terms.markets) (changed_at l.interval.terms l.interval.marks (entry_of l.kind l.prices l.marked l.flows l.factors l.schedule)))
