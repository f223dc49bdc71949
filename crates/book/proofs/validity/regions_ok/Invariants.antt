-- `book::validity::regions_ok` meets its contract. The loop's invariant: `ok` is the test of the regions passed. Assumes nothing.
use mathlib.Core.Path.{◌≡◌}
use Prim.Native.Nat.{◌≤◌}
use lib.ListN.{get_or}
use Rattle.laws.specs.Lists.{all_below}
use Rattle.book.specs.Validity.{region_ok}
use lib.Dec.{ltb}
use Rattle.book.proofs.validity.regions_ok.Given as goal

abbrev pub invariant-loop-r : goal.invariant-loop-r
invariant-loop-r l = (l.r ≤ 8) × (l.ok ≡ all_below l.r (λ q. region_ok (ltb q l.regions) l.window l.entries (get_or l.counts q 0) (get_or l.nexts q 0)))
