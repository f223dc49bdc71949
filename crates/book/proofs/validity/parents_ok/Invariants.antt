-- `book::validity::parents_ok` meets its contract. The loop's invariant: `ok` is the test of the regions passed. Assumes nothing.
use mathlib.Core.Path.{◌≡◌}
use Prim.Native.Nat.{◌≤◌}
use lib.ListN.{get_or}
use Rattle.laws.specs.Lists.{all_below}
use Rattle.book.specs.Validity.{parent_ok}
use Rattle.book.proofs.validity.parents_ok.Given as goal

abbrev pub invariant-loop-r : goal.invariant-loop-r
invariant-loop-r l = (l.r ≤ 8) × (l.ok ≡ all_below l.r (λ q. parent_ok l.regions q (get_or l.parents q 0)))
