-- `book::validity::row_passes` meets its contract. The loop's invariant: `ok` is the test of the markets passed. Assumes nothing.
use mathlib.Core.Path.{◌≡◌}
use mathlib.Core.Bool.{◌&&◌, ◌||◌}
use Prim.Native.Nat.{◌+◌, ◌≤◌}
use lib.Dec.{leb, ltb}
use lib.IntN.{pos}
use lib.ListN.{get_or}
use Rattle.laws.specs.Lists.{all_below}
use Rattle.book.specs.Validity.{place_ok}
use Rattle.book.proofs.validity.row_passes.Given as goal

abbrev pub invariant-loop-m : goal.invariant-loop-m
invariant-loop-m g l = (l.m ≤ 11) × (l.ok ≡ all_below l.m (λ q. place_ok (ltb q g.row.SURE || l.used && leb q l.services) (get_or l.sums (l.from + q) (pos 0)) (get_or l.marks (l.from + q) 0)))
