-- `stage::reading::next_number` meets its contract. The loop's invariant: the number has its bound. Assumes nothing.
use Prim.Native.Nat.{◌≤◌}
use lib.ListN.{length}
use Rattle.stage.proofs.reading.next_number.Given as goal

abbrev pub invariant-loop-i : goal.invariant-loop-i
invariant-loop-i l = (l.i ≤ length l.line) × (l.value ≤ 4000000000009)
