-- `codec::put` meets its contract. The loop's invariant: what is still to go, of what is left of x, makes of the slice what the whole does.
-- Assumes nothing.
use mathlib.Core.Path.{◌≡◌}
use Prim.Native.Nat.{◌+◌, ◌-◌, ◌≤◌}
use lib.ListN.{length}
use lib.Seq.{sets}
use Rattle.laws.specs.Bytes.{le}
use Rattle.codec.proofs.put.Given as goal

abbrev pub invariant-loop-j : goal.invariant-loop-j
invariant-loop-j l = (l.j ≤ l.width) × (length l.bytes ≡ length l.initial.bytes) × (sets l.bytes (l.at + l.j) (le (l.width - l.j) l.rest) ≡ sets l.initial.bytes l.at (le l.width l.x))
