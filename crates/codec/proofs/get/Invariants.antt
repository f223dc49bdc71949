-- `codec::get` meets its contract. The loop runs downward: x is the number in the bytes from j on. Assumes nothing.
use mathlib.Core.Path.{◌≡◌}
use Prim.Native.Nat.{◌+◌, ◌-◌, ◌≤◌}
use Rattle.laws.specs.Bytes.{number_at}
use Rattle.codec.proofs.get.Given as goal

abbrev pub invariant-loop-j : goal.invariant-loop-j
invariant-loop-j l = (l.j ≤ l.width) × (l.x ≡ number_at l.bytes (l.at + l.j) (l.width - l.j))
