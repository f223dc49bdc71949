-- `head::layout::put_counts` meets its contract. The loop's invariant: what is still to go is the same at every turn. Assumes nothing.
use mathlib.Core.Path.{◌≡◌}
use Prim.Native.Nat.{◌≤◌, ◌+◌, ◌*◌}
use lib.ListN.{length, drop, replicate}
use lib.Seq.{sets}
use Rattle.laws.specs.Bytes.{encode}
use Rattle.head.proofs.layout.put_counts.Given as goal

abbrev pub invariant-loop-i : goal.invariant-loop-i
invariant-loop-i l =
    (l.i ≤ 8) × (length l.buffer ≡ length l.initial.buffer)
    × (sets l.buffer (44 + 2 * l.i) (encode (drop l.i (replicate 8 2)) (drop l.i l.counts)) ≡ sets l.initial.buffer 44 (encode (replicate 8 2) l.counts))
