-- `codec::put_words` meets its contract. The loop's invariant: what is still to go is the same at every turn. Assumes nothing.
use mathlib.Core.Path.{◌≡◌}
use Prim.Native.Nat.{◌≤◌, ◌-◌, ◌+◌, ◌*◌}
use lib.IntN.{pos}
use lib.ListN.{length, get_or}
use lib.Seq.{sets}
use Rattle.laws.specs.Lists.{run, places_of}
use Rattle.laws.specs.Bytes.{words}
use Rattle.codec.proofs.put_words.Given as goal

abbrev pub invariant-loop-i : goal.invariant-loop-i
invariant-loop-i l = (l.i ≤ l.n) × (length l.bytes ≡ length l.initial.bytes) × (sets l.bytes (l.at + 4 * l.i) (words (run (l.n - l.i) l.i (λ k. get_or l.numbers (l.from + k) (pos 0)))) ≡ sets l.initial.bytes l.at (words (places_of l.numbers l.from l.n)))
