-- `codec::get_words` meets its contract. The loop's invariant: what is still to go is the same at every turn. Assumes nothing.
use mathlib.Core.Path.{◌≡◌}
use Prim.Native.Nat.{ℕ, ◌≤◌, ◌-◌, ◌+◌, ◌*◌}
use lib.ListN.{length}
use lib.Seq.{sets}
use Rattle.laws.specs.Lists.{run, tabulate}
use Rattle.laws.specs.Bytes.{number_at}
use Rattle.codec.proofs.get_words.Given as goal

abbrev pub invariant-loop-i : goal.invariant-loop-i
invariant-loop-i g l =
    let value = λ (i : ℕ). g.T.Word.from_bits (number_at l.bytes (l.at + g.T.Word.WIDTH * i) g.T.Word.WIDTH) in
    (l.i ≤ l.n) × (length l.numbers ≡ length l.initial.numbers)
    × (sets l.numbers (l.to + l.i) (run (l.n - l.i) l.i value) ≡ sets l.initial.numbers l.to (tabulate l.n value))
