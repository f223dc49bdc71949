-- `interval_rewriter::rewriting::copy` meets its contract. The loop's invariant: what is still to go is the same at every turn. Assumes
-- nothing.
use mathlib.Core.Path.{◌≡◌}
use mathlib.Core.List.{List}
use Prim.Native.Nat.{ℕ, ◌≤◌, ◌-◌, ◌+◌}
use lib.ListN.{length, get_or}
use lib.Seq.{sets}
use Rattle.laws.specs.Lists.{run, tabulate}
use Rattle.interval_rewriter.proofs.rewriting.copy.Given as goal

-- the bytes that are copied, one by one
abbrev byte_at : List ℕ → ℕ → ℕ → ℕ
byte_at bytes from i = get_or bytes (from + i) 0

abbrev pub invariant-loop-i : goal.invariant-loop-i
invariant-loop-i l =
    let f = byte_at l.bytes l.from in
    (l.i ≤ l.n) × (length l.buffer ≡ length l.initial.buffer) × (sets l.buffer (l.to + l.i) (run (l.n - l.i) l.i f) ≡ sets l.initial.buffer l.to (tabulate l.n f))
