-- `sheet::put_lines` meets its contract. The loop's invariant: the lines of the markets below q stand after the header. Assumes nothing.
use mathlib.Core.Path.{◌≡◌}
use Prim.Native.Nat.{◌+◌, ◌*◌, ◌≤◌}
use lib.ListN.{length}
use Rattle.laws.specs.Lists.{joined}
use Rattle.sheet.specs.Put.{Put}
use Rattle.sheet.specs.Sheet.{line}
use Rattle.sheet.proofs.put_lines.Given as goal

abbrev pub invariant-loop-q : goal.invariant-loop-q
invariant-loop-q l = (l.n ≤ 88) × (l.at ≤ 39 + 40 * l.q) × (length l.out ≡ length l.initial.out) × Put (joined l.q 0 (line l.book)) l.initial.at l.at l.initial.out l.out
