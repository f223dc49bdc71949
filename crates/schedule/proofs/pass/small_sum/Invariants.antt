-- `schedule::pass::small_sum` meets its contract. The loop's invariant: the sum of the prices passed, and its size. Assumes nothing.
use mathlib.Core.Path.{◌≡◌}
use Prim.Native.Nat.{◌*◌, ◌≤◌}
use lib.IntN.{nat_abs}
use lib.ListN.{length, take}
use Rattle.laws.specs.Lists.{total}
use Rattle.schedule.proofs.pass.small_sum.Given as goal

abbrev pub invariant-loop-j : goal.invariant-loop-j
invariant-loop-j l = (l.j ≤ 6) × (length l.six ≡ 6) × (l.sum ≡ total (take l.j l.six)) × (nat_abs l.sum ≤ l.j * 10000000)
