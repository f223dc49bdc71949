-- `image::reading::sum` meets its contract. The loop's invariant: what is still to be added is the same at every turn. Assumes nothing.
use mathlib.Core.Path.{◌≡◌}
use Prim.Native.Nat.{ℕ, ◌≤◌, ◌-◌, ◌*◌}
use lib.IntN.{ℤ, nat_abs, ◌+ℤ◌}
use Rattle.laws.specs.Lists.{run, tabulate, total}
use Rattle.image.specs.Working.{Reads}
use Rattle.image.proofs.reading.sum.Given as goal

abbrev pub invariant-loop-i : goal.invariant-loop-i
invariant-loop-i g l = (nat_abs l.sum ≤ 2147483648 * l.i) × ((prices : ℕ → ℤ) → Reads (goal.F-post g l.price) l.count prices → l.sum +ℤ total (run (l.count - l.i) l.i prices) ≡ total (tabulate l.count prices))
