-- `counting::windows::stepped` meets its contract. The loop's invariant: the regions passed have made their step. Assumes nothing.
use mathlib.Core.Path.{◌≡◌}
use Prim.Native.Nat.{ℕ, ◌<◌, ◌≤◌}
use lib.Dec.{eqb}
use lib.ListN.{length, get_or}
use Rattle.counting.proofs.windows.stepped.Given as goal

abbrev pub invariant-loop-r : goal.invariant-loop-r
invariant-loop-r g l = record {
  bound : l.r ≤ l.regions;
  length : length l.after ≡ 8;
  moved : (k : ℕ) → k < l.r → goal.F-post g l.step (eqb (get_or l.marked k 0) 0) (get_or l.numbers k 0) (get_or l.after k 0);
  stays : (k : ℕ) → l.r ≤ k → get_or l.after k 0 ≡ get_or l.numbers k 0;
}
