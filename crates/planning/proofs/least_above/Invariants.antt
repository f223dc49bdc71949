-- `planning::least_above` meets its contract. The loop's invariant: `now` is the sum after n further prices, and the sum after none of
-- the numbers up to n is above the threshold. Assumes nothing.
use mathlib.Core.Path.{◌≡◌}
use Prim.Native.Nat.{◌≤◌, ◌+◌, ◌*◌}
use lib.IntN.{nat_abs}
use Rattle.head.specs.Counted.{window_of}
use Rattle.planning.specs.Left.{sum_with}
use Rattle.planning.proofs.Least.{NoneTo}
use Rattle.planning.proofs.least_above.Given as goal

abbrev pub invariant-loop-n : goal.invariant-loop-n
invariant-loop-n l =
    (l.n ≤ l.window) × (nat_abs l.now ≤ 20160000000 + l.n * 4294967296)
    × (l.now ≡ sum_with l.window (window_of l.ring l.base l.window l.start l.count) l.price l.n)
    × NoneTo l.window (window_of l.ring l.base l.window l.start l.count) l.price l.threshold l.n
