-- `counting::windows::take` meets its contract. The loop's invariant: sums and ring are as after the regions passed. Assumes nothing.
use mathlib.Core.Path.{◌≡◌}
use Prim.Native.Nat.{◌≤◌}
use lib.ListN.{length}
use Rattle.counting.specs.Working.{offered}
use Rattle.counting.proofs.Takings.{sums_to, ring_to}
use Rattle.counting.proofs.windows.take.Given as goal

abbrev pub invariant-loop-r : goal.invariant-loop-r
invariant-loop-r l =
    (l.r ≤ l.regions)
    × (length l.ring ≡ length l.initial.ring)
    × (l.ring ≡ ring_to l.book l.initial.ring (offered l.prices l.marked) l.r)
    × (l.sums ≡ sums_to l.book l.initial.ring (offered l.prices l.marked) l.r)
