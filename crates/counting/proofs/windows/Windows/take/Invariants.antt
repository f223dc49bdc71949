-- `counting::windows::Windows::take` meets its contract. The loop's invariant: the prices and sums of the markets passed are stored. Assumes nothing.
use mathlib.Core.Path.{◌≡◌}
use Prim.Native.Nat.{◌≤◌}
use lib.ListN.{length}
use Rattle.laws.specs.Lists.{puts}
use Rattle.book.specs.Record.{place_of}
use Rattle.counting.specs.Working.{place_in, joining_price, sum_by}
use Rattle.counting.proofs.windows.Windows.take.Given as goal

abbrev pub invariant-loop-m : goal.invariant-loop-m
invariant-loop-m l =
    (l.m ≤ l.self.markets)
    × (length l.ring ≡ length l.initial.ring)
    × (l.ring ≡ puts l.initial.ring (place_in l.self) (joining_price l.self l.prices) l.m)
    × (l.sums ≡ puts l.initial.sums (place_of l.self.region) (sum_by l.self l.prices l.initial.ring l.initial.sums) l.m)
