-- `entries::checking::first_mark` meets its contract. The loop's invariant: every mark passed is 0 or 1. Assumes nothing.
use mathlib.Core.Path.{◌≡◌}
use mathlib.Core.Bool.{false, not}
use Prim.Native.Nat.{ℕ, ◌≤◌, ◌<◌}
use lib.Dec.{leb}
use lib.ListN.{length, get_or}
use Rattle.entries.proofs.checking.first_mark.Given as goal

abbrev pub invariant-loop-r : goal.invariant-loop-r
invariant-loop-r l = (l.r ≤ length l.marked) × ((i : ℕ) → i < l.r → not (leb (get_or l.marked i 0) 1) ≡ false)
