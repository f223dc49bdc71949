-- `schedule::pass::first_bad` meets its contract. The loop's invariant: every price passed is in range. Assumes nothing.
use mathlib.Core.Path.{◌≡◌}
use mathlib.Core.Bool.{false, not}
use Prim.Native.Nat.{ℕ, ◌≤◌, ◌<◌}
use lib.IntN.{pos}
use lib.ListN.{length, get_or}
use Rattle.pricing.specs.Holding.{is_energy, in_range}
use Rattle.schedule.proofs.pass.first_bad.Given as goal

abbrev pub invariant-loop-k : goal.invariant-loop-k
invariant-loop-k l = (l.k ≤ 6) × (length l.six ≡ 6) × ((i : ℕ) → i < l.k → not (in_range (is_energy l.market) (get_or l.six i (pos 0))) ≡ false)
