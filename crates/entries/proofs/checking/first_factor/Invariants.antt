-- `entries::checking::first_factor` meets its contract. The loop's invariant: no factor passed is bad. Assumes nothing.
use mathlib.Core.Path.{◌≡◌}
use mathlib.Core.Bool.{false}
use Prim.Native.Nat.{ℕ, ◌≤◌, ◌<◌}
use Rattle.entries.specs.Checking.{bad_factor}
use Rattle.entries.proofs.checking.first_factor.Given as goal

abbrev pub invariant-loop-r : goal.invariant-loop-r
invariant-loop-r l = (l.r ≤ l.links) × ((i : ℕ) → i < l.r → bad_factor l.regions l.parents l.factors i ≡ false)
