-- `image::reading::all_in` meets its contract. The loop's invariant: `ok` says whether the prices passed are in range. Assumes nothing.
use mathlib.Core.Path.{◌≡◌}
use Prim.Native.Nat.{ℕ}
use lib.IntN.{ℤ}
use Rattle.laws.specs.Lists.{all_below}
use Rattle.pricing.specs.Holding.{is_energy, in_range}
use Rattle.image.specs.Working.{Reads}
use Rattle.image.proofs.reading.all_in.Given as goal

abbrev pub invariant-loop-i : goal.invariant-loop-i
invariant-loop-i g l = (prices : ℕ → ℤ) → Reads (goal.F-post g l.price) l.count prices → l.ok ≡ all_below l.i (λ k. in_range (is_energy l.market) (prices k))
