-- Whether a place of the prices is bad, from what a turn of the search read there. Assumes nothing.
use mathlib.Core.Path.{◌≡◌}
use mathlib.Core.Bool.{Bool, false, not, ◌&&◌}
use mathlib.Core.List.{List}
use Prim.Native.Nat.{ℕ, ◌+◌, ◌*◌, ◌<◌}
use lib.Dec.{eqb}
use lib.IntN.{ℤ, pos}
use lib.ListN.{get_or}
use Rattle.laws.proofs.Lists.{flat-div, flat-mod}
use Rattle.pricing.specs.Holding.{is_energy, in_range}
use Rattle.entries.specs.Checking.{bad_price}

-- no bad price below n
abbrev pub Clean : ℕ → List ℤ → List ℕ → ℕ → Type 0
Clean markets prices marked n = (k : ℕ) → k < n → bad_price markets prices marked k ≡ false

module _ (M : ℕ) (prices : List ℤ) (marked : List ℕ) (r : ℕ) where
  pub bad-at : (m : ℕ) (b : Bool) → m < M → (eqb (get_or marked r 0) 0 && not (in_range (is_energy m) (get_or prices (r * M + m) (pos 0)))) ≡ b → bad_price M prices marked (r * M + m) ≡ b
  bad-at m b h e = rw (flat-div r m M h, flat-mod r m M h) e
