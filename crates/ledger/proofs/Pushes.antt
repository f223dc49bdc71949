-- A window's prices, oldest first, with one more: what an entry does to them, on the book's side and on P's. Assumes nothing.
use mathlib.Core.List.{List, [], ◌∷◌, ◌++◌}
use Prim.Native.Nat.{ℕ}
use lib.Dec.{ltb}
use lib.IntN.{ℤ}
use lib.ListN.{length, drop}
use Rattle.laws.specs.Base.{pick}

-- "the oldest leaves once W are counted"
unfoldable pub pushed : ℕ → List ℤ → ℤ → List ℤ
pushed W l x = pick (ltb (length l) W) l (drop 1 l) ++ (x ∷ [])
