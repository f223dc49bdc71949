-- Choices that the definitions of every layer are written with. Assumes nothing.
use Rattle.std.specs.Prelude.{Bool, true, false, ℤ}
use Rattle.std.specs.Int.Signed.{le_z}

-- the first where the test holds, else the second
abbrev pub pick {ℓ} : {A : Type ℓ} → Bool → A → A → A
pick true a b = a
pick false a b = b

-- the smaller and the larger of two integers
unfoldable pub min_z : ℤ → ℤ → ℤ
min_z a b = pick (le_z a b) a b

unfoldable pub max_z : ℤ → ℤ → ℤ
max_z a b = pick (le_z a b) b a
