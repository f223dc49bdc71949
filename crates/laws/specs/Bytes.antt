-- Numbers as bytes, the lower byte first, and fields one after the other. Assumes nothing.
use Rattle.std.specs.Prelude.{ℕ, zero, suc, ◌+◌, ◌*◌, ◌/◌, ◌%◌, List, [], ◌∷◌, ◌++◌, ℤ, take, drop}
use Rattle.std.specs.Int.{w32}
use Rattle.std.proofs.Common.{of_z, to_z}

-- x in w bytes; what does not fit is left out
unfoldable pub le : ℕ → ℕ → List ℕ
le zero x = []
le (suc w) x = x % 256 ∷ le w (x / 256)

-- the number that bytes are
unfoldable pub number : List ℕ → ℕ
number [] = 0
number (b ∷ bs) = b + 256 * number bs

-- the number in the w bytes from a place
unfoldable pub number_at : List ℕ → ℕ → ℕ → ℕ
number_at l at w = number (take w (drop at l))

-- fields of the widths ws, one after the other, that hold the numbers vs
unfoldable pub encode : List ℕ → List ℕ → List ℕ
encode [] vs = []
encode (w ∷ ws) [] = []
encode (w ∷ ws) (v ∷ vs) = le w v ++ encode ws vs

-- the numbers in the fields of the widths ws at the front of a list
unfoldable pub decode : List ℕ → List ℕ → List ℕ
decode [] l = []
decode (w ∷ ws) l = number (take w l) ∷ decode ws (drop w l)

-- how many bytes fields take
unfoldable pub size_of : List ℕ → ℕ
size_of [] = 0
size_of (w ∷ ws) = w + size_of ws

-- signed numbers, "4 bytes each"
unfoldable pub words : List ℤ → List ℕ
words [] = []
words (z ∷ zs) = le 4 (of_z w32 z) ++ words zs

-- number i of those that start at a place; of an image its price i
abbrev pub price_at : List ℕ → ℕ → ℕ → ℤ
price_at bytes from i = to_z w32 (number_at bytes (from + 4 * i) 4)
