-- An amount of cents as text, in ASCII. Assumes nothing.
use Rattle.std.specs.Prelude.{List, [], ◌∷◌, ◌++◌, ℕ, zero, suc, ◌+◌, ◌/◌, ◌%◌, ltb, leb, ℤ, pos, negsuc, length, take, drop}
use Rattle.laws.specs.Base.{pick}

-- the decimal digits of n, of which there are at most `most`
unfoldable pub digits : ℕ → ℕ → List ℕ
digits zero n = []
digits (suc most) n = let higher = digits most (n / 10) in pick (ltb n 10) ((48 + n) ∷ []) (higher ++ ((48 + n % 10) ∷ []))

unfoldable pub decimal : ℕ → List ℕ
decimal n = digits (suc n) n

-- "dollars (0 at least), point, two digits": 46 is the point
unfoldable pub size_text : ℕ → List ℕ
size_text n = decimal (n / 100) ++ (46 ∷ (48 + n % 100 / 10) ∷ (48 + n % 10) ∷ [])

-- "minus if below 0": 45 is the minus
unfoldable pub amount_text : ℤ → List ℕ
amount_text (pos n) = size_text n
amount_text (negsuc n) = 45 ∷ size_text (suc n)

-- the bytes of `text` put into a buffer at `at`
unfoldable pub paste : ℕ → List ℕ → List ℕ → List ℕ
paste at text b = take at b ++ (text ++ drop (at + length text) b)

-- "written as the first part of the caller's buffer, the rest staying; exactly that part is handed back"; 33 "buffer too
-- short, shown by an empty part alone": how many bytes, which, and the buffer afterwards
unfoldable pub count_in : List ℕ → List ℕ → ℕ
count_in text b = pick (leb (length text) (length b)) (length text) 0

unfoldable pub shown_in : List ℕ → List ℕ → List ℕ
shown_in text b = pick (leb (length text) (length b)) text []

unfoldable pub written_in : List ℕ → List ℕ → List ℕ
written_in text b = pick (leb (length text) (length b)) (paste 0 text b) b
