-- Laws of fields of given widths, one after the other: read back, written back, and the loop that writes them. Assumes nothing.
use mathlib.Core.Path.{◌≡◌, refl, sym, ap, ◌∙◌}
use mathlib.Core.List.{List, [], ◌∷◌, ◌++◌, append_assoc}
use Prim.Native.Nat.{ℕ, zero, suc, ◌+◌, ◌^◌, ◌≤◌, ◌<◌}
use native.Mathlib.Nat.{not-suc-le-zero}
use native.Mathlib.Numerals.{add-one}
use native.Mathlib.Omega.{arith}
use lib.ListN.{length, get_or, take, drop, replicate, length-append, length-drop, drop_of_length-le}
use lib.Seq.{drop-cons, drop-drop, take-add, take_at, drop_at, sets}
use Rattle.laws.specs.Bytes.{le, number_at, encode, decode, size_of}
use Rattle.laws.proofs.Bytes.{length-le, number-le, le-number, bytes_le, bytes-append, bytes_drop, sets-append}

-- each number fits its field
pub data Fit : List ℕ → List ℕ → Type 0 where
  none : Fit [] []
  more : {w v : ℕ} {ws vs : List ℕ} → v < 256 ^ w → Fit ws vs → Fit (w ∷ ws) (v ∷ vs)

pub fit_append : {ws vs ws' vs' : List ℕ} → Fit ws vs → Fit ws' vs' → Fit (ws ++ ws') (vs ++ vs')
fit_append none g = g
fit_append (more h f) g = more h (fit_append f g)

pub fit_row : (w : ℕ) (l : List ℕ) → ((i : ℕ) → get_or l i 0 < 256 ^ w) → Fit (replicate (length l) w) l
fit_row w [] b = none
fit_row w (x ∷ xs) b = more (b 0) (fit_row w xs (λ i. b (suc i)))

-- ---- sizes
pub length-encode : (ws vs : List ℕ) → length ws ≡ length vs → length (encode ws vs) ≡ size_of ws
unfolding encode size_of
length-encode [] vs e = refl
length-encode (w ∷ ws) [] e = absurd (omega arith)
length-encode (w ∷ ws) (v ∷ vs) e = length-append (le w v) (encode ws vs) ∙ omega (arith, length-le w v, length-encode ws vs (omega arith))

pub length-decode : (ws l : List ℕ) → length (decode ws l) ≡ length ws
unfolding decode
length-decode [] l = refl
length-decode (w ∷ ws) l = ap suc (length-decode ws (drop w l))

pub bytes-encode : (ws vs : List ℕ) (i : ℕ) → get_or (encode ws vs) i 0 < 256
unfolding encode
bytes-encode [] vs i = omega arith
bytes-encode (w ∷ ws) [] i = omega arith
bytes-encode (w ∷ ws) (v ∷ vs) i = bytes-append (le w v) (encode ws vs) (bytes_le w v) (bytes-encode ws vs) i

-- ---- there and back
pub decode-encode : {ws vs : List ℕ} (rest : List ℕ) → Fit ws vs → decode ws (encode ws vs ++ rest) ≡ vs
unfolding decode encode
decode-encode rest none = refl
decode-encode rest (more {w} {v} {ws} {vs} h f) =
    let e = length-le w v in
    rw (append_assoc (le w v) (encode ws vs) rest, take_at (le w v) (encode ws vs ++ rest) w e, drop_at (le w v) (encode ws vs ++ rest) w e, number-le w v h, decode-encode rest f)

pub encode-decode : (ws l : List ℕ) → ((i : ℕ) → get_or l i 0 < 256) → size_of ws ≤ length l → encode ws (decode ws l) ≡ take (size_of ws) l
unfolding decode encode size_of
encode-decode [] l b h = refl
encode-decode (w ∷ ws) l b h =
    rw (le-number w l b (omega arith), encode-decode ws (drop w l) (bytes_drop w l b) (simp length-drop (omega arith)), take-add w (size_of ws) l)

-- ---- one field, and those from one on
pub decode-at : (ws l : List ℕ) (j : ℕ) → j < length ws → get_or (decode ws l) j 0 ≡ number_at l (size_of (take j ws)) (get_or ws j 0)
unfolding decode number_at size_of
decode-at [] l j h = absurd (not-suc-le-zero h)
decode-at (w ∷ ws) l zero h = refl
decode-at (w ∷ ws) l (suc j) h = decode-at ws (drop w l) j (omega arith) ∙ rw drop-drop

pub decode-drop : (ws l : List ℕ) (j : ℕ) → drop j (decode ws l) ≡ decode (drop j ws) (drop (size_of (take j ws)) l)
unfolding decode size_of
decode-drop [] l zero = refl
decode-drop [] l (suc j) = refl
decode-drop (w ∷ ws) l zero = refl
decode-drop (w ∷ ws) l (suc j) = decode-drop ws (drop w l) j ∙ rw drop-drop

-- ---- one part stored behind the other
pub part_then : (l m n xs ys : List ℕ) (at p : ℕ) → p ≡ at + length xs → m ≡ sets l at xs → n ≡ sets m p ys → n ≡ sets l at (xs ++ ys)
part_then l m n xs ys at p e f g = rw (g, f, e) (sym (sets-append l at xs ys))

-- ---- the loop that writes them: what is still to go is the same at every turn
pub fields-step : (ws vs l r : List ℕ) (at j w v : ℕ) → j < length ws → j < length vs → w ≡ get_or ws j 0 → v ≡ get_or vs j 0 → sets l at (encode (drop j ws) (drop j vs)) ≡ r → sets (sets l at (le w v)) (at + w) (encode (drop (j + 1) ws) (drop (j + 1) vs)) ≡ r
unfolding encode
fields-step ws vs l r at j w v h k p q e =
    let f : sets l at (le w v ++ encode (drop (suc j) ws) (drop (suc j) vs)) ≡ r = rw (drop-cons ws j 0 h, drop-cons vs j 0 k, ← p, ← q) at e in
    rw add-one (rw (sets-append, length-le) at f)

pub fields-done : (ws vs l r : List ℕ) (at j : ℕ) → length ws ≤ j → sets l at (encode (drop j ws) vs) ≡ r → l ≡ r
unfolding encode
fields-done ws vs l r at j h e = rw (drop_of_length-le ws {i = j} h) at e

-- the place of the next field
pub size_step : (ws : List ℕ) (at j w n : ℕ) → j < length ws → w ≡ get_or ws j 0 → at + size_of (drop j ws) ≡ n → (at + w) + size_of (drop (j + 1) ws) ≡ n
unfolding size_of
size_step ws at j w n h p e = let f : at + (w + size_of (drop (suc j) ws)) ≡ n = rw (drop-cons ws j 0 h, ← p) at e in rw add-one (omega arith)
