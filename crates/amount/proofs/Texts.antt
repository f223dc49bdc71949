-- Laws of the text of an amount, and of bytes put into a buffer one after the other. Assumes nothing.
use mathlib.Core.Path.{◌≡◌, refl, sym, ap, ap₂, ◌∙◌}
use mathlib.Core.Bool.{Bool, true, false}
use mathlib.Core.List.{List, [], ◌∷◌, ◌++◌, append_assoc}
use Prim.Native.Nat.{ℕ, zero, suc, ◌+◌, ◌/◌, ◌%◌, ◌≤◌, ◌<◌}
use native.Mathlib.Omega.{arith}
use native.Mathlib.Numerals.{add-one}
use borrow.Author.Tests.{lt-ltb, le-ltb, ltb-false, lt-leb, le-leb}
use lib.Dec.{ltb, leb}
use lib.IntN.{ℤ, pos, negsuc, nat_abs}
use lib.Signed.{lt_z}
use lib.ListN.{length, take, drop, get_or, set, length-append, length-take, length-drop}
use lib.Seq.{set_split, drop-cons, set_at, take_at, drop-append-add, drop-drop}
use Rattle.amount.specs.Text.{digits, decimal, size_text, amount_text, paste, count_in, shown_in, written_in}
use Rattle.laws.specs.Base.{pick}
use Rattle.laws.proofs.Integers.{integers}

same_digits : (k l n : ℕ) → n < k → n < l → digits k n ≡ digits l n
unfolding digits
same_digits zero l n h g = absurd (omega arith)
same_digits (suc k) zero n h g = absurd (omega arith)
same_digits (suc k) (suc l) n h g = go (ltb n 10) refl (λ p. same_digits k l (n / 10) (omega arith) (omega arith))
  where
    go : (t : Bool) → ltb n 10 ≡ t → (10 ≤ n → digits k (n / 10) ≡ digits l (n / 10)) → digits (suc k) n ≡ digits (suc l) n
    go true e r = simp e
    go false e r = simp (e, r (ltb-false n 10 e))

pub decimal-small : (n : ℕ) → n < 10 → decimal n ≡ (48 + n) ∷ []
unfolding decimal digits
decimal-small n h = simp (lt-ltb n 10 h)

pub decimal_step : (n : ℕ) → 10 ≤ n → decimal n ≡ decimal (n / 10) ++ ((48 + n % 10) ∷ [])
unfolding decimal digits
decimal_step n h = simp (le-ltb n 10 h) (ap (λ (d : List ℕ). d ++ ((48 + n % 10) ∷ [])) (same_digits n (suc (n / 10)) (n / 10) (omega arith) (omega arith)))

length_digits : (k n : ℕ) → length (digits k n) ≤ k
unfolding digits
length_digits zero n = omega arith
length_digits (suc k) n = go (ltb n 10) refl (length_digits k (n / 10))
  where
    go : (t : Bool) → ltb n 10 ≡ t → length (digits k (n / 10)) ≤ k → length (digits (suc k) n) ≤ suc k
    go true e r = simp e (omega arith)
    go false e r = simp (e, length-append) (omega arith)

pub length-decimal : (n : ℕ) → length (decimal n) ≤ suc n
unfolding decimal
length-decimal n = length_digits (suc n) n

-- ---- bytes put into a buffer
pub length-paste : (at : ℕ) (t b : List ℕ) → at + length t ≤ length b → length (paste at t b) ≡ length b
unfolding paste
length-paste at t b h = simp (length-append, length-take, length-drop) (omega arith)

-- one byte
pub paste-one : (at v : ℕ) (b : List ℕ) → at < length b → set b at v ≡ paste at (v ∷ []) b
unfolding paste
paste-one at v b h = rw add-one (set_split b at v h)

module _ (at : ℕ) (t b : List ℕ) (h : at + length t ≤ length b) where
  head-length : length (take at b ++ t) ≡ at + length t
  head-length = simp (length-append, length-take) (omega arith)

  head_tail : paste at t b ≡ (take at b ++ t) ++ drop (at + length t) b
  unfolding paste
  head_tail = sym (append_assoc (take at b) t (drop (at + length t) b))

-- one byte after the others
pub paste-next : (at : ℕ) (t : List ℕ) (v : ℕ) (b : List ℕ) → at + length t < length b → set (paste at t b) (at + length t) v ≡ paste at (t ++ (v ∷ [])) b
unfolding paste
paste-next at t v b h =
    let j = at + length t in
    let k : at + length t ≤ length b = omega arith in
    let e : at + length (t ++ (v ∷ [])) ≡ suc (at + length t) = simp length-append (omega arith) in
    ap (λ (l : List ℕ). set l j v) (head_tail at t b k ∙ ap (λ (d : List ℕ). (take at b ++ t) ++ d) (drop-cons b j 0 h))
    ∙ set_at (take at b ++ t) (get_or b j 0) (drop (suc j) b) v j (head-length at t b k)
    ∙ simp (e, append_assoc)

-- a text after the others
pub paste-paste : (at : ℕ) (t u b : List ℕ) → at + length t ≤ length b → paste (at + length t) u (paste at t b) ≡ paste at (t ++ u) b
unfolding paste
paste-paste at t u b h =
    let j = at + length t in
    let first : take j (paste at t b) ≡ take at b ++ t = ap (take j) (head_tail at t b h) ∙ take_at (take at b ++ t) (drop j b) j (head-length at t b h) in
    let e : j + length u ≡ at + length (t ++ u) = simp length-append (omega arith) in
    let rest : drop (j + length u) (paste at t b) ≡ drop (at + length (t ++ u)) b =
    ap (drop (j + length u)) (head_tail at t b h)
    ∙ ap (λ (n : ℕ). drop (n + length u) ((take at b ++ t) ++ drop j b)) (sym (head-length at t b h))
    ∙ drop-append-add (take at b ++ t) (drop j b) (length u)
    ∙ drop-drop (length u) j b
    ∙ ap (λ (n : ℕ). drop n b) e in
    simp (first, rest, append_assoc)

pub length-small : (n : ℕ) → n < 10 → length (decimal n) ≡ 1
length-small n h = ap length (decimal-small n h)

pub length-step : (n : ℕ) → 10 ≤ n → length (decimal n) ≡ length (decimal (n / 10)) + 1
length-step n h = ap length (decimal_step n h) ∙ simp length-append

pub length-size : (n : ℕ) → length (size_text n) ≡ length (decimal (n / 100)) + 3
unfolding size_text
length-size n = length-append (decimal (n / 100)) _

-- a store at the end of what has been put
put_next : (at : ℕ) (t : List ℕ) (v : ℕ) (b l : List ℕ) (r : ℕ) → at + length t < length b → l ≡ paste at t b → r ≡ at + length t → set l r v ≡ paste at (t ++ (v ∷ [])) b
put_next at t v b l r h e f = ap₂ (λ (m : List ℕ) (k : ℕ). set m k v) e f ∙ paste-next at t v b h

-- the point and two digits, stored one after the other
pub put-size : (at n : ℕ) (b l : List ℕ) (r : ℕ) → at + length (size_text n) ≤ length b → l ≡ paste at (decimal (n / 100)) b → r ≡ at + length (decimal (n / 100)) →
    set (set (set l r 46) (r + 1) (48 + n % 100 / 10)) (r + 2) (48 + n % 10) ≡ paste at (size_text n) b
unfolding size_text
put-size at n b l r h e f =
    let t = decimal (n / 100) in
    let x = 48 + n % 100 / 10 in
    let long = length-size n in
    let l₁ = length-append t (46 ∷ []) in
    let l₂ = length-append (t ++ (46 ∷ [])) (x ∷ []) in
    let e₁ = put_next at t 46 b l r (omega arith) e f in
    let e₂ = put_next at (t ++ (46 ∷ [])) x b (set l r 46) (r + 1) (omega arith) e₁ (omega arith) in
    let e₃ = put_next at ((t ++ (46 ∷ [])) ++ (x ∷ [])) (48 + n % 10) b (set (set l r 46) (r + 1) x) (r + 2) (omega arith) e₂ (omega arith) in
    e₃ ∙ ap (λ (u : List ℕ). paste at u b) (simp append_assoc)

-- the sign
pub amount-below : (z : ℤ) → lt_z z (pos 0) ≡ true → amount_text z ≡ 45 ∷ size_text (nat_abs z)
unfolding amount_text
amount-below (pos n) t = absurd (omega integers)
amount-below (negsuc n) t = refl

pub amount-above : (z : ℤ) → lt_z z (pos 0) ≡ false → amount_text z ≡ size_text (nat_abs z)
unfolding amount_text
amount-above (pos n) t = refl
amount-above (negsuc n) t = absurd (omega integers)

-- room, or none
module _ (t b : List ℕ) where
  pub no_room : length b < length t → (0 ≡ count_in t b) × (b ≡ written_in t b)
  unfolding count_in written_in
  no_room h = let e = lt-leb (length t) (length b) h in simp e (refl, refl)

  pub room : (r : ℕ) (l : List ℕ) → length t ≤ length b → r ≡ length t → l ≡ paste 0 t b → (r ≡ count_in t b) × (l ≡ written_in t b)
  unfolding count_in written_in
  room r l h p q = let e = le-leb (length t) (length b) h in simp e (p, q)

-- the sign and the rest are the whole
pub put-below : (t b : List ℕ) → 0 < length b → paste 1 t (set b 0 45) ≡ paste 0 (45 ∷ t) b
put-below t b h = ap (paste 1 t) (paste-one 0 45 b h) ∙ paste-paste 0 (45 ∷ []) t b (omega arith)

-- the part that is handed out
pub shown-part : (t b : List ℕ) → take (count_in t b) (written_in t b) ≡ shown_in t b
unfolding count_in written_in shown_in paste
shown-part t b = go (leb (length t) (length b))
  where
    go : (c : Bool) → take (pick c (length t) 0) (pick c (t ++ drop (0 + length t) b) b) ≡ pick c t []
    go true = take_at t (drop (0 + length t) b) (length t) refl
    go false = refl

pub count-within : (t b : List ℕ) → count_in t b ≤ length (written_in t b)
unfolding count_in written_in paste
count-within t b = go (leb (length t) (length b))
  where
    go : (c : Bool) → pick c (length t) 0 ≤ length (pick c (t ++ drop (0 + length t) b) b)
    go true = simp length-append (omega arith)
    go false = omega arith
