-- Laws of numbers as bytes, for every width, and of stores one after the other. Assumes nothing.
use mathlib.Core.Path.{◌≡◌, refl, sym, ap, ◌∙◌}
use mathlib.Core.Logic.{◌⊎◌, ⊎_elim}
use mathlib.Core.List.{List, [], ◌∷◌, ◌++◌, append-nil, append_assoc}
use Prim.Native.Nat.{ℕ, zero, suc, ◌+◌, ◌*◌, ◌/◌, ◌%◌, ◌^◌, ◌≤◌, ◌<◌}
use native.Mathlib.Nat.{not-suc-le-zero, pow-suc, div-lt_iff_lt-mul}
use native.Mathlib.Omega.{arith}
use lib.Arith.{lt-one}
use lib.IntN.{ℤ}
use lib.ListN.{length, get_or, set, take, drop, length-drop, drop_of_length-le}
use lib.Seq.{length-take-le, take-nil, drop-cons, take-append-le, drop-append-le, drop-append-add, take-set-le, drop-set-lt, get_or-drop, take_at, drop_at, sets, sets-eq}
use mir.Syntax.{Width, w32}
use mir.Val.{Fits, SFits, bits, of_z, to_z}
use mir.Facts.{to_z-of_z, of_z-to_z, Fits-of_z}
use Rattle.laws.specs.Bytes.{le, number, number_at}

-- ---- a number and its bytes
pub length-le : (w x : ℕ) → length (le w x) ≡ w
unfolding le
length-le zero x = refl
length-le (suc w) x = ap suc (length-le w (x / 256))

pub number-le : (w x : ℕ) → x < 256 ^ w → number (le w x) ≡ x
unfolding le number
number-le zero x h = sym (lt-one h)
number-le (suc w) x h =
    let z : 0 < 256 = omega arith in
    let g : x < 256 ^ w * 256 = rw (pow-suc 256 w) at h in
    let q : x / 256 < 256 ^ w = (div-lt_iff_lt-mul z).1 g in
    rw (number-le w (x / 256) q) (omega arith)

pub le-number : (w : ℕ) (l : List ℕ) → ((i : ℕ) → get_or l i 0 < 256) → w ≤ length l → le w (number (take w l)) ≡ take w l
unfolding le number
le-number zero l b h = refl
le-number (suc w) [] b h = absurd (not-suc-le-zero h)
le-number (suc w) (x ∷ xs) b h =
    let y : x < 256 = b 0 in
    let m : (x + 256 * number (take w xs)) % 256 ≡ x = omega arith in
    let d : (x + 256 * number (take w xs)) / 256 ≡ number (take w xs) = omega arith in
    rw (m, d, le-number w xs (λ i. b (suc i)) (omega arith))

-- ---- reading a number at a place
pub number-none : (l : List ℕ) (at : ℕ) → 0 ≡ number_at l at 0
unfolding number_at number
number-none l at = refl

pub number_step : (l : List ℕ) (at n : ℕ) → at < length l → number_at l at (suc n) ≡ get_or l at 0 + 256 * number_at l (suc at) n
unfolding number_at number
number_step l at n h = rw (drop-cons l at 0 h)

pub number-below : (l : List ℕ) → ((i : ℕ) → get_or l i 0 < 256) → (at n : ℕ) → at + n ≤ length l → number_at l at n < 256 ^ n
number-below l bytes at zero h = omega (arith, number-none l at)
number-below l bytes at (suc n) h =
    omega (arith, number_step l at n (omega arith), bytes at, number-below l bytes (suc at) n (omega arith), pow-suc 256 n)

pub number-one : (l : List ℕ) (at : ℕ) → at < length l → number_at l at 1 ≡ get_or l at 0
number-one l at h = omega (arith, number_step l at 0 h, number-none l (suc at))

-- in the first and in the second part of a list
pub number-append-left : (l r : List ℕ) (at w : ℕ) → at + w ≤ length l → number_at (l ++ r) at w ≡ number_at l at w
unfolding number_at
number-append-left l r at w h =
    ap number (ap (take w) (drop-append-le at l r (omega arith)) ∙ take-append-le w (drop at l) r (simp length-drop (omega arith)))

pub number-append-right : (l r : List ℕ) (n at w : ℕ) → length l ≡ n → number_at (l ++ r) (n + at) w ≡ number_at r at w
unfolding number_at
number-append-right l r n at w e = rw (← e, drop-append-add)

-- ---- lists of bytes
pub bytes_le : (w x i : ℕ) → get_or (le w x) i 0 < 256
unfolding le
bytes_le zero x i = omega arith
bytes_le (suc w) x zero = omega arith
bytes_le (suc w) x (suc i) = bytes_le w (x / 256) i

pub bytes-append : (l r : List ℕ) → ((i : ℕ) → get_or l i 0 < 256) → ((i : ℕ) → get_or r i 0 < 256) → (i : ℕ) → get_or (l ++ r) i 0 < 256
bytes-append [] r b c i = c i
bytes-append (x ∷ xs) r b c zero = b 0
bytes-append (x ∷ xs) r b c (suc i) = bytes-append xs r (λ j. b (suc j)) c i

pub bytes_drop : (n : ℕ) (l : List ℕ) → ((i : ℕ) → get_or l i 0 < 256) → (i : ℕ) → get_or (drop n l) i 0 < 256
bytes_drop n l b i = rw get_or-drop (b (n + i))

pub le-number_at : (l : List ℕ) (at w : ℕ) → ((i : ℕ) → get_or l i 0 < 256) → at + w ≤ length l → le w (number_at l at w) ≡ take w (drop at l)
unfolding number_at
le-number_at l at w b h = le-number w (drop at l) (bytes_drop at l b) (simp length-drop (omega arith))

-- ---- stores one after the other
module _ {A : Type 0} where
  pub sets-append : (l : List A) (at : ℕ) (xs ys : List A) → sets l at (xs ++ ys) ≡ sets (sets l at xs) (at + length xs) ys
  sets-append l at [] ys = ap (λ (n : ℕ). sets l n ys) (omega arith)
  sets-append l at (x ∷ xs) ys = sets-append (set l at x) (suc at) xs ys ∙ ap (λ (n : ℕ). sets (sets (set l at x) (suc at) xs) n ys) (omega arith)

  pub sets-front : (l vs : List A) → length vs ≤ length l → sets l 0 vs ≡ vs ++ drop (length vs) l
  sets-front l vs h = let e : 0 + length vs ≡ length vs = omega arith in sets-eq vs l 0 (omega arith) ∙ rw e

  pub sets-whole : (l vs : List A) → length vs ≡ length l → sets l 0 vs ≡ vs
  sets-whole l vs e = sets-front l vs (omega arith) ∙ rw (drop_of_length-le l {i = length vs} (omega arith)) (append-nil vs)

  -- what is read where they went, and elsewhere
  pub take-sets : (l vs : List A) (at n : ℕ) → length vs ≡ n → at + n ≤ length l → take n (drop at (sets l at vs)) ≡ vs
  take-sets l vs at n e h =
      rw (sets-eq vs l at (omega arith), append_assoc, drop_at (take at l) (vs ++ drop (at + length vs) l) at (length-take-le at l (omega arith)))
      (take_at vs (drop (at + length vs) l) n e)

  pub drop-sets : (l vs : List A) (at p : ℕ) → at + length vs ≤ p → drop p (sets l at vs) ≡ drop p l
  drop-sets l [] at p h = refl
  drop-sets l (v ∷ vs) at p h = drop-sets (set l at v) vs (suc at) p (omega arith) ∙ drop-set-lt p l at v (omega arith)

  pub front-sets : (l vs : List A) (at n : ℕ) → n ≤ at → take n (sets l at vs) ≡ take n l
  front-sets l [] at n h = refl
  front-sets l (v ∷ vs) at n h = front-sets (set l at v) vs (suc at) n (omega arith) ∙ take-set-le n l at v h

  take-drop : (l : List A) (p w : ℕ) → take w (drop p l) ≡ drop p (take (p + w) l)
  take-drop l zero w = let e : 0 + w ≡ w = omega arith in rw e
  take-drop [] (suc p) w = let e : suc p + w ≡ suc (p + w) = omega arith in rw (e, take-nil)
  take-drop (x ∷ xs) (suc p) w = let e : suc p + w ≡ suc (p + w) = omega arith in rw e (take-drop xs p w)

-- ---- reading after a store: the number that was put there, and elsewhere what was there
pub number_same : (l : List ℕ) (at w x : ℕ) → at + w ≤ length l → x < 256 ^ w → number_at (sets l at (le w x)) at w ≡ x
unfolding number_at
number_same l at w x h f = ap number (take-sets l (le w x) at w (length-le w x) h) ∙ number-le w x f

pub number-other : (l vs : List ℕ) (at p w : ℕ) → (p + w ≤ at) ⊎ (at + length vs ≤ p) → number_at (sets l at vs) p w ≡ number_at l p w
unfolding number_at
number-other l vs at p w =
    ⊎_elim
    (λ h. ap number (take-drop (sets l at vs) p w ∙ ap (drop p) (front-sets l vs at (p + w) h) ∙ sym (take-drop l p w)))
    (λ h. ap (λ (r : List ℕ). number (take w r)) (drop-sets l vs at p h))

-- ---- signed numbers of n bytes: read back what was written, write back what was read
module _ (w : Width) (n : ℕ) (e : 256 ^ n ≡ 2 ^ bits w) where
  bits_below : (z : ℤ) → SFits w z → of_z w z < 256 ^ n
  bits_below z f = rw e (Fits-of_z f).fits

  pub signed_back : (z : ℤ) → SFits w z → to_z w (number (le n (of_z w z))) ≡ z
  signed_back z f = ap (to_z w) (number-le n (of_z w z) (bits_below z f)) ∙ to_z-of_z f

  pub signed_same : (l : List ℕ) (at : ℕ) (z : ℤ) → at + n ≤ length l → SFits w z → to_z w (number_at (sets l at (le n (of_z w z))) at n) ≡ z
  signed_same l at z h f = ap (to_z w) (number_same l at n (of_z w z) h (bits_below z f)) ∙ to_z-of_z f

  pub signed-there : (l : List ℕ) (at : ℕ) → ((i : ℕ) → get_or l i 0 < 256) → at + n ≤ length l → le n (of_z w (to_z w (number_at l at n))) ≡ take n (drop at l)
  signed-there l at b h =
      let f : Fits w (number_at l at n) = record { fits = rw (← e) (number-below l b at n h) } in
      ap (le n) (of_z-to_z f) ∙ le-number_at l at n b h

-- the word of a price; what it was read from, by `signed-there w32 4 refl`
pub word_back : (z : ℤ) → SFits w32 z → to_z w32 (number (le 4 (of_z w32 z))) ≡ z
word_back = signed_back w32 4 refl
