-- Signed numbers and their bytes, four each: an image's prices, a table. Assumes nothing.
use mathlib.Core.Path.{◌≡◌, refl, sym, ◌∙◌}
use mathlib.Core.List.{List, [], ◌∷◌, ◌++◌, append_assoc}
use Prim.Native.Nat.{ℕ, zero, suc, ◌+◌, ◌*◌, ◌-◌, ◌<◌, ◌≤◌}
use native.Mathlib.Nat.{not-suc-le-zero}
use native.Mathlib.Omega.{arith}
use lib.IntN.{ℤ, pos}
use lib.ListN.{length, get_or, take, drop, length-append}
use lib.Seq.{sets, drop-drop, drop_at, take_at, take-add}
use mir.Syntax.{w32}
use mir.Val.{SFits, of_z}
use Rattle.laws.specs.Lists.{run, tabulate}
use Rattle.laws.specs.Bytes.{le, number_at, words, price_at}
use Rattle.laws.proofs.Bytes.{length-le, sets-append, word_back, signed-there}

pub length-words : (zs : List ℤ) → length (words zs) ≡ 4 * length zs
unfolding words
length-words [] = refl
length-words (z ∷ zs) = length-append (le 4 (of_z w32 z)) (words zs) ∙ omega (arith, length-le 4 (of_z w32 z), length-words zs)

pub words_append : (xs ys : List ℤ) → words (xs ++ ys) ≡ words xs ++ words ys
unfolding words
words_append [] ys = refl
words_append (x ∷ xs) ys = rw (words_append xs ys) (sym (append_assoc (le 4 (of_z w32 x)) (words xs) (words ys)))

-- a price read where its word was written
pub price-back : (zs : List ℤ) (pre : List ℕ) (i : ℕ) → SFits w32 (get_or zs i (pos 0)) → i < length zs → price_at (pre ++ words zs) (length pre) i ≡ get_or zs i (pos 0)
unfolding words number_at
price-back [] pre i f h = absurd (not-suc-le-zero h)
price-back (z ∷ zs) pre zero f h =
    let w = le 4 (of_z w32 z) in
    let a : length pre + 4 * 0 ≡ length pre = omega arith in
    rw (a, drop_at pre (w ++ words zs) (length pre) refl, take_at w (words zs) 4 (length-le 4 (of_z w32 z))) (word_back z f)
price-back (z ∷ zs) pre (suc i) f h =
    let w = le 4 (of_z w32 z) in
    let a : length pre + 4 * suc i ≡ length (pre ++ w) + 4 * i = omega (arith, length-append pre w, length-le 4 (of_z w32 z)) in
    rw (← append_assoc pre w (words zs), a) (price-back zs (pre ++ w) i f (omega arith))

-- the words of prices that were read
pub words_back : (l : List ℕ) → ((i : ℕ) → get_or l i 0 < 256) → (n from i : ℕ) → from + 4 * (i + n) ≤ length l → words (run n i (price_at l from)) ≡ take (4 * n) (drop (from + 4 * i) l)
unfolding words run
words_back l b zero from i h = refl
words_back l b (suc n) from i h =
    let d = drop (from + 4 * i) l in
    let e : 4 * suc n ≡ 4 + 4 * n = omega arith in
    let g : from + 4 * suc i ≡ from + 4 * i + 4 = omega arith in
    rw (signed-there w32 4 refl l (from + 4 * i) b (omega arith), words_back l b n from (suc i) (omega arith), e, take-add 4 (4 * n) d, drop-drop, g)

-- a loop that writes words: what is still to go is the same at every turn. A law for its start (none), a turn (step) and its end (done)
module _ (f : ℕ → ℤ) where
  words-one : (n i : ℕ) → words (run (suc n) i f) ≡ le 4 (of_z w32 (f i)) ++ words (run n (suc i) f)
  unfolding words run
  words-one n i = refl

  pub words-none : (l : List ℕ) (at n : ℕ) → sets l (at + 4 * 0) (words (run (n - 0) 0 f)) ≡ sets l at (words (tabulate n f))
  words-none l at n = let a : at + 4 * 0 ≡ at = omega arith in let b : n - 0 ≡ n = omega arith in rw (a, b)

  pub words_step : (l r : List ℕ) (at n i : ℕ) (z : ℤ) → i < n → z ≡ f i → sets l (at + 4 * i) (words (run (n - i) i f)) ≡ r
      → sets (sets l (at + 4 * i) (le 4 (of_z w32 z))) (at + 4 * (i + 1)) (words (run (n - (i + 1)) (i + 1) f)) ≡ r
  words_step l r at n i z h q e =
      let m : n - i ≡ suc (n - (i + 1)) = omega arith in
      let j : i + 1 ≡ suc i = omega arith in
      let a : at + 4 * (i + 1) ≡ at + 4 * i + length (le 4 (of_z w32 (f i))) = omega (arith, length-le 4 (of_z w32 (f i))) in
      rw (a, q, ← sets-append l (at + 4 * i) (le 4 (of_z w32 (f i))) (words (run (n - (i + 1)) (i + 1) f)), j, ← words-one (n - suc i) i)
      (rw (m, j) at e)

  pub words-done : (l r : List ℕ) (p n i : ℕ) → n ≤ i → sets l p (words (run (n - i) i f)) ≡ r → l ≡ r
  unfolding words run
  words-done l r p n i h e = let z : n - i ≡ 0 = omega arith in rw z at e
