-- What a turn of the loops of `get` and `put` does, and the four bytes of a word. Assumes nothing.
use mathlib.Core.Path.{◌≡◌, refl, ◌∙◌}
use mathlib.Core.List.{List, append_assoc}
use Prim.Native.Nat.{ℕ, suc, ◌+◌, ◌*◌, ◌-◌, ◌/◌, ◌%◌, ◌^◌, ◌≤◌, ◌<◌}
use native.Mathlib.Nat.{pow-le-pow_right}
use native.Mathlib.Omega.{arith}
use lib.ListN.{length, get_or, set}
use lib.Seq.{sets, sets-eq, drop-drop}
use borrow.Rule.Slice.PartMut.{put_mid}
use mir.Syntax.{w32}
use Rattle.std.specs.Int.{to_le_bytes}
use Rattle.laws.specs.Bytes.{le, number_at}
use Rattle.laws.proofs.Bytes.{number_step, number-one, number-below, length-le}

-- ---- reading: j bytes are left, and there is room for one more
pub get-step : (l : List ℕ) (at w j x v : ℕ) → 0 < j → j ≤ w → at + w ≤ length l → x ≡ number_at l (at + j) (w - j) → v ≡ get_or l (at + (j - 1)) 0 → x * 256 + v ≡ number_at l (at + (j - 1)) (w - (j - 1))
get-step l at w j x v p h q e f =
    let n : w - (j - 1) ≡ suc (w - j) = omega arith in
    let a : suc (at + (j - 1)) ≡ at + j = omega arith in
    let s = number_step l (at + (j - 1)) (w - j) (omega arith) in
    rw (n, s, a, e, f) (omega arith)

pub get-room : (l : List ℕ) → ((i : ℕ) → get_or l i 0 < 256) → (at n : ℕ) → at + n ≤ length l → n ≤ 7 → number_at l at n < 256 ^ 7
get-room l b at n h k = omega (arith, number-below l b at n h, pow-le-pow_right {n = 256} (omega arith) k)

pub word_number : (l : List ℕ) (at : ℕ) → at + 4 ≤ length l → get_or l at 0 + get_or l (at + 1) 0 * 256 + get_or l (at + 2) 0 * 65536 + get_or l (at + 3) 0 * 16777216 ≡ number_at l at 4
word_number l at h =
    let a : at + 1 ≡ suc at = omega arith in
    let b : at + 2 ≡ suc (suc at) = omega arith in
    let c : at + 3 ≡ suc (suc (suc at)) = omega arith in
    rw (a, b, c) (omega (arith, number_step l at 3 (omega arith), number_step l (suc at) 2 (omega arith), number_step l (suc (suc at)) 1 (omega arith), number-one l (suc (suc (suc at))) (omega arith)))

-- ---- writing: what is still to go is the same at every turn
pub put-none : (l : List ℕ) (at w x : ℕ) → sets l (at + 0) (le (w - 0) x) ≡ sets l at (le w x)
put-none l at w x = let a : at + 0 ≡ at = omega arith in let b : w - 0 ≡ w = omega arith in rw (a, b)

put_one : (l : List ℕ) (p n y : ℕ) → sets l p (le (suc n) y) ≡ sets (set l p (y % 256)) (suc p) (le n (y / 256))
unfolding le
put_one l p n y = refl

pub put_step : (l r : List ℕ) (at w i y : ℕ) → i < w → sets l (at + i) (le (w - i) y) ≡ r → sets (set l (at + i) (y % 256)) (at + (i + 1)) (le (w - (i + 1)) (y / 256)) ≡ r
put_step l r at w i y h e =
    let a : at + (i + 1) ≡ suc (at + i) = omega arith in
    let n : w - i ≡ suc (w - (i + 1)) = omega arith in
    rw (a, ← put_one l (at + i) (w - (i + 1)) y, ← n) e

pub put-done : (l r : List ℕ) (p n y : ℕ) → n ≡ 0 → sets l p (le n y) ≡ r → l ≡ r
unfolding le
put-done l r p n y e f = rw e at f

-- four bytes, one put each
pub word-sets : (l : List ℕ) (at x y : ℕ) → x ≡ y → set (set (set (set l at (x % 256)) (at + 1) (x / 256 % 256)) (at + 2) (x / 65536 % 256)) (at + 3) (x / 16777216 % 256) ≡ sets l at (le 4 y)
unfolding le
word-sets l at x y e =
    let a : at + 1 ≡ suc at = omega arith in
    let b : at + 2 ≡ suc (suc at) = omega arith in
    let c : at + 3 ≡ suc (suc (suc at)) = omega arith in
    let p : x / 65536 ≡ x / 256 / 256 = omega arith in
    let q : x / 16777216 ≡ x / 256 / 256 / 256 = omega arith in
    rw (a, b, c, p, q, e)

-- ---- a part copied over a place, and four bytes
pub copied : (l m xs : List ℕ) (at n : ℕ) → n ≡ length xs → at + n ≤ length l → m ≡ xs → put_mid at n l m ≡ sets l at xs
copied l m xs at n k h e = rw (e, k, sets-eq xs l at (omega arith), drop-drop, append_assoc)

word-bytes : (x : ℕ) → to_le_bytes w32 x ≡ le 4 x
unfolding le
word-bytes x =
    let p : x / 65536 ≡ x / 256 / 256 = omega arith in
    let q : x / 16777216 ≡ x / 256 / 256 / 256 = omega arith in
    rw (p, q)

pub word-copied : (l m : List ℕ) (at x : ℕ) → at + 4 ≤ length l → m ≡ to_le_bytes w32 x → put_mid at (at + 4 - at) l m ≡ sets l at (le 4 x)
word-copied l m at x h e = copied l m (le 4 x) at (at + 4 - at) (omega (arith, length-le 4 x)) (omega arith) (e ∙ word-bytes x)
