-- Laws of `rounded`, for every divisor. Assumes nothing.
use mathlib.Core.Path.{◌≡◌, refl, ap}
use mathlib.Core.Bool.{true, false}
use Prim.Native.Nat.{ℕ, zero, suc, ◌+◌, ◌-◌, ◌*◌, ◌/◌, ◌≤◌, ◌<◌}
use native.Mathlib.Nat.{div-add-mod, mod-lt, div-lt_iff_lt-mul, le-div_iff_mul-le, div-zero, div-mul-le_self, div-eq_of_lt, le_trans}
use native.Mathlib.Decide.{ℕ_discrete}
use native.Mathlib.Omega.{arith}
use lib.IntN.{ℤ, pos, negsuc, neg_ℤ, nat_abs, ◌+ℤ◌, ◌-ℤ◌, ◌*ℤ◌}
use lib.Signed.{◌≤ℤ◌, le_z, lt_z, quot_z}
use Rattle.pricing.specs.Rounding.{nearest, rounded, Nearest}
use Rattle.laws.proofs.Integers.{parts, integers, same, le_test, abs-parts, abs_neg, quot-neg, neg-times}

-- the nearest is within half a divisor, and at a half it is the larger
pub nearest-law : (m d : ℕ) → 0 < d → (2 * (nearest m d * d) ≤ 2 * m + d) × (2 * m < 2 * (nearest m d * d) + d)
unfolding nearest
nearest-law m d h =
    let two : 0 < 2 * d = omega arith in
    omega (arith, div-add-mod (2 * m + d) (2 * d), mod-lt (2 * m + d) two)

pub round-law : (n : ℤ) (d : ℕ) → 0 < d → Nearest n d (rounded n d)
unfolding rounded
round-law (pos m) d h =
    let l = nearest-law m d h in
    record {
      near = simp (abs-parts, parts) (omega arith);
      away = λ e. omega (arith, simp (abs-parts, parts) at e);
    }
round-law (negsuc m) d h =
    let l = nearest-law (suc m) d h in
    record {
      near = simp (neg-times, abs-parts, parts) (omega arith);
      away = λ e. simp abs_neg (omega (arith, simp (neg-times, abs-parts, parts) at e));
    }

-- a bound on the result
pub nearest-size : (m d k : ℕ) → 0 < d → m ≤ k * d → nearest m d ≤ k
unfolding nearest
nearest-size m d k h b =
    let two : 0 < 2 * d = omega arith in
    let q : (2 * m + d) / (2 * d) < k + 1 = (div-lt_iff_lt-mul two).1 (omega arith) in
    omega arith

pub round-size : (n : ℤ) (d k : ℕ) → 0 < d → nat_abs n ≤ k * d → nat_abs (rounded n d) ≤ k
unfolding rounded
round-size (pos m) d k h b = nearest-size m d k h b
round-size (negsuc m) d k h b = simp abs_neg (nearest-size (suc m) d k h b)

-- a larger dividend has no smaller result
nearest-mono : (m n d : ℕ) → m ≤ n → nearest m d ≤ nearest n d
unfolding nearest
nearest-mono m n zero h = omega (arith, div-zero (2 * m + 0))
nearest-mono m n (suc d) h =
    let p : 0 < 2 * suc d = omega arith in
    (le-div_iff_mul-le p).1 (le_trans (div-mul-le_self (2 * m + suc d) (2 * suc d)) (omega arith))

pub round_mono : (x y : ℤ) (d : ℕ) → le_z x y ≡ true → le_z (rounded x d) (rounded y d) ≡ true
unfolding rounded
round_mono (pos a) (pos b) d h = le_test (pos (nearest a d)) (pos (nearest b d)) (omega (arith, nearest-mono a b d (omega integers)))
round_mono (pos a) (negsuc b) d h = absurd (omega integers)
round_mono (negsuc a) (pos b) d h = le_test (neg_ℤ (pos (nearest (suc a) d))) (pos (nearest b d)) (simp parts (omega arith))
round_mono (negsuc a) (negsuc b) d h =
    le_test (neg_ℤ (pos (nearest (suc a) d))) (neg_ℤ (pos (nearest (suc b) d)))
    (simp parts (omega (arith, nearest-mono (suc b) (suc a) d (omega integers))))

-- a bound from below
pub nearest-least : (m d k : ℕ) → 0 < d → 2 * (k * d) ≤ 2 * m + d → k ≤ nearest m d
unfolding nearest
nearest-least m d k h b = let two : 0 < 2 * d = omega arith in (le-div_iff_mul-le two).1 (omega arith)

-- the sign goes through
pub round-neg : (k d : ℕ) → 0 < d → rounded (neg_ℤ (pos k)) d ≡ neg_ℤ (pos (nearest k d))
unfolding rounded nearest
round-neg zero d h = let s : 2 * 0 + d < 2 * d = omega arith in rw (div-eq_of_lt s)
round-neg (suc k) d h = refl

-- the machine's way to it, on either side of 0
pub round-below : (n d : ℤ) → lt_z n (pos 0) ≡ true → pos 1 ≤ℤ d → quot_z (pos 2 *ℤ n -ℤ d) (pos 2 *ℤ d) ≡ rounded n (nat_abs d)
unfolding rounded nearest
round-below (pos a) d t h = absurd (omega integers)
round-below (negsuc a) (pos b) t h =
    let e : neg_ℤ (pos (2 * suc a)) -ℤ pos b ≡ neg_ℤ (pos (2 * suc a + b)) = same _ _ (simp parts (omega arith)) in
    rw e (quot-neg (2 * suc a + b) (2 * b))
round-below (negsuc a) (negsuc b) t h = absurd (omega integers)

pub round-above : (n d : ℤ) → lt_z n (pos 0) ≡ false → pos 1 ≤ℤ d → quot_z (pos 2 *ℤ n +ℤ d) (pos 2 *ℤ d) ≡ rounded n (nat_abs d)
unfolding rounded nearest
round-above (pos a) (pos b) t h = refl
round-above (pos a) (negsuc b) t h = absurd (omega integers)
round-above (negsuc a) d t h = absurd (omega integers)

-- ---- and nothing else is: what `Nearest` says of q makes it `rounded n d`
nearest-only : (m d q : ℕ) → 0 < d → 2 * (q * d) ≤ 2 * m + d → 2 * m < 2 * (q * d) + d → q ≡ nearest m d
unfolding nearest
nearest-only m d q h a b =
    let two : 0 < 2 * d = omega arith in
    let low = nearest-least m d q h a in
    let high : (2 * m + d) / (2 * d) < q + 1 = (div-lt_iff_lt-mul two).1 (omega arith) in
    omega arith

-- in the natural numbers: within half a divisor, and at a half the larger
sizes-only : (m d k : ℕ) → 0 < d → 2 * ((m - k * d) + (k * d - m)) ≤ d → (2 * ((m - k * d) + (k * d - m)) ≡ d → m < k * d) → k ≡ nearest m d
sizes-only m d k h a t = nearest-only m d k h (omega arith) (go (ℕ_discrete (2 * ((m - k * d) + (k * d - m))) d))
  where
    go : Dec (2 * ((m - k * d) + (k * d - m)) ≡ d) → 2 * m < 2 * (k * d) + d
    go (yes e) = omega (arith, t e)
    go (no f) = omega arith

-- the gap between two numbers, by their signs
gap-above : (m j : ℕ) → nat_abs (pos m -ℤ pos j) ≡ (m - j) + (j - m)
gap-above m j = simp (abs-parts, parts) (omega arith)

gap_below : (m j : ℕ) → nat_abs (negsuc m -ℤ neg_ℤ (pos j)) ≡ (suc m - j) + (j - suc m)
gap_below m j = simp (abs-parts, parts) (omega arith)

gap-across : (m j : ℕ) → nat_abs (pos m -ℤ neg_ℤ (pos j)) ≡ m + j
gap-across m j = simp (abs-parts, parts) (omega arith)

gap-across' : (m j : ℕ) → nat_abs (negsuc m -ℤ pos j) ≡ suc m + j
gap-across' m j = simp (abs-parts, parts) (omega arith)

pub round-only : (n : ℤ) (d : ℕ) (q : ℤ) → 0 < d → Nearest n d q → q ≡ rounded n d
unfolding rounded
round-only (pos m) d (pos k) h r =
    let g = gap-above m (k * d) in
    ap pos (sizes-only m d k h (rw g at r.near) (rw g at r.away))
round-only (pos m) d (negsuc k) h r = absurd (omega (arith, r.near, gap-across m (suc k * d)))
round-only (negsuc m) d (pos zero) h r =
    let g = gap-across' m (0 * d) in
    ap (λ (k : ℕ). neg_ℤ (pos k)) (sizes-only (suc m) d 0 h (omega (arith, r.near)) (λ e. omega (arith, r.away (omega arith))))
round-only (negsuc m) d (pos (suc k)) h r = absurd (omega (arith, r.near, gap-across' m (suc k * d)))
round-only (negsuc m) d (negsuc k) h r =
    let g = gap_below m (suc k * d) in
    ap (λ (k : ℕ). neg_ℤ (pos k)) (sizes-only (suc m) d (suc k) h (rw g at r.near) (rw g at r.away))
