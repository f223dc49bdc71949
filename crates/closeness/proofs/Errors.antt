-- How far a limit that has passed links is from the exact quotient or product: less than 0.51 cent over up to seven links. Assumes nothing.
use mathlib.Core.Path.{◌≡◌, refl, ap, ◌∙◌}
use mathlib.Core.Bool.{Bool, true, false}
use mathlib.Core.List.{List, [], ◌∷◌}
use Prim.Native.Nat.{ℕ, suc, ◌+◌, ◌*◌, ◌^◌, ◌≤◌, ◌<◌}
use native.Mathlib.Nat.{le_trans, mul-le-mul, mul-le-mul_left, mul-le-mul_right, pow-le-pow_right, two-pow-succ}
use native.Mathlib.Omega.{arith}
use lib.IntN.{ℤ, pos, negsuc, neg_ℤ}
use lib.ListN.{length}
use Rattle.laws.specs.Base.{pick}
use Rattle.laws.proofs.Integers.{parts, abs-parts, neg-times}
use Rattle.pricing.specs.Rounding.{nearest, rounded}
use Rattle.pricing.specs.Carrying.{carried, Factor, along, Factors}
use Rattle.pricing.specs.Passing.{cents, passed}
use Rattle.pricing.proofs.Roundings.{nearest-law, round-neg}
use Rattle.closeness.specs.Exact.{times, by, Close}

-- ---- sizes: a limit's sign goes through every link, so that its size tells all
abbrev carried_by : Bool → ℕ → ℕ → ℕ
carried_by caps f u = nearest (u * pick caps 10000 f) (pick caps f 10000)

unfoldable along_by : Bool → List ℕ → ℕ → ℕ
along_by caps [] u = u
along_by caps (f ∷ l) u = along_by caps l (carried_by caps f u)

-- a divisor is above 0, and what is multiplied by is at most twice it
divisor : (caps : Bool) (f : ℕ) → Factor f → (0 < pick caps f 10000) × (pick caps 10000 f ≤ 2 * pick caps f 10000)
divisor true f ok = (omega (arith, ok.least), omega (arith, ok.least))
divisor false f ok = (omega arith, omega (arith, ok.most))

by-above : (caps : Bool) (l : List ℕ) → Factors l → 0 < by caps l
unfolding by
by-above caps [] ok = omega arith
by-above caps (f ∷ l) ok =
    let one : 1 ≤ pick caps f 10000 = (divisor caps f ok.0).0 in
    let rest : 1 ≤ by caps l = by-above caps l ok.1 in
    omega (arith, mul-le-mul one rest)

times-most : (caps : Bool) (l : List ℕ) → Factors l → times caps l ≤ 2 ^ length l * by caps l
unfolding times by
times-most caps [] ok = omega arith
times-most caps (f ∷ l) ok =
    rw (two-pow-succ (length l))
    (le_trans (mul-le-mul (divisor caps f ok.0).1 (times-most caps l ok.1)) (omega arith))

-- ---- over k links, in the unit in which a limit is carried: off by at most (2^k − 1) / 2
module _ (d n t b u v q p : ℕ) where
  -- one link more at the source's end: v is u × n / d rounded, and from v on the links are off by p - 1
  off-above : 2 * (v * d) ≤ 2 * (u * n) + d → t ≤ p * b → 2 * (q * b) + b ≤ 2 * (v * t) + p * b
      → 2 * (q * (d * b)) + d * b ≤ 2 * (u * (n * t)) + (p + p) * (d * b)
  off-above h m i = omega (arith, mul-le-mul_left t h, mul-le-mul_left d m, mul-le-mul_left d i)

  off-below : 2 * (u * n) < 2 * (v * d) + d → t ≤ p * b → 2 * (v * t) + b ≤ 2 * (q * b) + p * b
      → 2 * (u * (n * t)) + d * b ≤ 2 * (q * (d * b)) + (p + p) * (d * b)
  off-below h m i =
      let l : 2 * (u * n) ≤ 2 * (v * d) + d = omega arith in
      omega (arith, mul-le-mul_left t l, mul-le-mul_left d m, mul-le-mul_left d i)

-- 2 × |q × by − u × times| + by ≤ 2^k × by
along-above : (caps : Bool) (l : List ℕ) (u : ℕ) → Factors l
    → 2 * (along_by caps l u * by caps l) + by caps l ≤ 2 * (u * times caps l) + 2 ^ length l * by caps l
unfolding along_by times by
along-above caps [] u ok = omega arith
along-above caps (f ∷ l) u ok =
    let d = pick caps f 10000 in
    let n = pick caps 10000 f in
    let v = carried_by caps f u in
    rw (two-pow-succ (length l))
    (off-above d n (times caps l) (by caps l) u v (along_by caps l v) (2 ^ length l)
    (nearest-law (u * n) d (divisor caps f ok.0).0).0 (times-most caps l ok.1) (along-above caps l v ok.1))

along-below : (caps : Bool) (l : List ℕ) (u : ℕ) → Factors l
    → 2 * (u * times caps l) + by caps l ≤ 2 * (along_by caps l u * by caps l) + 2 ^ length l * by caps l
unfolding along_by times by
along-below caps [] u ok = omega arith
along-below caps (f ∷ l) u ok =
    let d = pick caps f 10000 in
    let n = pick caps 10000 f in
    let v = carried_by caps f u in
    rw (two-pow-succ (length l))
    (off-below d n (times caps l) (by caps l) u v (along_by caps l v) (2 ^ length l)
    (nearest-law (u * n) d (divisor caps f ok.0).0).1 (times-most caps l ok.1) (along-below caps l v ok.1))

-- ---- the last step, over at most seven links
module _ (caps : Bool) (l : List ℕ) (ok : Factors l) (seven : length l ≤ 7) (m : ℕ) where
  abbrev u : ℕ
  u = along_by caps l (m * 10000)

  abbrev q : ℕ
  q = nearest u 10000

  few : 2 ^ length l ≤ 128
  few = let two : 0 < 2 = omega arith in pow-le-pow_right two seven

  last : (2 * (q * 10000) ≤ 2 * u + 10000) × (2 * u < 2 * (q * 10000) + 10000)
  last = nearest-law u 10000 (omega arith)

  size_above : 100 * (q * by caps l) < 100 * (m * times caps l) + 51 * by caps l
  size_above =
      let b = by caps l in
      omega (arith, along-above caps l (m * 10000) ok, mul-le-mul_right b few, mul-le-mul_right b last.0, by-above caps l ok)

  size_below : 100 * (m * times caps l) < 100 * (q * by caps l) + 51 * by caps l
  size_below =
      let h : 2 * u ≤ 2 * (q * 10000) + 10000 = omega (arith, last.1) in
      omega (arith, along-below caps l (m * 10000) ok, mul-le-mul_right (by caps l) few, mul-le-mul_right (by caps l) h, by-above caps l ok)

-- ---- with signs
carried-pos : (caps : Bool) (f m : ℕ) → carried caps f (pos m) ≡ pos (carried_by caps f m)
unfolding carried rounded
carried-pos true f m = refl
carried-pos false f m = refl

carried-neg : (caps : Bool) (f m : ℕ) → Factor f → carried caps f (neg_ℤ (pos m)) ≡ neg_ℤ (pos (carried_by caps f m))
unfolding carried
carried-neg true f m ok = rw (neg-times m 10000) (round-neg (m * 10000) f (omega (arith, ok.least)))
carried-neg false f m ok = rw (neg-times m f) (round-neg (m * f) 10000 (omega arith))

along-pos : (caps : Bool) (l : List ℕ) (m : ℕ) → along caps l (pos m) ≡ pos (along_by caps l m)
unfolding along along_by
along-pos caps [] m = refl
along-pos caps (f ∷ l) m = ap (along caps l) (carried-pos caps f m) ∙ along-pos caps l (carried_by caps f m)

along-neg : (caps : Bool) (l : List ℕ) (m : ℕ) → Factors l → along caps l (neg_ℤ (pos m)) ≡ neg_ℤ (pos (along_by caps l m))
unfolding along along_by
along-neg caps [] m ok = refl
along-neg caps (f ∷ l) m ok = ap (along caps l) (carried-neg caps f m ok.0) ∙ along-neg caps l (carried_by caps f m) ok.1

passed-pos : (caps : Bool) (l : List ℕ) (m : ℕ) → passed caps l (pos m) ≡ pos (nearest (along_by caps l (m * 10000)) 10000)
unfolding cents rounded
passed-pos caps l m = ap cents (along-pos caps l (m * 10000))

passed-neg : (caps : Bool) (l : List ℕ) (m : ℕ) → Factors l
    → passed caps l (neg_ℤ (pos m)) ≡ neg_ℤ (pos (nearest (along_by caps l (m * 10000)) 10000))
unfolding cents
passed-neg caps l m ok =
    rw (neg-times m 10000, along-neg caps l (m * 10000) ok) (round-neg (along_by caps l (m * 10000)) 10000 (omega arith))

-- THE BOUND: "a passed-on limit, cap or floor, is less than 0.51 cent from the exact quotient or product along its route, for up to
-- seven links", whatever the limit is
pub passed-close : (caps : Bool) (l : List ℕ) (x : ℤ) → Factors l → length l ≤ 7 → Close caps l x (passed caps l x)
passed-close caps l (pos m) ok seven =
    let a = size_above caps l ok seven m in
    let b = size_below caps l ok seven m in
    rw (passed-pos caps l m) (simp (abs-parts, parts) (omega arith))
passed-close caps l (negsuc m) ok seven =
    let a = size_above caps l ok seven (suc m) in
    let b = size_below caps l ok seven (suc m) in
    rw (passed-neg caps l (suc m) ok, neg-times) (simp (abs-parts, parts) (omega arith))
