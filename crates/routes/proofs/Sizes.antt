-- How large a limit over links is: it at most doubles over each, a cap limit stays above 0 and a floor limit below. Assumes nothing.
use Rattle.std.specs.Prelude.{Option, Some, None}
use mathlib.Core.Path.{◌≡◌, refl, ap, subst}
use mathlib.Core.Bool.{Bool, true, false}
use mathlib.Core.List.{List}
use Prim.Native.Nat.{ℕ, zero, suc, ◌-◌, ◌*◌, ◌^◌, ◌≤◌, ◌<◌}
use native.Mathlib.Nat.{le_trans, mul-le-mul_left, pow-suc, pow-le-pow_right}
use native.Mathlib.Omega.{arith}
use lib.Dec.{eqb}
use lib.IntN.{ℤ, pos, negsuc, nat_abs}
use lib.ListN.{get_or, set}
use lib.Signed.{◌≤ℤ◌, le_z}
use borrow.Author.Tests.{eqb-false}
use Rattle.laws.specs.Base.{pick, min_z, max_z}
use Rattle.laws.proofs.Integers.{integers, le_order}
use Rattle.pricing.specs.Carrying.{carried, Factor}
use Rattle.pricing.proofs.Carries.{doubled, cap-least, floor-most}
use Rattle.routes.specs.Limits.{tighter, over, own}
use Rattle.routes.specs.Links.{step}
use Rattle.routes.specs.Routes.{unseen, limit_of}
use Rattle.routes.specs.Search.{tightest, limit_from, Sized, Linked}
use Rattle.routes.proofs.Routes.{limit-routes}

-- ---- what holds of a limit's number, where there is one
abbrev pub Kept : (ℤ → Type 0) → Option ℤ → Type 0
Kept P None = Unit {0}
Kept P (Some z) = P z

pub kept_at : (P : ℤ → Type 0) {l : Option ℤ} {z : ℤ} → l ≡ Some z → Kept P l → P z
kept_at P e k = subst (Kept P) e k

pub own-kept : (P : ℤ → Type 0) (hits : List Bool) (bound : ℤ) → P bound → (x : ℕ) → Kept P (own hits bound x)
own-kept P hits bound h x = go (get_or hits x false)
  where
    go : (t : Bool) → Kept P (pick t (Some bound) None)
    go true = h
    go false = tt

-- the tighter of two is one of the two
module _ (P : ℤ → Type 0) where
  pick-kept : (caps : Bool) (x y : ℤ) → P x → P y → P (pick caps (min_z x y) (max_z x y))
  unfolding min_z max_z
  pick-kept caps x y p q = go caps (le_z x y)
    where
      go : (c t : Bool) → P (pick c (pick t x y) (pick t y x))
      go true true = p
      go true false = q
      go false true = q
      go false false = p

  tighter-kept : (caps : Bool) (a b : Option ℤ) → Kept P a → Kept P b → Kept P (tighter caps a b)
  unfolding tighter
  tighter-kept caps None b p q = q
  tighter-kept caps (Some x) None p q = p
  tighter-kept caps (Some x) (Some y) p q = pick-kept caps x y p q

  tightest-kept : (caps : Bool) (f : ℕ → Option ℤ) (l : Option ℤ) (n : ℕ) → Kept P l → ((y : ℕ) → y < n → Kept P (f y)) → Kept P (tightest caps f l n)
  unfolding tightest
  tightest-kept caps f l zero s h = s
  tightest-kept caps f l (suc n) s h = tighter-kept caps (tightest caps f l n) (f n) (tightest-kept caps f l n s (λ y p. h y (omega arith))) (h n (omega arith))

over-kept : (P Q : ℤ → Type 0) (caps : Bool) (f : ℕ) → ((z : ℤ) → Factor f → P z → Q (carried caps f z)) → (l : Option ℤ) → Linked f → Kept P l → Kept Q (over caps f l)
unfolding over
over-kept P Q caps f h None k s = tt
over-kept P Q caps f h (Some z) k s = go (eqb f 0) refl
  where
    go : (t : Bool) → eqb f 0 ≡ t → Kept Q (pick t None (Some (carried caps f z)))
    go true e = tt
    go false e = let n = eqb-false f 0 e in h z (k (omega arith)) s

-- the factor of a link stays one in either direction
pub step-linked : (caps : Bool) (power : ℕ → ℕ → ℕ) (R : ℕ) → ((x y : ℕ) → x < R → y < R → Linked (power x y)) → (x y : ℕ) → x < R → y < R → Linked (step caps power x y)
step-linked true power R linked x y i j = linked x y i j
step-linked false power R linked x y i j = linked y x j i

-- what holds of each own limit with no link gone, and with one more after one more, holds of a limit with as many as are left
module _ (caps : Bool) (power : ℕ → ℕ → ℕ) (own : ℕ → Option ℤ) (R : ℕ) (linked : (x y : ℕ) → x < R → y < R → Linked (power x y))
    (P : ℕ → ℤ → Type 0) (more : (n : ℕ) (f : ℕ) (z : ℤ) → Factor f → P n z → P (suc n) (carried caps f z))
    (owns : (n x : ℕ) → x < R → Kept (P n) (own x)) where
  pub search-kept : (left : ℕ) (seen : List Bool) (x : ℕ) → x < R → Kept (P left) (limit_from caps power own R left seen x)
  unfolding limit_from
  search-kept zero seen x i = owns zero x i
  search-kept (suc left) seen x i =
      tightest-kept (P (suc left)) caps _ (own x) R (owns (suc left) x i) (λ y j. go y (get_or (set seen x true) y false) j (search-kept left (set seen x true) y j))
    where
      go : (y : ℕ) (t : Bool) → y < R → Kept (P left) (limit_from caps power own R left (set seen x true) y) → Kept (P (suc left)) (pick t None (over caps (step caps power x y) (limit_from caps power own R left (set seen x true) y)))
      go y true j s = tt
      go y false j s = over-kept (P left) (P (suc left)) caps (step caps power x y) (more left (step caps power x y)) _ (step-linked caps power R linked x y i j) s

  pub limit-kept : (x : ℕ) → x < R → Kept (P (R - 1)) (limit_of caps power own R x)
  limit-kept x i = subst (Kept (P (R - 1))) (limit-routes caps power own R x) (search-kept (R - 1) unseen x i)

-- ---- sizes
pub sized-at : {b : ℕ} {l : Option ℤ} {z : ℤ} → l ≡ Some z → Sized b l → nat_abs z ≤ b
sized-at {b} e s = subst (Sized b) e s

pub sized-more : {b d : ℕ} (l : Option ℤ) → b ≤ d → Sized b l → Sized d l
sized-more None h s = tt
sized-more (Some z) h s = le_trans s h

sized-kept : (b d : ℕ) (l : Option ℤ) → b ≤ d → Sized b l → Kept (λ z. nat_abs z ≤ d) l
sized-kept b d None h s = tt
sized-kept b d (Some z) h s = le_trans s h

kept-sized : (b d : ℕ) (l : Option ℤ) → b ≤ d → Kept (λ z. nat_abs z ≤ b) l → Sized d l
kept-sized b d None h s = tt
kept-sized b d (Some z) h s = le_trans s h

module _ (caps : Bool) (power : ℕ → ℕ → ℕ) (own : ℕ → Option ℤ) (R : ℕ) (linked : (x y : ℕ) → x < R → y < R → Linked (power x y))
    (b : ℕ) (owns : (x : ℕ) → x < R → Sized b (own x)) where
  doubles : (n : ℕ) (f : ℕ) (z : ℤ) → Factor f → nat_abs z ≤ b * 2 ^ n → nat_abs (carried caps f z) ≤ b * 2 ^ suc n
  doubles n f z l h = omega (arith, doubled caps f z l, pow-suc 2 n, ap (λ (p : ℕ). b * p) (pow-suc 2 n))

  starts : (n x : ℕ) → x < R → Kept (λ z. nat_abs z ≤ b * 2 ^ n) (own x)
  starts n x i = sized-kept b (b * 2 ^ n) (own x) (omega (arith, mul-le-mul_left b (pow-le-pow_right {n = 2} (omega arith) {i = 0} {j = n} (omega arith)))) (owns x i)

  pub search-sized : (left : ℕ) (seen : List Bool) (x : ℕ) → x < R → Sized (b * 2 ^ left) (limit_from caps power own R left seen x)
  search-sized left seen x i = kept-sized (b * 2 ^ left) (b * 2 ^ left) (limit_from caps power own R left seen x) (omega arith) (search-kept caps power own R linked (λ n z. nat_abs z ≤ b * 2 ^ n) doubles starts left seen x i)

  -- a limit over every route
  pub limit-sized : (x : ℕ) → x < R → Sized (b * 2 ^ (R - 1)) (limit_of caps power own R x)
  limit-sized x i = subst (Sized (b * 2 ^ (R - 1))) (limit-routes caps power own R x) (search-sized (R - 1) unseen x i)

pub own-sized : (b : ℕ) (hits : List Bool) (bound : ℤ) → nat_abs bound ≤ b → (x : ℕ) → Sized b (own hits bound x)
own-sized b hits bound h x = kept-sized b b (own hits bound x) (omega arith) (own-kept (λ z. nat_abs z ≤ b) hits bound h x)

-- over at most six links more: what the search carries over the next
pub search-small : (caps : Bool) (power : ℕ → ℕ → ℕ) (hits : List Bool) (bound : ℤ) (R : ℕ) → ((x y : ℕ) → x < R → y < R → Linked (power x y)) → nat_abs bound ≤ 100000000000
    → (left : ℕ) (seen : List Bool) (x : ℕ) → left ≤ 6 → x < R → Sized 6400000000000 (limit_from caps power (own hits bound) R left seen x)
search-small caps power hits bound R k h left seen x l i =
    sized-more (limit_from caps power (own hits bound) R left seen x) (omega (arith, mul-le-mul_left 100000000000 (pow-le-pow_right {n = 2} (omega arith) {i = left} {j = 6} l)))
    (search-sized caps power (own hits bound) R k 100000000000 (λ y j. own-sized 100000000000 hits bound h y) left seen x i)

-- ---- the limits over every route that bind prices
module _ (power : ℕ → ℕ → ℕ) (R : ℕ) (few : R ≤ 8) (linked : (x y : ℕ) → x < R → y < R → Linked (power x y)) (x : ℕ) (here : x < R) where
  -- seven links at most: 2^7 times as much as the own limits
  pub limit-small : (caps : Bool) (b : ℕ) (own : ℕ → Option ℤ) → ((y : ℕ) → y < R → Sized b (own y)) → {z : ℤ} → limit_of caps power own R x ≡ Some z → nat_abs z ≤ b * 128
  limit-small caps b own h e =
      sized-at e (sized-more (limit_of caps power own R x) (omega (arith, mul-le-mul_left b (pow-le-pow_right {n = 2} (omega arith) {i = R - 1} {j = 7} (omega arith))))
      (limit-sized caps power own R linked b h x here))

  -- a cap limit stays above 0, in the unit of the own limits
  pub cap-above : (own : ℕ → Option ℤ) → ((y : ℕ) → y < R → Kept (λ z. pos 1 ≤ℤ z) (own y)) → {z : ℤ} → limit_of true power own R x ≡ Some z → pos 1 ≤ℤ z
  cap-above own h e = kept_at (λ z. pos 1 ≤ℤ z) e (limit-kept true power own R linked (λ n z. pos 1 ≤ℤ z) (λ n. cap-least) (λ n. h) x here)

  -- a floor limit stays as far below 0 as the own limits are
  pub floor-below : (n : ℕ) (own : ℕ → Option ℤ) → ((y : ℕ) → y < R → Kept (λ z. z ≤ℤ negsuc n) (own y)) → {z : ℤ} → limit_of false power own R x ≡ Some z → z ≤ℤ negsuc n
  floor-below n own h e =
      kept_at (λ z. z ≤ℤ negsuc n) e
      (limit-kept false power own R linked (λ k z. z ≤ℤ negsuc n) (λ k f z l b. let a : z ≤ℤ negsuc 0 = le_order _ _ (omega integers) in let c = floor-most f z l a in le_order _ _ (omega integers)) (λ k. h) x here)
