-- Laws of limits and of the search for one, a law for each way through the code. Assumes nothing.
use Rattle.std.specs.Prelude.{Option, Some, None}
use mathlib.Core.Path.{◌≡◌, refl, ap, ◌∙◌}
use mathlib.Core.Bool.{Bool, true, false, beq}
use mathlib.Core.List.{List}
use Prim.Native.Nat.{ℕ, zero, suc, ◌+◌, ◌-◌, ◌<◌}
use native.Mathlib.Numerals.{add-one}
use native.Mathlib.Omega.{arith}
use borrow.Author.Tests.{eq-eqb, ne_eqb}
use lib.ListN.{get_or, set}
use lib.IntN.{ℤ}
use lib.Signed.{le_z}
use Rattle.laws.specs.Base.{pick, min_z, max_z}
use Rattle.pricing.specs.Carrying.{carried}
use Rattle.routes.specs.Limits.{tighter, over}
use Rattle.routes.specs.Links.{step}
use Rattle.routes.specs.Search.{tightest, limit_from}

-- ---- the tighter of two
module _ (caps : Bool) {a b : Option ℤ} where
  pub tight-open : a ≡ None → b ≡ tighter caps a b
  unfolding tighter
  tight-open e = rw e

  pub tight-bound : {x : ℤ} → a ≡ Some x → b ≡ None → Some x ≡ tighter caps a b
  unfolding tighter
  tight-bound e f = rw (e, f)

tight-pick : (caps t : Bool) (x y : ℤ) → le_z x y ≡ t → pick (beq t caps) x y ≡ pick caps (min_z x y) (max_z x y)
unfolding min_z max_z
tight-pick true true x y e = rw e
tight-pick true false x y e = rw e
tight-pick false true x y e = rw e
tight-pick false false x y e = rw e

pub tight-both : (caps : Bool) {a b : Option ℤ} {x y : ℤ} → a ≡ Some x → b ≡ Some y → Some (pick (beq (le_z x y) caps) x y) ≡ tighter caps a b
unfolding tighter
tight-both caps {x = x} {y = y} e f = rw (e, f) (ap Some (tight-pick caps (le_z x y) x y refl))

pub tight-none : (caps : Bool) (a : Option ℤ) → a ≡ tighter caps a None
unfolding tighter
tight-none caps None = refl
tight-none caps (Some x) = refl

-- ---- over a link
module _ (caps : Bool) (f : ℕ) {l : Option ℤ} where
  pub over_none : l ≡ None → None ≡ over caps f l
  unfolding over
  over_none e = rw e

  pub over_zero : {z : ℤ} → l ≡ Some z → f ≡ 0 → None ≡ over caps f l
  unfolding over
  over_zero e h = rw (e, eq-eqb f 0 h)

  pub over-at : {z : ℤ} → l ≡ Some z → (f ≡ 0 → ⊥) → Some (carried caps f z) ≡ over caps f l
  unfolding over
  over-at e h = rw (e, ne_eqb f 0 h)

over-0 : (caps : Bool) (l : Option ℤ) → over caps 0 l ≡ None
unfolding over
over-0 caps None = refl
over-0 caps (Some z) = refl

-- ---- the search: what region y adds to the limit of x
abbrev pub reached : Bool → (ℕ → ℕ → ℕ) → (ℕ → Option ℤ) → ℕ → ℕ → List Bool → ℕ → ℕ → Option ℤ
reached caps power own R left seen x y = pick (get_or seen y false) None (over caps (step caps power x y) (limit_from caps power own R left seen y))

pub tightest-none : (caps : Bool) (f : ℕ → Option ℤ) (l : Option ℤ) → l ≡ tightest caps f l 0
unfolding tightest
tightest-none caps f l = refl

module _ (caps : Bool) (power : ℕ → ℕ → ℕ) (own : ℕ → Option ℤ) (R : ℕ) where
  pub limit-end : (left : ℕ) (seen : List Bool) (x : ℕ) → left ≡ 0 → own x ≡ limit_from caps power own R left seen x
  unfolding limit_from
  limit-end zero seen x e = refl
  limit-end (suc k) seen x e = absurd (omega arith)

  pub limit-step : (left : ℕ) (seen : List Bool) (x : ℕ) → (left ≡ 0 → ⊥) → tightest caps (reached caps power own R (left - 1) (set seen x true) x) (own x) R ≡ limit_from caps power own R left seen x
  unfolding limit_from
  limit-step zero seen x h = absurd (h refl)
  limit-step (suc k) seen x h = let e : suc k - 1 ≡ k = omega arith in simp e

  -- one region more: it was seen, no power goes that way, or its limit comes over the link
  module _ (left : ℕ) (seen : List Bool) (x y : ℕ) (l : Option ℤ) {best : Option ℤ} (i : best ≡ tightest caps (reached caps power own R left seen x) l y) where
    pub turn-seen : get_or seen y false ≡ true → best ≡ tightest caps (reached caps power own R left seen x) l (y + 1)
    unfolding tightest
    turn-seen e = rw (add-one, e) (i ∙ tight-none caps _)

    pub turn-none : {factor : ℕ} → get_or seen y false ≡ false → factor ≡ step caps power x y → factor ≡ 0 → best ≡ tightest caps (reached caps power own R left seen x) l (y + 1)
    unfolding tightest
    turn-none e f z = let h : step caps power x y ≡ 0 = cc in rw (add-one, e, h, over-0) (i ∙ tight-none caps _)

    pub turn-over : {found other : Option ℤ} {factor : ℕ} → get_or seen y false ≡ false → factor ≡ step caps power x y → found ≡ limit_from caps power own R left seen y → other ≡ over caps factor found
        → tighter caps best other ≡ tightest caps (reached caps power own R left seen x) l (y + 1)
    unfolding tightest
    turn-over e f g o = rw (add-one, e, o, g, f, i)

-- ---- the search looks at no power but between regions, and at no own limit but theirs
tightest-same : (caps : Bool) (f g : ℕ → Option ℤ) (l : Option ℤ) (n : ℕ) → ((y : ℕ) → y < n → f y ≡ g y) → tightest caps f l n ≡ tightest caps g l n
unfolding tightest
tightest-same caps f g l zero h = refl
tightest-same caps f g l (suc n) h = rw (tightest-same caps f g l n (λ y p. h y (omega arith)), h n (omega arith))

pub search-same : (caps : Bool) (power other : ℕ → ℕ → ℕ) (own mine : ℕ → Option ℤ) (R : ℕ) → ((x y : ℕ) → x < R → y < R → power x y ≡ other x y) → ((x : ℕ) → x < R → own x ≡ mine x)
    → (left : ℕ) (seen : List Bool) (x : ℕ) → x < R → limit_from caps power own R left seen x ≡ limit_from caps other mine R left seen x
unfolding limit_from
search-same caps power other own mine R h o zero seen x i = o x i
search-same caps power other own mine R h o (suc left) seen x i =
    rw (o x i) (tightest-same caps _ _ (mine x) R (λ y j. rw (h x y i j, h y x j i, search-same caps power other own mine R h o left (set seen x true) y j)))
