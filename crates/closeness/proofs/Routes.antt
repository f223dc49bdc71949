-- A limit over every route is what one route brings, no looser than what any brings. Assumes nothing.
use Rattle.std.specs.Prelude.{Option, Some, None}
use mathlib.Core.Path.{◌≡◌, refl, sym, ap, ◌∙◌, subst}
use mathlib.Core.Bool.{Bool, true, false}
use mathlib.Core.Logic.{◌⊎◌, inl, inr, ⊎_elim}
use mathlib.Core.List.Memᴰ
use mathlib.Core.List.{List, [], ◌∷◌, ◌++◌, Memᴰ}
use Prim.Native.Nat.{ℕ, ◌-◌, ◌≤◌, ◌<◌}
use native.Mathlib.Omega.{arith}
use borrow.Author.Tests.{eqb-false, ne_eqb}
use lib.Dec.{eqb}
use lib.IntN.{ℤ}
use lib.ListN.{length, set, length-append}
use lib.Signed.{le_z}
use Rattle.laws.specs.Base.{pick, min_z, max_z}
use Rattle.laws.proofs.Integers.{integers, le_test}
use Rattle.pricing.specs.Carrying.{carried, Factor, Factors}
use Rattle.pricing.specs.Carrying as Carrying
use Rattle.routes.specs.Limits.{tighter, over}
use Rattle.routes.specs.Links.{step}
use Rattle.routes.specs.Routes.{along, routes_from, over_all, unseen, limit_of, Simple}
use Rattle.routes.specs.Search.{Linked}
use Rattle.std.proofs.lemmas.Option.{none-some, same_Some}
use Rattle.routes.proofs.Simples.{simple, simple-routes}
use Rattle.routes.proofs.Sizes.{step-linked}
use Rattle.closeness.specs.Coming.{source_of, factors_on, Powered, no_looser}

-- ---- one link more, at the end
along-last : (caps : Bool) (l : List ℕ) (f : ℕ) (x : ℤ) → Carrying.along caps (l ++ f ∷ []) x ≡ carried caps f (Carrying.along caps l x)
unfolding Carrying.along
along-last caps [] f x = refl
along-last caps (g ∷ l) f x = along-last caps l f (carried caps g x)

factors-last : (l : List ℕ) (f : ℕ) → Factors l → Factor f → Factors (l ++ f ∷ [])
factors-last [] f ok h = (h, tt)
factors-last (g ∷ l) f ok h = (ok.0, factors-last l f ok.1 h)

powered-last : (l : List ℕ) (f : ℕ) → Powered (l ++ f ∷ []) → Powered l × (0 < f)
powered-last [] f h = (tt, h.0)
powered-last (g ∷ l) f h = let r = powered-last l f h.1 in ((h.0, r.0), r.1)

pub factors-powered : (l : List ℕ) → Factors l → Powered l
factors-powered [] ok = tt
factors-powered (f ∷ l) ok = (omega (arith, ok.0.least), factors-powered l ok.1)

pub factors-many : (caps : Bool) (power : ℕ → ℕ → ℕ) (x : ℕ) (r : List ℕ) → length (factors_on caps power x r) ≡ length r
unfolding factors_on
factors-many caps power x [] = refl
factors-many caps power x (y ∷ r) =
    length-append (factors_on caps power y r) (step caps power x y ∷ []) ∙ omega (arith, factors-many caps power y r)

-- ---- along one route
over-bound : (caps : Bool) (f : ℕ) (l : Option ℤ) {z : ℤ} → over caps f l ≡ Some z
    → (y : ℤ) × (l ≡ Some y) × (z ≡ carried caps f y) × (f ≡ 0 → ⊥)
unfolding over
over-bound caps f None e = absurd (none-some _ e)
over-bound caps f (Some y) {z} e = go (eqb f 0) refl e
  where
    go : (t : Bool) → eqb f 0 ≡ t → pick t None (Some (carried caps f y)) ≡ Some z
        → (w : ℤ) × (Some y ≡ Some w) × (z ≡ carried caps f w) × (f ≡ 0 → ⊥)
    go true q h = absurd (none-some _ h)
    go false q h = (y, refl, sym (same_Some _ _ h), eqb-false f 0 q)

-- what a limit has gone through
pub record Came (caps : Bool) (power : ℕ → ℕ → ℕ) (own : ℕ → Option ℤ) (x : ℕ) (r : List ℕ) (z : ℤ) : Type 0 where
  pub limit : ℤ
  pub from : own (source_of x r) ≡ Some limit
  pub is : z ≡ Carrying.along caps (factors_on caps power x r) limit
  pub factors : Factors (factors_on caps power x r)

module _ (caps : Bool) (power : ℕ → ℕ → ℕ) (own : ℕ → Option ℤ) where
  -- a source's limit comes along a route over which power goes
  comes : (x : ℕ) (r : List ℕ) {c : ℤ} → own (source_of x r) ≡ Some c → Powered (factors_on caps power x r)
      → along caps power own x r ≡ Some (Carrying.along caps (factors_on caps power x r) c)
  unfolding along source_of factors_on Carrying.along over
  comes x [] e p = e
  comes x (y ∷ r) {c} e p =
      let rest = factors_on caps power y r in
      let last = step caps power x y in
      let l = powered-last rest last p in
      rw (comes y r e l.0, ne_eqb last 0 (λ q. omega (arith, l.1))) (ap Some (sym (along-last caps rest last c)))

  -- ---- the tightest is one of them
  tighter-one : (a b : Option ℤ) {z : ℤ} → tighter caps a b ≡ Some z → (a ≡ Some z) ⊎ (b ≡ Some z)
  unfolding tighter min_z max_z
  tighter-one None b e = inr e
  tighter-one (Some x) None e = inl e
  tighter-one (Some x) (Some y) {z} e = go caps (le_z x y) e
    where
      go : (c t : Bool) → Some (pick c (pick t x y) (pick t y x)) ≡ Some z → (Some x ≡ Some z) ⊎ (Some y ≡ Some z)
      go true true h = inl h
      go true false h = inr h
      go false true h = inr h
      go false false h = inl h

  one_of : (x : ℕ) (rs : List (List ℕ)) {z : ℤ} → over_all caps power own x rs ≡ Some z
      → (r : List ℕ) × Memᴰ r rs × (along caps power own x r ≡ Some z)
  unfolding over_all
  one_of x [] e = absurd (none-some _ e)
  one_of x (r ∷ rs) {z} e =
      ⊎_elim (λ a. (r, Memᴰ.head refl, a)) (λ b. let w = one_of x rs b in (w.0, Memᴰ.tail w.1, w.2))
      (tighter-one (along caps power own x r) (over_all caps power own x rs) e)

  -- ---- and none is tighter
  -- a limit that is there, and no looser than y
  abbrev Within : ℤ → Option ℤ → Type 0
  Within y l = (z : ℤ) × (l ≡ Some z) × (no_looser caps z y ≡ true)

  within-left : (y : ℤ) (b : Option ℤ) → Within y (tighter caps (Some y) b)
  unfolding tighter min_z max_z
  within-left y None = (y, refl, same caps)
    where
      same : (c : Bool) → no_looser c y y ≡ true
      same true = le_test y y (omega arith)
      same false = le_test y y (omega arith)
  within-left y (Some x) = go caps (le_z y x) refl
    where
      go : (c t : Bool) → le_z y x ≡ t → (z : ℤ) × (Some (pick c (pick t y x) (pick t x y)) ≡ Some z) × (no_looser c z y ≡ true)
      go true true e = (y, refl, le_test y y (omega arith))
      go true false e = (x, refl, le_test x y (omega integers))
      go false true e = (x, refl, le_test y x (omega integers))
      go false false e = (y, refl, le_test y y (omega arith))

  within-right : (y : ℤ) (a b : Option ℤ) → Within y b → Within y (tighter caps a b)
  unfolding tighter min_z max_z
  within-right y None b w = w
  within-right y (Some x) None w = absurd (none-some _ w.1)
  within-right y (Some x) (Some v) w =
      go caps (le_z x v) refl (subst (λ (z : ℤ). no_looser caps z y ≡ true) (sym (same_Some _ _ w.1)) w.2)
    where
      go : (c t : Bool) → le_z x v ≡ t → no_looser c v y ≡ true
          → (z : ℤ) × (Some (pick c (pick t x v) (pick t v x)) ≡ Some z) × (no_looser c z y ≡ true)
      go true true e h = (x, refl, le_test x y (omega integers))
      go true false e h = (v, refl, h)
      go false true e h = (v, refl, h)
      go false false e h = (x, refl, le_test y x (omega integers))

  none-tighter : (x : ℕ) {r : List ℕ} {y : ℤ} → along caps power own x r ≡ Some y → (rs : List (List ℕ)) → Memᴰ r rs
      → Within y (over_all caps power own x rs)
  unfolding over_all
  none-tighter x e [] m = absurd (Memᴰ.not-nil m)
  none-tighter x {r} {y} e (q ∷ rs) (Memᴰ.head h) = rw (sym h, e) (within-left y (over_all caps power own x rs))
  none-tighter x {r} {y} e (q ∷ rs) (Memᴰ.tail m) =
      within-right y (along caps power own x q) (over_all caps power own x rs) (none-tighter x e rs m)

module _ (caps : Bool) (power : ℕ → ℕ → ℕ) (own : ℕ → Option ℤ) (R : ℕ) (few : R ≤ 8) (x : ℕ) (here : x < R) where
  -- no looser than what comes along any route that visits no region twice
  pub no-looser : (r : List ℕ) {c : ℤ} → Simple R unseen x r → own (source_of x r) ≡ Some c → Powered (factors_on caps power x r)
      → (z : ℤ) × (limit_of caps power own R x ≡ Some z) × (no_looser caps z (Carrying.along caps (factors_on caps power x r) c) ≡ true)
  unfolding limit_of
  no-looser r s e p =
      none-tighter caps power own x (comes caps power own x r e p) (routes_from R (R - 1) unseen x) ((simple-routes R x few here r).1 s)

  module _ (linked : (x y : ℕ) → x < R → y < R → Linked (power x y)) where
    came : (seen : List Bool) (x : ℕ) (r : List ℕ) → x < R → Simple R seen x r → {z : ℤ} → along caps power own x r ≡ Some z
        → Came caps power own x r z
    unfolding along source_of factors_on Carrying.along
    came seen x [] h s {z} e = record { limit = z; from = e; is = refl; factors = tt }
    came seen x (y ∷ r) h s {z} e =
        let rest = factors_on caps power y r in
        let last = step caps power x y in
        let o = over-bound caps last (along caps power own y r) e in
        let c = came (set seen x true) y r s.0 s.2 o.1 in
        let n = o.3 in
        record {
          limit = c.limit;
          from = c.from;
          is = o.2 ∙ ap (carried caps last) c.is ∙ sym (along-last caps rest last c.limit);
          factors = factors-last rest last c.factors (step-linked caps power R linked x y h s.0 (omega arith));
        }

    -- the limit of a region is that of a source over a route that visits no region twice
    pub came_from : {z : ℤ} → limit_of caps power own R x ≡ Some z
        → (r : List ℕ) × Simple R unseen x r × (length r ≤ R - 1) × Came caps power own x r z
    unfolding limit_of
    came_from e =
        let w = one_of caps power own x (routes_from R (R - 1) unseen x) e in
        let s = simple R (R - 1) unseen x w.0 w.1 in
        (w.0, s.0, s.1, came unseen x w.0 here s.0 w.2)
