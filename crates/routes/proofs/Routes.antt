-- The search finds the limit over every route, and that limit looks at nothing but the regions and the powers between them. Assumes nothing.
use Rattle.std.specs.Prelude.{ℤ, Option, None}
use mathlib.Core.Path.{◌≡◌, refl, sym, ap, ◌∙◌}
use mathlib.Core.Bool.{Bool, true, false}
use mathlib.Core.List.{List, [], ◌∷◌, ◌++◌}
use Prim.Native.Nat.{ℕ, zero, suc, ◌-◌, ◌<◌}
use lib.ListN.{get_or, set}
use Rattle.laws.specs.Base.{pick}
use Rattle.routes.specs.Limits.{tighter, over}
use Rattle.routes.specs.Links.{step}
use Rattle.routes.specs.Routes.{along, joined, after, routes_from, over_all, unseen, limit_of}
use Rattle.routes.specs.Search.{tightest, limit_from}
use Rattle.routes.proofs.Limits.{tight-none, search-same}
use Rattle.routes.proofs.Carries.{over-tighter, tighter-assoc}

module _ (caps : Bool) (power : ℕ → ℕ → ℕ) (own : ℕ → Option ℤ) where
  over-append : (x : ℕ) (a b : List (List ℕ)) → over_all caps power own x (a ++ b) ≡ tighter caps (over_all caps power own x a) (over_all caps power own x b)
  unfolding over_all tighter
  over-append x [] b = refl
  over-append x (r ∷ a) b = rw (over-append x a b) (sym (tighter-assoc caps (along caps power own x r) (over_all caps power own x a) (over_all caps power own x b)))

  over-after : (x y : ℕ) (rs : List (List ℕ)) → over_all caps power own x (after y rs) ≡ over caps (step caps power x y) (over_all caps power own y rs)
  unfolding over_all after along over
  over-after x y [] = refl
  over-after x y (r ∷ rs) = rw (over-after x y rs) (sym (over-tighter caps (step caps power x y) (along caps power own y r) (over_all caps power own y rs)))

  over-joined : (x : ℕ) (f : ℕ → List (List ℕ)) (h : ℕ → Option ℤ) (l : Option ℤ) → ((y : ℕ) → h y ≡ over_all caps power own x (f y)) → (n : ℕ) → tightest caps h l n ≡ tighter caps l (over_all caps power own x (joined f n))
  unfolding tightest joined over_all
  over-joined x f h l e zero = tight-none caps l
  over-joined x f h l e (suc n) =
      rw (over-append, over-joined x f h l e n, e n) (tighter-assoc caps l (over_all caps power own x (joined f n)) (over_all caps power own x (f n)))

  search-routes : (R left : ℕ) (seen : List Bool) (x : ℕ) → limit_from caps power own R left seen x ≡ over_all caps power own x (routes_from R left seen x)
  unfolding limit_from routes_from over_all along
  search-routes R zero seen x = tight-none caps (own x)
  search-routes R (suc left) seen x = over-joined x _ _ (own x) (λ y. go y (get_or (set seen x true) y false) (search-routes R left (set seen x true) y)) R
    where
      go : (y : ℕ) (t : Bool) → limit_from caps power own R left (set seen x true) y ≡ over_all caps power own y (routes_from R left (set seen x true) y)
          → pick t None (over caps (step caps power x y) (limit_from caps power own R left (set seen x true) y)) ≡ over_all caps power own x (pick t [] (after y (routes_from R left (set seen x true) y)))
      go y true i = refl
      go y false i = ap (over caps (step caps power x y)) i ∙ sym (over-after x y (routes_from R left (set seen x true) y))

  -- the search with all regions left to visit
  pub limit-routes : (R x : ℕ) → limit_from caps power own R (R - 1) unseen x ≡ limit_of caps power own R x
  unfolding limit_of
  limit-routes R x = search-routes R (R - 1) unseen x

-- nothing else is looked at
pub limit-same : (caps : Bool) (power other : ℕ → ℕ → ℕ) (own mine : ℕ → Option ℤ) (R : ℕ) → ((x y : ℕ) → x < R → y < R → power x y ≡ other x y) → ((x : ℕ) → x < R → own x ≡ mine x)
    → (x : ℕ) → x < R → limit_of caps power own R x ≡ limit_of caps other mine R x
limit-same caps power other own mine R h o x i =
    sym (limit-routes caps power own R x) ∙ search-same caps power other own mine R h o (R - 1) unseen x i ∙ limit-routes caps other mine R x
