-- The routes that `routes_from` lists are those that visit no region twice, all of them. Assumes nothing.
use mathlib.Core.Path.{◌≡◌, refl, ap, subst}
use mathlib.Core.Bool.{Bool, true, false, not}
use mathlib.Core.Logic.{◌⊎◌, inl, inr}
use mathlib.Core.List.Memᴰ
use mathlib.Core.List.{List, [], ◌∷◌, ◌++◌, Memᴰ}
use Prim.Native.Nat.{ℕ, zero, suc, ◌+◌, ◌-◌, ◌<◌, ◌≤◌}
use native.Mathlib.Omega.{arith}
use lib.Dec.{ltb}
use borrow.Author.Tests.{ltb-true, ltb-false}
use lib.ListN.{length, get_or, set, length-set, get_or-replicate}
use lib.Seq.{get_or-set_same, get_or-set_other}
use Rattle.laws.specs.Base.{pick}
use Rattle.laws.specs.Lists.{count_below}
use Rattle.laws.proofs.Lists.{count_below-most}
use Rattle.routes.specs.Routes.{joined, after, routes_from, Simple, unseen}

-- ---- a simple route is listed
mem-after : (y : ℕ) {r : List ℕ} (rs : List (List ℕ)) → Memᴰ r rs → Memᴰ (y ∷ r) (after y rs)
unfolding after
mem-after y [] m = absurd (Memᴰ.not-nil m)
mem-after y (q ∷ rs) (Memᴰ.head e) = Memᴰ.head (ap (λ (l : List ℕ). y ∷ l) e)
mem-after y (q ∷ rs) (Memᴰ.tail m) = Memᴰ.tail (mem-after y rs m)

mem-joined : (f : ℕ → List (List ℕ)) (y : ℕ) {r : List ℕ} → Memᴰ r (f y) → (n : ℕ) → y < n → Memᴰ r (joined f n)
unfolding joined
mem-joined f y m zero h = absurd (omega arith)
mem-joined f y {r} m (suc n) h = go (ltb y n) refl (mem-joined f y m n)
  where
    go : (t : Bool) → ltb y n ≡ t → (y < n → Memᴰ r (joined f n)) → Memᴰ r (joined f n ++ f n)
    go true e i = Memᴰ.append_left (f n) (i (ltb-true y n e))
    go false e i =
        let q : y ≡ n = omega (arith, ltb-false y n e) in
        Memᴰ.append_right (joined f n) (subst (λ (k : ℕ). Memᴰ r (f k)) q m)

pub listed : (R left : ℕ) (seen : List Bool) (x : ℕ) (r : List ℕ) → Simple R seen x r → length r ≤ left → Memᴰ r (routes_from R left seen x)
unfolding routes_from
listed R zero seen x [] s h = Memᴰ.head refl
listed R (suc left) seen x [] s h = Memᴰ.head refl
listed R zero seen x (y ∷ r) s h = absurd (omega arith)
listed R (suc left) seen x (y ∷ r) s h =
    Memᴰ.tail (mem-joined (λ z. pick (get_or (set seen x true) z false) [] (after z (routes_from R left (set seen x true) z))) y
    (rw s.1 (mem-after y (routes_from R left (set seen x true) y) (listed R left (set seen x true) y r s.2 (omega arith)))) R s.0)

-- ---- a listed route is simple
of-after : (y : ℕ) {q : List ℕ} (rs : List (List ℕ)) → Memᴰ q (after y rs) → (r : List ℕ) × (q ≡ y ∷ r) × Memᴰ r rs
unfolding after
of-after y [] m = absurd (Memᴰ.not-nil m)
of-after y (p ∷ rs) (Memᴰ.head e) = (p, e, Memᴰ.head refl)
of-after y (p ∷ rs) (Memᴰ.tail m) = let w = of-after y rs m in (w.0, w.1, Memᴰ.tail w.2)

of-joined : (f : ℕ → List (List ℕ)) {q : List ℕ} (n : ℕ) → Memᴰ q (joined f n) → (y : ℕ) × (y < n) × Memᴰ q (f y)
unfolding joined
of-joined f zero m = absurd (Memᴰ.not-nil m)
of-joined f {q} (suc n) m = go (of-joined f n) (Memᴰ.append_cases (joined f n) m)
  where
    go : (Memᴰ q (joined f n) → (y : ℕ) × (y < n) × Memᴰ q (f y)) → Memᴰ q (joined f n) ⊎ Memᴰ q (f n) → (y : ℕ) × (y < suc n) × Memᴰ q (f y)
    go i (inl a) = let w = i a in (w.0, omega (arith, w.1), w.2)
    go i (inr b) = (n, omega arith, b)

pub simple : (R left : ℕ) (seen : List Bool) (x : ℕ) (q : List ℕ) → Memᴰ q (routes_from R left seen x) → Simple R seen x q × (length q ≤ left)
unfolding routes_from
simple R zero seen x q (Memᴰ.head e) = rw e (tt, omega arith)
simple R zero seen x q (Memᴰ.tail m) = absurd (Memᴰ.not-nil m)
simple R (suc left) seen x q (Memᴰ.head e) = rw e (tt, omega arith)
simple R (suc left) seen x q (Memᴰ.tail m) =
    let w = of-joined (λ z. pick (get_or (set seen x true) z false) [] (after z (routes_from R left (set seen x true) z))) R m in
    go w.0 w.1 (get_or (set seen x true) w.0 false) refl w.2 (simple R left (set seen x true) w.0)
  where
    go : (y : ℕ) → y < R → (t : Bool) → get_or (set seen x true) y false ≡ t → Memᴰ q (pick t [] (after y (routes_from R left (set seen x true) y)))
        → ((r : List ℕ) → Memᴰ r (routes_from R left (set seen x true) y) → Simple R (set seen x true) y r × (length r ≤ left)) → Simple R seen x q × (length q ≤ suc left)
    go y h true e m i = absurd (Memᴰ.not-nil m)
    go y h false e m i =
        let v = of-after y (routes_from R left (set seen x true) y) m in
        let k = i v.0 v.2 in
        rw v.1 ((h, e, k.0), omega (arith, k.1))

-- ---- a simple route has no more links than there are regions left
abbrev fresh : ℕ → List Bool → ℕ
fresh n seen = count_below n (λ k. not (get_or seen k false))

fresh-past : (n : ℕ) (s : List Bool) (y : ℕ) → n ≤ y → fresh n (set s y true) ≡ fresh n s
unfolding count_below
fresh-past zero s y h = refl
fresh-past (suc n) s y h = rw (fresh-past n s y (omega arith), get_or-set_other s y n true false (λ e. omega arith))

fresh_set : (n : ℕ) (s : List Bool) (y : ℕ) → y < n → y < length s → get_or s y false ≡ false → fresh n (set s y true) + 1 ≡ fresh n s
unfolding count_below
fresh_set zero s y h l e = absurd (omega arith)
fresh_set (suc n) s y h l e = go (ltb y n) refl (fresh_set n s y)
  where
    go : (t : Bool) → ltb y n ≡ t → (y < n → y < length s → get_or s y false ≡ false → fresh n (set s y true) + 1 ≡ fresh n s)
        → fresh n (set s y true) + pick (not (get_or (set s y true) n false)) 1 0 + 1 ≡ fresh n s + pick (not (get_or s n false)) 1 0
    go true q i =
        let b : y < n = ltb-true y n q in
        rw (get_or-set_other s y n true false (λ o. omega arith)) (omega (arith, i b l e))
    go false q i =
        let k : n ≡ y = omega (arith, ltb-false y n q) in
        rw (k, get_or-set_same s y true false l, e) (omega (arith, fresh-past y s y (omega arith)))

short : (R : ℕ) (r : List ℕ) (seen : List Bool) (x : ℕ) → R ≤ length seen → Simple R seen x r → length r ≤ fresh R (set seen x true)
short R [] seen x l s = omega arith
short R (y ∷ r) seen x l s =
    let m : length (set seen x true) ≡ length seen = simp length-set in
    omega (arith, short R r (set seen x true) y (omega arith) s.2, fresh_set R (set seen x true) y s.0 (omega (arith, s.0)) s.1)

-- with nothing seen R - 1 links are enough
pub all_listed : (R : ℕ) (seen : List Bool) (x : ℕ) (r : List ℕ) → R ≤ length seen → x < R → get_or seen x false ≡ false → Simple R seen x r → Memᴰ r (routes_from R (R - 1) seen x)
all_listed R seen x r l h e s =
    listed R (R - 1) seen x r s (omega (arith, short R r seen x l s, fresh_set R seen x h (omega arith) e, count_below-most R (λ k. not (get_or seen k false))))

-- ---- the routes of `limit_of`: a route is listed if and only if it is simple
pub simple-routes : (R x : ℕ) → R ≤ 8 → x < R → (r : List ℕ)
    → (Memᴰ r (routes_from R (R - 1) unseen x) → Simple R unseen x r) × (Simple R unseen x r → Memᴰ r (routes_from R (R - 1) unseen x))
simple-routes R x b h r = (
  λ m. (simple R (R - 1) unseen x r m).0,
  all_listed R unseen x r (omega arith) h (get_or-replicate 8 x false false (omega arith)),
)
