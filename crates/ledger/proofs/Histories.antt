-- P's history with one item more: what stays as it was, and what is new. Assumes nothing.
use mathlib.Core.Path.{◌≡◌, refl, sym, ap, ap₂, ◌∙◌}
use mathlib.Core.Bool.{Bool, true, false, not, ◌&&◌}
use mathlib.Core.List.{List, [], ◌∷◌, ◌++◌, append-nil}
use Prim.Native.Nat.{ℕ, zero, suc, ◌+◌, ◌-◌, ◌/◌, ◌%◌, ◌≤◌, ◌<◌}
use native.Mathlib.Nat.{mod-add-mod, mod_self, mod-lt, mod-eq_of_lt, le_refl, not-suc-le-zero, le_of_suc-le-suc}
use native.Mathlib.Omega.{arith}
use native.Mathlib.Numerals.{add-one}
use lib.Dec.{leb, eqb, ltb}
use lib.IntN.{ℤ}
use lib.Signed.{lt_z}
use lib.ListN.{length, take, drop, length-append, length-drop}
use lib.Seq.{take-append-le, take_all}
use borrow.Author.Tests.{ltb-true, ltb-false, eqb-true, eqb-false}
use Rattle.laws.specs.Base.{pick}
use Rattle.laws.specs.Lists.{total, last_n}
use Rattle.laws.proofs.Tests.{by-test}
use Rattle.laws.proofs.Lists.{last_n-grows, last_n-slides, tabulate-same, all_same, any_same}
use Rattle.book.specs.Record.{markets_of}
use Rattle.book.specs.Validity.{used_place}
use Rattle.publishing.specs.Entry.{Entry}
use Rattle.counting.specs.Periods.{position_after}
use Rattle.ledger.specs.Ledger.{Item, interval, threshold-set, limits-set, Ledger, entries_of, taken, day, position_at, before, threshold_by, last_set, threshold_at, is_unmarked, entry_price, unmarked_prices, last_prices, triggers, releases, administered_at, Administered, marks_at, kept}
use Rattle.ledger.proofs.Pushes.{pushed}
use Rattle.ledger.proofs.Periods.{adm-next, adm-out, adm-in}

-- ---- the entries
pub entries-append : (h k : List Item) → entries_of (h ++ k) ≡ entries_of h ++ entries_of k
unfolding entries_of
entries-append [] k = refl
entries-append (interval e ∷ h) k = ap (λ (l : List Entry). e ∷ l) (entries-append h k)
entries-append (threshold-set x ∷ h) k = entries-append h k
entries-append (limits-set c f ∷ h) k = entries-append h k

-- ---- what was kept before entry t
before-stable : (t : ℕ) (h k : List Item) → t < length (entries_of h) → before t (h ++ k) ≡ before t h
unfolding before entries_of
before-stable t [] k l = absurd (not-suc-le-zero l)
before-stable zero (interval e ∷ h) k l = refl
before-stable (suc t) (interval e ∷ h) k l = ap (λ (x : List Item). interval e ∷ x) (before-stable t h k (le_of_suc-le-suc l))
before-stable t (threshold-set x ∷ h) k l = ap (λ (y : List Item). threshold-set x ∷ y) (before-stable t h k l)
before-stable t (limits-set c f ∷ h) k l = ap (λ (y : List Item). limits-set c f ∷ y) (before-stable t h k l)

pub before-all : (t : ℕ) (h : List Item) → length (entries_of h) ≤ t → before t h ≡ h
unfolding before entries_of
before-all t [] l = refl
before-all zero (interval e ∷ h) l = absurd (not-suc-le-zero l)
before-all (suc t) (interval e ∷ h) l = ap (λ (x : List Item). interval e ∷ x) (before-all t h (le_of_suc-le-suc l))
before-all t (threshold-set x ∷ h) l = ap (λ (y : List Item). threshold-set x ∷ y) (before-all t h l)
before-all t (limits-set c f ∷ h) l = ap (λ (y : List Item). limits-set c f ∷ y) (before-all t h l)

before-new : (h : List Item) (e : Entry) → before (length (entries_of h)) (h ++ interval e ∷ []) ≡ h
unfolding before entries_of
before-new [] e = refl
before-new (interval d ∷ h) e = ap (λ (x : List Item). interval d ∷ x) (before-new h e)
before-new (threshold-set x ∷ h) e = ap (λ (y : List Item). threshold-set x ∷ y) (before-new h e)
before-new (limits-set c f ∷ h) e = ap (λ (y : List Item). limits-set c f ∷ y) (before-new h e)

-- ---- the settings
last_set-append : (by : Item → ℤ → ℤ) (x : ℤ) (h k : List Item) → last_set by x (h ++ k) ≡ last_set by (last_set by x h) k
unfolding last_set
last_set-append by x [] k = refl
last_set-append by x (i ∷ h) k = last_set-append by (by i x) h k

-- one item more, at the end
last_set-kept : (by : Item → ℤ → ℤ) (x : ℤ) (h : List Item) (i : Item) → last_set by x (h ++ i ∷ []) ≡ by i (last_set by x h)
unfolding last_set
last_set-kept by x h i = last_set-append by x h (i ∷ [])

-- what holds of a setting (threshold, cap or floor) at the next entry, and what a kept item makes of it
module _ (by : Item → ℤ → ℤ) (x : ℤ) (h : List Item) where
  pub set-now : last_set by x (before (length (entries_of h)) h) ≡ last_set by x h
  set-now = ap (last_set by x) (before-all (length (entries_of h)) h (le_refl (length (entries_of h))))

  pub set_next : (i : Item) → last_set by x (before (length (entries_of (h ++ i ∷ []))) (h ++ i ∷ [])) ≡ by i (last_set by x (before (length (entries_of h)) h))
  set_next i =
      ap (last_set by x) (before-all (length (entries_of (h ++ i ∷ []))) (h ++ i ∷ []) (le_refl (length (entries_of (h ++ i ∷ [])))))
      ∙ last_set-kept by x h i
      ∙ ap (by i) (sym set-now)

-- ---- the unmarked prices
pub unmarked-append : (M r m : ℕ) (es fs : List Entry) → unmarked_prices M r m (es ++ fs) ≡ unmarked_prices M r m es ++ unmarked_prices M r m fs
unfolding unmarked_prices
unmarked-append M r m [] fs = refl
unmarked-append M r m (e ∷ es) fs =
    ap (λ (u : List ℤ). pick (is_unmarked e r) (entry_price M e r m ∷ u) u) (unmarked-append M r m es fs)
    ∙ go (is_unmarked e r) (entry_price M e r m) (unmarked_prices M r m es) (unmarked_prices M r m fs)
  where
    go : (t : Bool) (p : ℤ) (a b : List ℤ) → pick t (p ∷ (a ++ b)) (a ++ b) ≡ pick t (p ∷ a) a ++ b
    go true p a b = refl
    go false p a b = refl

unmarked-snoc : (M r m : ℕ) (es : List Entry) (e : Entry)
    → unmarked_prices M r m (es ++ e ∷ []) ≡ pick (is_unmarked e r) (unmarked_prices M r m es ++ entry_price M e r m ∷ []) (unmarked_prices M r m es)
unfolding unmarked_prices
unmarked-snoc M r m es e = unmarked-append M r m es (e ∷ []) ∙ go (is_unmarked e r) (entry_price M e r m) (unmarked_prices M r m es)
  where
    go : (t : Bool) (p : ℤ) (a : List ℤ) → a ++ pick t (p ∷ []) [] ≡ pick t (a ++ p ∷ []) a
    go true p a = refl
    go false p a = append-nil a

-- how many they are is the same for every market of a region
unmarked-many : (M r m n : ℕ) (es : List Entry) → length (unmarked_prices M r m es) ≡ length (unmarked_prices M r n es)
unfolding unmarked_prices
unmarked-many M r m n [] = refl
unmarked-many M r m n (e ∷ es) = go (is_unmarked e r) (unmarked-many M r m n es)
  where
    go : (t : Bool) → length (unmarked_prices M r m es) ≡ length (unmarked_prices M r n es)
        → length (pick t (entry_price M e r m ∷ unmarked_prices M r m es) (unmarked_prices M r m es)) ≡ length (pick t (entry_price M e r n ∷ unmarked_prices M r n es) (unmarked_prices M r n es))
    go true i = ap suc i
    go false i = i

-- the last W with one more
pub last-pushed : (W : ℕ) → 0 < W → (u : List ℤ) (x : ℤ) → last_n W (u ++ x ∷ []) ≡ pushed W (last_n W u) x
unfolding pushed
last-pushed W w u x =
    by-test (ltb (length (last_n W u)) W)
    (λ e. last_n-grows W u x (ltb-true (length (last_n W u)) W e) ∙ rw e)
    (λ e. last_n-slides W u x w (ltb-false (length (last_n W u)) W e) ∙ rw e)

-- ---- a ledger with one item more: nothing before it changes
module _ (p : Ledger) (i : Item) where
  prices-stable : (r m n : ℕ) → n ≤ taken p → last_prices (kept p i) r m n ≡ last_prices p r m n
  prices-stable r m n h =
      ap (λ (l : List Entry). last_n p.settings.window (unmarked_prices (markets_of p.settings.services) r m l))
      (ap (take n) (entries-append p.items (i ∷ [])) ∙ take-append-le n (entries_of p.items) (entries_of (i ∷ [])) h)

  triggers-stable : (r m t : ℕ) → t < taken p → triggers (kept p i) r m t ≡ triggers p r m t
  triggers-stable r m t h =
      ap₂ lt_z (ap (last_set threshold_by p.settings.threshold) (before-stable t p.items (i ∷ []) h)) (ap total (prices-stable r m (suc t) h))

  releases-stable : (r m t : ℕ) → t < taken p → releases (kept p i) r m t ≡ releases p r m t
  releases-stable r m t h = ap (λ (b : Bool). eqb (position_at p t + 1) (day p) && not b) (triggers-stable r m t h)

  pub administered-stable : (r m t : ℕ) → t ≤ taken p → administered_at (kept p i) r m t ≡ administered_at p r m t
  unfolding administered_at
  administered-stable r m t h =
      any_same t _ _
      (λ j l. ap₂ ◌&&◌ (triggers-stable r m j (omega arith))
      (all_same t _ _ (λ k n. ap (λ (b : Bool). not (leb j k && b)) (releases-stable r m k (omega arith)))))

-- ---- a setting more
module _ (p : Ledger) (i : Item) (none : entries_of (i ∷ []) ≡ []) where
  pub taken-setting : taken (kept p i) ≡ taken p
  taken-setting = ap length (entries-append p.items (i ∷ []) ∙ ap (λ (l : List Entry). entries_of p.items ++ l) none ∙ append-nil (entries_of p.items))

  pub prices-setting : (r m : ℕ) → last_prices (kept p i) r m (taken (kept p i)) ≡ last_prices p r m (taken p)
  prices-setting r m = ap (last_prices (kept p i) r m) taken-setting ∙ prices-stable p i r m (taken p) (le_refl (taken p))

  pub position-setting : position_at (kept p i) (taken (kept p i)) ≡ position_at p (taken p)
  position-setting = ap (position_at p) taken-setting

  pub administered-setting : (r m : ℕ) → administered_at (kept p i) r m (taken (kept p i)) ≡ administered_at p r m (taken p)
  administered-setting r m = ap (administered_at (kept p i) r m) taken-setting ∙ administered-stable p i r m (taken p) (le_refl (taken p))

  pub marks-setting : marks_at (kept p i) (taken (kept p i)) ≡ marks_at p (taken p)
  marks-setting =
      tabulate-same 88 _ _
      (λ k h. ap (λ (b : Bool). pick (used_place p.settings.regions p.settings.services k && b) 1 0) (administered-setting (k / 11) (k % 11)))

-- ---- an entry more
module _ (p : Ledger) (e : Entry) where
  taken-entry' : taken (kept p (interval e)) ≡ suc (taken p)
  unfolding entries_of
  taken-entry' = ap length (entries-append p.items (interval e ∷ [])) ∙ length-append (entries_of p.items) (e ∷ []) ∙ add-one (taken p)

  pub taken-entry : taken (kept p (interval e)) ≡ taken p + 1
  taken-entry = taken-entry' ∙ sym (add-one (taken p))

  entries-all : take (suc (taken p)) (entries_of (p.items ++ interval e ∷ [])) ≡ entries_of p.items ++ e ∷ []
  unfolding entries_of
  entries-all =
      take_all (suc (taken p)) (entries_of (p.items ++ interval e ∷ [])) (omega (arith, taken-entry'))
      ∙ entries-append p.items (interval e ∷ [])

  entries-now : (q : Ledger) → take (taken q) (entries_of q.items) ≡ entries_of q.items
  entries-now q = take_all (taken q) (entries_of q.items) (le_refl (taken q))

  prices-entry' : 0 < p.settings.window → (r m : ℕ) → last_prices (kept p (interval e)) r m (suc (taken p))
      ≡ pick (is_unmarked e r) (pushed p.settings.window (last_prices p r m (taken p)) (entry_price (markets_of p.settings.services) e r m)) (last_prices p r m (taken p))
  prices-entry' w r m =
      let M = markets_of p.settings.services in
      let W = p.settings.window in
      let es = entries_of p.items in
      ap (λ (l : List Entry). last_n W (unmarked_prices M r m l)) entries-all
      ∙ ap (last_n W) (unmarked-snoc M r m es e)
      ∙ go (is_unmarked e r) (unmarked_prices M r m es) (entry_price M e r m)
      ∙ ap (λ (l : List Entry). pick (is_unmarked e r) (pushed W (last_n W (unmarked_prices M r m l)) (entry_price M e r m)) (last_n W (unmarked_prices M r m l))) (sym (entries-now p))
    where
      go : (t : Bool) (u : List ℤ) (x : ℤ) → last_n p.settings.window (pick t (u ++ x ∷ []) u) ≡ pick t (pushed p.settings.window (last_n p.settings.window u) x) (last_n p.settings.window u)
      go true u x = last-pushed p.settings.window w u x
      go false u x = refl

  -- the prices counted: one joins, and the oldest leaves once W are counted
  pub prices-entry : 0 < p.settings.window → (r m : ℕ) → last_prices (kept p (interval e)) r m (taken (kept p (interval e)))
      ≡ pick (is_unmarked e r) (pushed p.settings.window (last_prices p r m (taken p)) (entry_price (markets_of p.settings.services) e r m)) (last_prices p r m (taken p))
  prices-entry w r m = ap (last_prices (kept p (interval e)) r m) taken-entry' ∙ prices-entry' w r m

  -- whether this entry triggers, by the prices counted after it
  triggers-entry : (r m : ℕ) → triggers (kept p (interval e)) r m (taken p) ≡ lt_z (threshold_at p (taken p)) (total (last_prices (kept p (interval e)) r m (taken (kept p (interval e)))))
  triggers-entry r m =
      ap₂ lt_z (ap (last_set threshold_by p.settings.threshold) (before-new p.items e ∙ sym (before-all (taken p) p.items (le_refl (taken p)))))
      (ap (λ (n : ℕ). total (last_prices (kept p (interval e)) r m n)) (sym taken-entry'))

  -- the period after an entry, by the period before it
  pub administered-entry : (r m : ℕ) → administered_at (kept p (interval e)) r m (taken (kept p (interval e)))
      ≡ pick (lt_z (threshold_at p (taken p)) (total (last_prices (kept p (interval e)) r m (taken (kept p (interval e)))))) true
      (pick (eqb (position_at p (taken p) + 1) (day p)) false (administered_at p r m (taken p)))
  unfolding administered_at
  administered-entry r m =
      let q = kept p (interval e) in
      let last = eqb (position_at p (taken p) + 1) (day p) in
      ap (administered_at q r m) taken-entry'
      ∙ adm-next (triggers q r m) (releases q r m) (taken p) last refl
      ∙ ap₂ (λ (b a : Bool). pick b true (pick last false a)) (triggers-entry r m) (administered-stable p (interval e) r m (taken p) (le_refl (taken p)))

-- how many prices a region counts is the same for all its markets
pub prices-many : (p : Ledger) (r m n k : ℕ) → length (last_prices p r m k) ≡ length (last_prices p r n k)
unfolding last_n
prices-many p r m n k =
    let M = markets_of p.settings.services in
    let es = take k (entries_of p.items) in
    go (unmarked_prices M r m es) (unmarked_prices M r n es) (unmarked-many M r m n es)
  where
    go : (u v : List ℤ) → length u ≡ length v → length (drop (length u - p.settings.window) u) ≡ length (drop (length v - p.settings.window) v)
    go u v e = simp length-drop (omega arith)

-- ---- positions: one on, and from D − 1 to 0
next-position : (x D : ℕ) → 0 < D → (x + 1) % D ≡ pick (eqb (x % D + 1) D) 0 (x % D + 1)
next-position x D d =
    sym (mod-add-mod x D 1)
    ∙ by-test (eqb (x % D + 1) D)
    (λ e. let q : x % D + 1 ≡ D = eqb-true (x % D + 1) D e in rw (e, q) (mod_self D))
    (λ e. let q : x % D + 1 < D = omega (arith, eqb-false (x % D + 1) D e, mod-lt x d) in rw e (mod-eq_of_lt q))

pub position-entry : (p : Ledger) (e : Entry) → 0 < p.settings.halves → position_at (kept p (interval e)) (taken (kept p (interval e))) ≡ position_after p.settings.halves (position_at p (taken p))
position-entry p e h =
    ap (λ (n : ℕ). (p.settings.first + n) % day p) (taken-entry p e)
    ∙ ap (λ (n : ℕ). n % day p) (omega arith)
    ∙ next-position (p.settings.first + taken p) (day p) (omega arith)

-- ---- the logical form
pub administered-is : (p : Ledger) (r m t : ℕ) → administered_at p r m t ≡ true → Administered p r m t
unfolding administered_at
administered-is p r m t a =
    let w = adm-out (triggers p r m) (releases p r m) t a in
    record { trigger = w.0; earlier = w.1; triggered = w.2; unreleased = w.3 }

pub is-administered : (p : Ledger) (r m t : ℕ) → Administered p r m t → administered_at p r m t ≡ true
unfolding administered_at
is-administered p r m t a = adm-in (triggers p r m) (releases p r m) t a.trigger a.earlier a.triggered a.unreleased
