-- What rule 10 says of a book, field by field: `Valid b` holds exactly where `valid b` is true. Assumes nothing.
use mathlib.Core.Path.{◌≡◌, refl}
use mathlib.Core.Bool.{Bool, true, false, ◌&&◌, ◌||◌}
use mathlib.Core.Logic.{◌⊎◌, inl, inr, ⊎_elim}
use Prim.Native.Nat.{ℕ, ◌+◌, ◌*◌, ◌/◌, ◌%◌, ◌≤◌, ◌<◌}
use native.Mathlib.Nat.{mul-le-mul}
use native.Mathlib.Omega.{arith}
use borrow.Author.Tests.{leb-true, ltb-true, eqb-true, leb-false, ltb-false, le-leb, lt-ltb, le-ltb, lt-leb, eq-eqb}
use lib.Dec.{leb, ltb, eqb}
use lib.IntN.{ℤ, pos, negsuc, nat_abs}
use lib.ListN.{get_or}
use lib.Signed.{le_z}
use Rattle.laws.proofs.Tests.{and_left, and_right, by-test, lt-or-ge}
use Rattle.laws.proofs.Integers.{up, dn, abs-parts, test-le, le_test, same}
use Rattle.laws.proofs.Lists.{flat-div, flat-mod}
use Rattle.pricing.specs.Holding.{limits_ok}
use Rattle.book.specs.declared.record.Book.{Book}
use Rattle.book.specs.Record.{place_of, table_size, ring_size}
use Rattle.book.specs.Validity.{parent_ok, parents_ok, ends_ok, shape_ok, threshold_ok, region_ok, place_ok, used_place, regions_ok, places_ok, valid}
use Rattle.laws.proofs.Lists.{all-at, at_all}

pub record Valid (b : Book) : Type 0 where
  pub some-regions : 1 ≤ b.regions
  pub regions : b.regions ≤ 8
  pub services : b.services ≤ 10
  pub some-window : 1 ≤ b.window
  pub window : b.window ≤ 2016
  pub some-halves : 1 ≤ b.halves
  pub halves : b.halves ≤ 48
  pub position : b.position < 6 * b.halves
  pub parent : (r : ℕ) → r < 8 → (get_or b.parents r 0 ≡ 255) ⊎ ((r < b.regions) × (get_or b.parents r 0 < r))
  pub ends : ends_ok b.regions b.parents b.from b.to ≡ true
  pub threshold : threshold_ok b.threshold ≡ true
  pub limits : limits_ok b.cap b.floor ≡ true
  pub entries : b.entries ≤ 10000000
  -- a region of the book
  pub count : (r : ℕ) → r < b.regions → get_or b.counts r 0 ≤ b.window
  pub taken : (r : ℕ) → r < b.regions → get_or b.counts r 0 ≤ b.entries
  pub next : (r : ℕ) → r < b.regions → get_or b.nexts r 0 < b.window
  pub next-is : (r : ℕ) → r < b.regions → (get_or b.counts r 0 ≡ b.window) ⊎ (get_or b.nexts r 0 ≡ get_or b.counts r 0)
  -- a region beyond the book's
  pub no-count : (r : ℕ) → b.regions ≤ r → r < 8 → get_or b.counts r 0 ≡ 0
  pub no-next : (r : ℕ) → b.regions ≤ r → r < 8 → get_or b.nexts r 0 ≡ 0
  -- the place k = 11 × region + market of a market of the book
  pub sum : (k : ℕ) → k < 88 → k / 11 < b.regions → k % 11 ≤ b.services → nat_abs (get_or b.sums k (pos 0)) ≤ 20160000000
  pub mark : (k : ℕ) → k < 88 → k / 11 < b.regions → k % 11 ≤ b.services → get_or b.marks k 0 ≤ 1
  -- an unused place
  pub no-sum : (k : ℕ) → k < 88 → (b.regions ≤ k / 11) ⊎ (b.services < k % 11) → get_or b.sums k (pos 0) ≡ pos 0
  pub no-mark : (k : ℕ) → k < 88 → (b.regions ≤ k / 11) ⊎ (b.services < k % 11) → get_or b.marks k 0 ≡ 0

-- ---- tests
both : (a b : Bool) → (a && b) ≡ true → (a ≡ true) × (b ≡ true)
both a b e = (and_left a b e, and_right a b e)

either : (a b : Bool) → (a || b) ≡ true → (a ≡ true) ⊎ (b ≡ true)
either true b e = inl e
either false b e = inr e

neither : (a b : Bool) → (a && b) ≡ false → (a ≡ false) ⊎ (b ≡ false)
neither true b e = inr e
neither false b e = inl e

no_other : (a : Bool) → (a || false) ≡ true → a ≡ true
no_other true e = refl
no_other false e = e

other : (a b : Bool) → b ≡ true → (a || b) ≡ true
other true b e = refl
other false b e = e

pub seven : (a b c d e f g : Bool) → (a && b && c && d && e && f && g) ≡ true → (a ≡ true) × (b ≡ true) × (c ≡ true) × (d ≡ true) × (e ≡ true) × (f ≡ true) × (g ≡ true)
seven a b c d e f g h =
    let p = both (a && b && c && d && e && f) g h in
    let q = both (a && b && c && d && e) f p.0 in
    let s = both (a && b && c && d) e q.0 in
    let t = both (a && b && c) d s.0 in
    let u = both (a && b) c t.0 in
    let v = both a b u.0 in
    (v.0, v.1, u.1, t.1, s.1, q.1, p.1)

eight : (a b c d e f g h : Bool) → (a && b && c && d && e && f && g && h) ≡ true → (a ≡ true) × (b ≡ true) × (c ≡ true) × (d ≡ true) × (e ≡ true) × (f ≡ true) × (g ≡ true) × (h ≡ true)
eight a b c d e f g h t =
    let p = both (a && b && c && d && e && f && g) h t in
    let q = seven a b c d e f g p.0 in
    (q.0, q.1, q.2, q.3, q.4, q.5, q.6, p.1)

-- ---- the book's numbers
module _ (R S W H P : ℕ) where
  pub shape_is : shape_ok R S W H P ≡ true → (1 ≤ R) × (R ≤ 8) × (S ≤ 10) × (1 ≤ W) × (W ≤ 2016) × (1 ≤ H) × (H ≤ 48) × (P < 6 * H)
  shape_is e =
      let p = both (leb 1 R && leb R 8 && leb S 10 && leb 1 W && leb W 2016 && leb 1 H && leb H 48) (ltb P (6 * H)) e in
      let q = seven (leb 1 R) (leb R 8) (leb S 10) (leb 1 W) (leb W 2016) (leb 1 H) (leb H 48) p.0 in (
        leb-true 1 R q.0,
        leb-true R 8 q.1,
        leb-true S 10 q.2,
        leb-true 1 W q.3,
        leb-true W 2016 q.4,
        leb-true 1 H q.5,
        leb-true H 48 q.6,
        ltb-true P (6 * H) p.1,
      )

  is-shape : 1 ≤ R → R ≤ 8 → S ≤ 10 → 1 ≤ W → W ≤ 2016 → 1 ≤ H → H ≤ 48 → P < 6 * H → shape_ok R S W H P ≡ true
  is-shape a b c d e f g h = rw (le-leb 1 R a, le-leb R 8 b, le-leb S 10 c, le-leb 1 W d, le-leb W 2016 e, le-leb 1 H f, le-leb H 48 g, lt-ltb P (6 * H) h)

-- ---- a region
pub parent_is : (R r p : ℕ) → parent_ok R r p ≡ true → (p ≡ 255) ⊎ ((r < R) × (p < r))
parent_is R r p e =
    ⊎_elim (λ l. inl (eqb-true p 255 l))
    (λ h. let q = both (ltb r R) (ltb p r) h in inr (ltb-true r R q.0, ltb-true p r q.1))
    (either (eqb p 255) (ltb r R && ltb p r) e)

is-parent : (R r p : ℕ) → (p ≡ 255) ⊎ ((r < R) × (p < r)) → parent_ok R r p ≡ true
is-parent R r p = ⊎_elim (λ e. rw (eq-eqb p 255 e)) (λ h. other (eqb p 255) (ltb r R && ltb p r) (rw (lt-ltb r R h.0, lt-ltb p r h.1)))

module _ (W E c n : ℕ) where
  region-is : region_ok true W E c n ≡ true → (c ≤ W) × (c ≤ E) × (n < W) × ((c ≡ W) ⊎ (n ≡ c))
  region-is e =
      let p = both (leb c W && leb c E && ltb n W) (eqb c W || eqb n c) (no_other (leb c W && leb c E && ltb n W && (eqb c W || eqb n c)) e) in
      let q = both (leb c W && leb c E) (ltb n W) p.0 in
      let s = both (leb c W) (leb c E) q.0 in (
        leb-true c W s.0,
        leb-true c E s.1,
        ltb-true n W q.1,
        ⊎_elim (λ h. inl (eqb-true c W h)) (λ h. inr (eqb-true n c h)) (either (eqb c W) (eqb n c) p.1),
      )

  is-region : c ≤ W → c ≤ E → n < W → (c ≡ W) ⊎ (n ≡ c) → region_ok true W E c n ≡ true
  is-region x y z t =
      let e : (eqb c W || eqb n c) ≡ true = ⊎_elim (λ h. rw (eq-eqb c W h)) (λ h. other (eqb c W) (eqb n c) (eq-eqb n c h)) t in
      rw (le-leb c W x, le-leb c E y, lt-ltb n W z, e)

  no-region-is : region_ok false W E c n ≡ true → (c ≡ 0) × (n ≡ 0)
  no-region-is e = let p = both (eqb c 0) (eqb n 0) e in (eqb-true c 0 p.0, eqb-true n 0 p.1)

  is-no-region : c ≡ 0 → n ≡ 0 → region_ok false W E c n ≡ true
  is-no-region x y = rw (x, y)

-- ---- a place
abs-within : (s : ℤ) (n : ℕ) → dn s ≤ up s + n → up s ≤ n + dn s → nat_abs s ≤ n
abs-within (pos k) n h l = omega arith
abs-within (negsuc k) n h l = omega arith

module _ (s : ℤ) (m : ℕ) where
  place_is : place_ok true s m ≡ true → (nat_abs s ≤ 20160000000) × (m ≤ 1)
  place_is e =
      let p = both (le_z (negsuc 20159999999) s && le_z s (pos 20160000000)) (leb m 1) (no_other (le_z (negsuc 20159999999) s && le_z s (pos 20160000000) && leb m 1) e) in
      let q = both (le_z (negsuc 20159999999) s) (le_z s (pos 20160000000)) p.0 in
      (abs-within s 20160000000 (omega (arith, test-le (negsuc 20159999999) s q.0)) (omega (arith, test-le s (pos 20160000000) q.1)), leb-true m 1 p.1)

  is-place : nat_abs s ≤ 20160000000 → m ≤ 1 → place_ok true s m ≡ true
  is-place x y =
      rw (le_test (negsuc 20159999999) s (omega (arith, abs-parts s)), le_test s (pos 20160000000) (omega (arith, abs-parts s)), le-leb m 1 y)

  no-place-is : place_ok false s m ≡ true → (s ≡ pos 0) × (m ≡ 0)
  no-place-is e =
      let p = both (le_z (pos 0) s && le_z s (pos 0)) (eqb m 0) e in
      let q = both (le_z (pos 0) s) (le_z s (pos 0)) p.0 in
      (same s (pos 0) (omega (arith, test-le (pos 0) s q.0, test-le s (pos 0) q.1)), eqb-true m 0 p.1)

  is-no-place : s ≡ pos 0 → m ≡ 0 → place_ok false s m ≡ true
  is-no-place x y = rw (x, y)

module _ (R S k : ℕ) where
  pub used : k / 11 < R → k % 11 ≤ S → used_place R S k ≡ true
  used x y = rw (lt-ltb (k / 11) R x, le-leb (k % 11) S y)

  pub unused : (R ≤ k / 11) ⊎ (S < k % 11) → used_place R S k ≡ false
  unused = ⊎_elim (λ x. rw (le-ltb (k / 11) R x)) (λ y. by-test (ltb (k / 11) R) (λ e. rw (e, lt-leb (k % 11) S y)) (λ e. rw e))

  pub used-or : ((k / 11 < R) × (k % 11 ≤ S)) ⊎ ((R ≤ k / 11) ⊎ (S < k % 11))
  used-or =
      by-test (used_place R S k)
      (λ e. let p = both (ltb (k / 11) R) (leb (k % 11) S) e in inl (ltb-true (k / 11) R p.0, leb-true (k % 11) S p.1))
      (λ e. inr (⊎_elim (λ p. inl (ltb-false (k / 11) R p)) (λ p. inr (leb-false (k % 11) S p)) (neither (ltb (k / 11) R) (leb (k % 11) S) e)))

-- ---- the whole book
module _ (b : Book) where
  pub parts : valid b ≡ true → (shape_ok b.regions b.services b.window b.halves b.position ≡ true) × (parents_ok b.regions b.parents ≡ true)
      × (ends_ok b.regions b.parents b.from b.to ≡ true) × (threshold_ok b.threshold ≡ true) × (limits_ok b.cap b.floor ≡ true) × (leb b.entries 10000000 ≡ true)
      × (regions_ok b.regions b.window b.entries b.counts b.nexts ≡ true) × (places_ok b.regions b.services b.sums b.marks ≡ true)
  unfolding valid
  parts e = eight _ _ _ _ _ _ _ _ e

  region-at : (e : valid b ≡ true) (r : ℕ) → r < 8 → region_ok (ltb r b.regions) b.window b.entries (get_or b.counts r 0) (get_or b.nexts r 0) ≡ true
  region-at e = all-at 8 (λ r. region_ok (ltb r b.regions) b.window b.entries (get_or b.counts r 0) (get_or b.nexts r 0)) (parts e).6

  used-region : valid b ≡ true → (r : ℕ) → r < b.regions → let c = get_or b.counts r 0 in let n = get_or b.nexts r 0 in (c ≤ b.window) × (c ≤ b.entries) × (n < b.window) × ((c ≡ b.window) ⊎ (n ≡ c))
  used-region e r h =
      let l : r < 8 = omega (arith, (shape_is b.regions b.services b.window b.halves b.position (parts e).0).1) in
      region-is b.window b.entries (get_or b.counts r 0) (get_or b.nexts r 0) (rw (lt-ltb r b.regions h) at (region-at e r l))

  free-region : valid b ≡ true → (r : ℕ) → b.regions ≤ r → r < 8 → (get_or b.counts r 0 ≡ 0) × (get_or b.nexts r 0 ≡ 0)
  free-region e r h l = no-region-is b.window b.entries (get_or b.counts r 0) (get_or b.nexts r 0) (rw (le-ltb r b.regions h) at (region-at e r l))

  place_at : (e : valid b ≡ true) (k : ℕ) → k < 88 → place_ok (used_place b.regions b.services k) (get_or b.sums k (pos 0)) (get_or b.marks k 0) ≡ true
  place_at e = all-at 88 (λ k. place_ok (used_place b.regions b.services k) (get_or b.sums k (pos 0)) (get_or b.marks k 0)) (parts e).7

  used-place : valid b ≡ true → (k : ℕ) → k < 88 → k / 11 < b.regions → k % 11 ≤ b.services → (nat_abs (get_or b.sums k (pos 0)) ≤ 20160000000) × (get_or b.marks k 0 ≤ 1)
  used-place e k h x y = place_is (get_or b.sums k (pos 0)) (get_or b.marks k 0) (rw (used b.regions b.services k x y) at (place_at e k h))

  free-place : valid b ≡ true → (k : ℕ) → k < 88 → (b.regions ≤ k / 11) ⊎ (b.services < k % 11) → (get_or b.sums k (pos 0) ≡ pos 0) × (get_or b.marks k 0 ≡ 0)
  free-place e k h x = no-place-is (get_or b.sums k (pos 0)) (get_or b.marks k 0) (rw (unused b.regions b.services k x) at (place_at e k h))

pub valid-is : (b : Book) → valid b ≡ true → Valid b
valid-is b e =
    let p = parts b e in
    let s = shape_is b.regions b.services b.window b.halves b.position p.0 in
    record {
      some-regions = s.0;
      regions = s.1;
      services = s.2;
      some-window = s.3;
      window = s.4;
      some-halves = s.5;
      halves = s.6;
      position = s.7;
      parent = λ r h. parent_is b.regions r (get_or b.parents r 0) (all-at 8 (λ q. parent_ok b.regions q (get_or b.parents q 0)) p.1 r h);
      ends = p.2;
      threshold = p.3;
      limits = p.4;
      entries = leb-true b.entries 10000000 p.5;
      count = λ r h. (used-region b e r h).0;
      taken = λ r h. (used-region b e r h).1;
      next = λ r h. (used-region b e r h).2;
      next-is = λ r h. (used-region b e r h).3;
      no-count = λ r h l. (free-region b e r h l).0;
      no-next = λ r h l. (free-region b e r h l).1;
      sum = λ k h x y. (used-place b e k h x y).0;
      mark = λ k h x y. (used-place b e k h x y).1;
      no-sum = λ k h x. (free-place b e k h x).0;
      no-mark = λ k h x. (free-place b e k h x).1;
    }

module _ (b : Book) (v : Valid b) where
  is-regions : regions_ok b.regions b.window b.entries b.counts b.nexts ≡ true
  is-regions =
      at_all 8 (λ r. region_ok (ltb r b.regions) b.window b.entries (get_or b.counts r 0) (get_or b.nexts r 0))
      (λ r h. ⊎_elim
      (λ l. rw (lt-ltb r b.regions l) (is-region b.window b.entries (get_or b.counts r 0) (get_or b.nexts r 0) (v.count r l) (v.taken r l) (v.next r l) (v.next-is r l)))
      (λ l. rw (le-ltb r b.regions l) (is-no-region b.window b.entries (get_or b.counts r 0) (get_or b.nexts r 0) (v.no-count r l h) (v.no-next r l h)))
      (lt-or-ge r b.regions))

  is-places : places_ok b.regions b.services b.sums b.marks ≡ true
  is-places =
      at_all 88 (λ k. place_ok (used_place b.regions b.services k) (get_or b.sums k (pos 0)) (get_or b.marks k 0))
      (λ k h. ⊎_elim
      (λ l. rw (used b.regions b.services k l.0 l.1) (is-place (get_or b.sums k (pos 0)) (get_or b.marks k 0) (v.sum k h l.0 l.1) (v.mark k h l.0 l.1)))
      (λ l. rw (unused b.regions b.services k l) (is-no-place (get_or b.sums k (pos 0)) (get_or b.marks k 0) (v.no-sum k h l) (v.no-mark k h l)))
      (used-or b.regions b.services k))

  pub is-valid : valid b ≡ true
  unfolding valid
  is-valid =
      rw (
        is-shape b.regions b.services b.window b.halves b.position v.some-regions v.regions v.services v.some-window v.window v.some-halves v.halves v.position,
        at_all 8 (λ r. parent_ok b.regions r (get_or b.parents r 0)) (λ r h. is-parent b.regions r (get_or b.parents r 0) (v.parent r h)),
        v.ends,
        v.threshold,
        v.limits,
        le-leb b.entries 10000000 v.entries,
        is-regions,
        is-places,
      )

-- the same at region r and market m
module _ (b : Book) (v : Valid b) (r m : ℕ) (h : r < b.regions) (l : m ≤ b.services) where
  here : (place_of r m / 11 ≡ r) × (place_of r m % 11 ≡ m) × (place_of r m < 88)
  here =
      let n : m < 11 = omega (arith, v.services) in
      let e : place_of r m ≡ r * 11 + m = omega arith in
      (rw e (flat-div r m 11 n), rw e (flat-mod r m 11 n), omega (arith, v.regions))

  pub place-below : place_of r m < 88
  place-below = here.2

  pub sum-at : nat_abs (get_or b.sums (place_of r m) (pos 0)) ≤ 20160000000
  sum-at = v.sum (place_of r m) place-below (omega (arith, here.0)) (omega (arith, here.1))

  pub mark-at : get_or b.marks (place_of r m) 0 ≤ 1
  mark-at = v.mark (place_of r m) place-below (omega (arith, here.0)) (omega (arith, here.1))

-- the lent slices are small
pub sizes-small : (b : Book) → Valid b → (table_size b.regions b.services ≤ 88) × (ring_size b.regions b.services b.window ≤ 177408)
sizes-small b v =
    let m : b.services + 1 ≤ 11 = omega (arith, v.services) in
    let t : table_size b.regions b.services ≤ 88 = mul-le-mul v.regions m in
    (t, mul-le-mul t v.window)
