-- Steps 5 and 6 market by market: what an entry makes of a market's counted prices, count, sum and mark. Assumes nothing.
use mathlib.Core.Path.{◌≡◌, refl, sym, ap, ap₂, ◌∙◌}
use mathlib.Core.Bool.{Bool, true, false, ◌&&◌}
use mathlib.Core.List.{List}
use Prim.Native.Nat.{ℕ, ◌+◌, ◌*◌, ◌/◌, ◌%◌, suc, ◌≤◌, ◌<◌}
use native.Mathlib.Nat.{div-add-mod', mod-lt, suc-mul}
use native.Mathlib.Omega.{arith}
use borrow.Author.Tests.{lt-ltb, le-ltb, eq-eqb, ne_eqb, le-leb, ltb-false, eqb-true, eqb-false}
use lib.Dec.{ltb, eqb}
use lib.IntN.{ℤ, pos, ◌+ℤ◌, ◌-ℤ◌}
use lib.ListN.{length, get_or}
use Rattle.laws.specs.Base.{pick}
use Rattle.laws.specs.Lists.{tabulate, total}
use Rattle.laws.proofs.Lists.{get_or-tabulate, length_run, flat-div, flat-mod, flat-lt}
use Rattle.laws.proofs.Tests.{by-test}
use Rattle.book.specs.declared.record.Book.{Book}
use Rattle.book.specs.Record.{markets_of, place_of}
use Rattle.book.specs.Validity.{used_place}
use Rattle.head.specs.Counted.{in_order}
use Rattle.publishing.specs.Entry.{Offer, Entry}
use Rattle.counting.specs.Windows.{unmarked, joins, joining, leaving, sum_after, sums_after, grown, counts_after, following, nexts_after, written, ring_after}
use Rattle.counting.specs.Periods.{mark_after, last_of_day, position_after}
use Rattle.entries.specs.Entering.{book_after}
use Rattle.ledger.proofs.Pushes.{pushed}
use Rattle.ledger.proofs.Joining.{pushed-total}
use Rattle.ledger.proofs.Turning.{around, around-length, around-pushed, around-same, around-first, Placed, placed_on}
use Rattle.ledger.proofs.Sounds.{Sound, Sized, market_at, placed_at}

module _ (b : Book) (ring : List ℤ) (r m : ℕ) (l : m < markets_of b.services) where
  -- the window of market m of region r in the ring
  abbrev pub window_at : ℕ → ℤ
  window_at j = get_or ring (market_at b r m * b.window + j) (pos 0)

  pub order_is : in_order b ring (market_at b r m) ≡ around b.window window_at (get_or b.counts r 0) (get_or b.nexts r 0)
  order_is =
      ap (λ (k : ℕ). around b.window window_at (get_or b.counts k 0) (get_or b.nexts k 0)) (flat-div r m (markets_of b.services) l)

  pub order-length : length (in_order b ring (market_at b r m)) ≡ get_or b.counts r 0
  order-length = ap length order_is ∙ around-length b.window window_at (get_or b.counts r 0) (get_or b.nexts r 0)

-- by the two sides of a choice
pub picked : {A : Type 0} (t : Bool) {x y z : A} → (t ≡ true → x ≡ y) → (t ≡ false → x ≡ z) → x ≡ pick t y z
picked true f g = f refl
picked false f g = g refl

-- ---- the 88 places
module _ (R S r m : ℕ) (a : R ≤ 8) (c : S ≤ 10) (h : r < R) (l : m < markets_of S) where
  pub place-region : place_of r m / 11 ≡ r
  place-region = let e : place_of r m ≡ r * 11 + m = omega arith in rw e (flat-div r m 11 (omega arith))

  pub place-market : place_of r m % 11 ≡ m
  place-market = let e : place_of r m ≡ r * 11 + m = omega arith in rw e (flat-mod r m 11 (omega arith))

  pub place-below : place_of r m < 88
  place-below = omega arith

  pub place-used : used_place R S (place_of r m) ≡ true
  place-used = rw (place-region, place-market, lt-ltb r R h, le-leb m S (omega arith))

  at-used : {A : Type 0} (f g : ℕ → A) (d : A) → get_or (tabulate 88 (λ k. pick (used_place R S k) (f k) (g k))) (place_of r m) d ≡ f (place_of r m)
  at-used f g d = get_or-tabulate (λ k. pick (used_place R S k) (f k) (g k)) 88 (place_of r m) d place-below ∙ rw place-used

at-unused : {A : Type 0} (R S k : ℕ) (f g : ℕ → A) (d : A) → k < 88 → used_place R S k ≡ false → get_or (tabulate 88 (λ k. pick (used_place R S k) (f k) (g k))) k d ≡ g k
at-unused R S k f g d h e = get_or-tabulate (λ k. pick (used_place R S k) (f k) (g k)) 88 k d h ∙ rw e

module _ (b : Book) (o : Offer) (r : ℕ) (h : r < b.regions) where
  joins-is : joins b o r ≡ unmarked o r
  joins-is = rw (lt-ltb r b.regions h)

module _ (b : Book) (ring : List ℤ) (s : Sound b ring) (o : Offer) (r : ℕ) (h : r < b.regions) where
  pub count-after : get_or (counts_after b o) r 0 ≡ pick (unmarked o r) (grown b.window (get_or b.counts r 0)) (get_or b.counts r 0)
  count-after =
      let a : r < 8 = omega (arith, s.regions) in
      get_or-tabulate (λ k. pick (joins b o k) (grown b.window (get_or b.counts k 0)) (get_or b.counts k 0)) 8 r 0 a
      ∙ ap (λ (t : Bool). pick t (grown b.window (get_or b.counts r 0)) (get_or b.counts r 0)) (joins-is b o r h)

  pub next-after : get_or (nexts_after b o) r 0 ≡ pick (unmarked o r) (following b.window (get_or b.nexts r 0)) (get_or b.nexts r 0)
  next-after =
      let a : r < 8 = omega (arith, s.regions) in
      get_or-tabulate (λ k. pick (joins b o k) (following b.window (get_or b.nexts k 0)) (get_or b.nexts k 0)) 8 r 0 a
      ∙ ap (λ (t : Bool). pick t (following b.window (get_or b.nexts r 0)) (get_or b.nexts r 0)) (joins-is b o r h)

  module _ (m : ℕ) (l : m < markets_of b.services) where
    -- place j of the market's window after the entry
    place_after : (j : ℕ) → j < b.window → get_or (ring_after b ring o) (market_at b r m * b.window + j) (pos 0)
        ≡ pick (unmarked o r && eqb j (get_or b.nexts r 0)) (joining o (market_at b r m)) (get_or ring (market_at b r m * b.window + j) (pos 0))
    place_after j p =
        let i : ℕ = market_at b r m * b.window + j in
        let f : i < length ring = omega (arith, s.ring-size, flat-lt (market_at b r m) j (b.regions * markets_of b.services) b.window (flat-lt r m b.regions (markets_of b.services) h l) p) in
        get_or-tabulate (λ k. pick (written b o k) (joining o (k / b.window)) (get_or ring k (pos 0))) (length ring) i (pos 0) f
        ∙ rw (flat-div (market_at b r m) j b.window p, flat-mod (market_at b r m) j b.window p, flat-div r m (markets_of b.services) l, lt-ltb r b.regions h)

    place-stays : unmarked o r ≡ false → (j : ℕ) → j < b.window → window_at b (ring_after b ring o) r m l j ≡ window_at b ring r m l j
    place-stays t j p = place_after j p ∙ rw t

    place_other : (j : ℕ) → j < b.window → (j ≡ get_or b.nexts r 0 → ⊥) → window_at b (ring_after b ring o) r m l j ≡ window_at b ring r m l j
    place_other j p apart = place_after j p ∙ by-test (unmarked o r) (λ t. rw (t, ne_eqb j (get_or b.nexts r 0) apart)) (λ t. rw t)

    place-joins : unmarked o r ≡ true → window_at b (ring_after b ring o) r m l (get_or b.nexts r 0) ≡ joining o (market_at b r m)
    place-joins t = place_after (get_or b.nexts r 0) (s.next r h) ∙ rw (t, eq-eqb (get_or b.nexts r 0) (get_or b.nexts r 0) refl)

module _ (b : Book) (ring : List ℤ) (s : Sound b ring) (e : Entry) (r : ℕ) (h : r < b.regions) (m : ℕ) (l : m < markets_of b.services) where
  order-on : unmarked e.offer r ≡ true → in_order (book_after b ring e) (ring_after b ring e.offer) (market_at b r m) ≡ pushed b.window (in_order b ring (market_at b r m)) (joining e.offer (market_at b r m))
  order-on t =
      let o = e.offer in
      let g = window_at b ring r m l in
      let g' = window_at b (ring_after b ring o) r m l in
      order_is (book_after b ring e) (ring_after b ring o) r m l
      ∙ ap₂ (around b.window g') (count-after b ring s o r h ∙ rw t) (next-after b ring s o r h ∙ rw t)
      ∙ around-pushed b.window (get_or b.counts r 0) (get_or b.nexts r 0) (placed_at b ring s r h) g g' (place_other b ring s o r h m l)
      ∙ ap₂ (pushed b.window) (sym (order_is b ring r m l)) (place-joins b ring s o r h m l t)

  order-stays : unmarked e.offer r ≡ false → in_order (book_after b ring e) (ring_after b ring e.offer) (market_at b r m) ≡ in_order b ring (market_at b r m)
  order-stays t =
      let o = e.offer in
      let g = window_at b ring r m l in
      let g' = window_at b (ring_after b ring o) r m l in
      order_is (book_after b ring e) (ring_after b ring o) r m l
      ∙ ap₂ (around b.window g') (count-after b ring s o r h ∙ rw t) (next-after b ring s o r h ∙ rw t)
      ∙ around-same b.window (get_or b.counts r 0) (get_or b.nexts r 0) (placed_at b ring s r h) g g' (place-stays b ring s o r h m l t)
      ∙ sym (order_is b ring r m l)

  -- step 5: the market's counted prices, oldest first
  pub order-after : in_order (book_after b ring e) (ring_after b ring e.offer) (market_at b r m)
      ≡ pick (unmarked e.offer r) (pushed b.window (in_order b ring (market_at b r m)) (joining e.offer (market_at b r m))) (in_order b ring (market_at b r m))
  order-after = picked (unmarked e.offer r) order-on order-stays

  -- a region's count is how many prices each of its markets has
  pub count-is : get_or (counts_after b e.offer) r 0 ≡ length (in_order (book_after b ring e) (ring_after b ring e.offer) (market_at b r m))
  count-is = sym (order-length (book_after b ring e) (ring_after b ring e.offer) r m l)

  -- the price that leaves is the oldest
  pub leaving-is : leaving b ring r m ≡ pick (ltb (length (in_order b ring (market_at b r m))) b.window) (pos 0) (get_or (in_order b ring (market_at b r m)) 0 (pos 0))
  leaving-is =
      let c = get_or b.counts r 0 in
      rw (order-length b ring r m l)
      (by-test (ltb c b.window) (λ t. rw t)
      (λ t. rw t (sym (ap (λ (u : List ℤ). get_or u 0 (pos 0)) (order_is b ring r m l)
      ∙ around-first b.window c (get_or b.nexts r 0) (placed_at b ring s r h) (window_at b ring r m l) (ltb-false c b.window t)))))

  sum_is : get_or (sums_after b ring e.offer) (place_of r m) (pos 0) ≡ sum_after b ring e.offer r m
  sum_is =
      at-used b.regions b.services r m s.regions s.services h l (λ k. sum_after b ring e.offer (k / 11) (k % 11)) (λ k. get_or b.sums k (pos 0)) (pos 0)
      ∙ ap₂ (sum_after b ring e.offer) (place-region b.regions b.services r m s.regions s.services h l) (place-market b.regions b.services r m s.regions s.services h l)

  -- what a sum moves by: "price in less the price" that leaves
  pub sum-moves : get_or (sums_after b ring e.offer) (place_of r m) (pos 0)
      ≡ pick (unmarked e.offer r) (get_or b.sums (place_of r m) (pos 0) +ℤ (joining e.offer (market_at b r m) -ℤ leaving b ring r m)) (get_or b.sums (place_of r m) (pos 0))
  sum-moves = sum_is ∙ rw (lt-ltb r b.regions h)

  -- a sum that is the total of the counted prices is so again
  pub sum-after : get_or b.sums (place_of r m) (pos 0) ≡ total (in_order b ring (market_at b r m))
      → get_or (sums_after b ring e.offer) (place_of r m) (pos 0) ≡ total (in_order (book_after b ring e) (ring_after b ring e.offer) (market_at b r m))
  sum-after q =
      by-test (unmarked e.offer r)
      (λ t. sum-moves ∙ rw t (ap₂ (λ (x y : ℤ). x +ℤ (joining e.offer (market_at b r m) -ℤ y)) q leaving-is
      ∙ sym (pushed-total b.window (in_order b ring (market_at b r m)) (joining e.offer (market_at b r m)))
      ∙ ap total (sym (order-on t))))
      (λ t. sum-moves ∙ rw t (q ∙ ap total (sym (order-stays t))))

  -- step 6
  pub mark-after : get_or (book_after b ring e).marks (place_of r m) 0
      ≡ mark_after b.threshold (last_of_day b.halves b.position) (get_or (sums_after b ring e.offer) (place_of r m) (pos 0)) (get_or b.marks (place_of r m) 0)
  mark-after =
      at-used b.regions b.services r m s.regions s.services h l
      (λ k. mark_after b.threshold (last_of_day b.halves b.position) (get_or (sums_after b ring e.offer) k (pos 0)) (get_or b.marks k 0)) (λ k. get_or b.marks k 0) 0

-- ---- unused places stay as they were
module _ (b : Book) (ring : List ℤ) (e : Entry) (k : ℕ) (h : k < 88) (u : used_place b.regions b.services k ≡ false) where
  pub sum-unused : get_or (sums_after b ring e.offer) k (pos 0) ≡ get_or b.sums k (pos 0)
  sum-unused = at-unused b.regions b.services k (λ k. sum_after b ring e.offer (k / 11) (k % 11)) (λ k. get_or b.sums k (pos 0)) (pos 0) h u

  pub mark-unused : get_or (book_after b ring e).marks k 0 ≡ get_or b.marks k 0
  mark-unused =
      at-unused b.regions b.services k
      (λ k. mark_after b.threshold (last_of_day b.halves b.position) (get_or (sums_after b ring e.offer) k (pos 0)) (get_or b.marks k 0)) (λ k. get_or b.marks k 0) 0 h u

module _ (b : Book) (o : Offer) (r : ℕ) (h : b.regions ≤ r) (l : r < 8) where
  joins-not : joins b o r ≡ false
  joins-not = rw (le-ltb r b.regions h)

  pub count-unused : get_or (counts_after b o) r 0 ≡ get_or b.counts r 0
  count-unused = get_or-tabulate (λ k. pick (joins b o k) (grown b.window (get_or b.counts k 0)) (get_or b.counts k 0)) 8 r 0 l ∙ rw joins-not

  pub next-unused : get_or (nexts_after b o) r 0 ≡ get_or b.nexts r 0
  next-unused = get_or-tabulate (λ k. pick (joins b o k) (following b.window (get_or b.nexts k 0)) (get_or b.nexts k 0)) 8 r 0 l ∙ rw joins-not

-- ---- positions
module _ (H : ℕ) (some : 1 ≤ H) where
  -- "has position (first position + t) mod D"
  pub position-on : (n : ℕ) → position_after H (n % (6 * H)) ≡ (n + 1) % (6 * H)
  position-on n =
      let d : 0 < 6 * H = omega arith in
      let e : n / (6 * H) * (6 * H) + n % (6 * H) ≡ n = div-add-mod' n (6 * H) in
      let p : n % (6 * H) < 6 * H = mod-lt n d in
      by-test (last_of_day H (n % (6 * H)))
      (λ t. let q : n % (6 * H) + 1 ≡ 6 * H = eqb-true (n % (6 * H) + 1) (6 * H) t in
      rw t (sym (ap (λ (k : ℕ). k % (6 * H)) (omega (arith, suc-mul (n / (6 * H)) (6 * H))) ∙ flat-mod (suc (n / (6 * H))) 0 (6 * H) d)))
      (λ t. let q : n % (6 * H) + 1 ≡ 6 * H → ⊥ = eqb-false (n % (6 * H) + 1) (6 * H) t in
      rw t (sym (ap (λ (k : ℕ). k % (6 * H)) (omega arith) ∙ flat-mod (n / (6 * H)) (n % (6 * H) + 1) (6 * H) (omega arith))))

  pub position-below : (p : ℕ) → p < 6 * H → position_after H p < 6 * H
  position-below p l =
      by-test (last_of_day H p) (λ t. rw t (omega arith)) (λ t. let q : p + 1 ≡ 6 * H → ⊥ = eqb-false (p + 1) (6 * H) t in rw t (omega arith))

-- ---- a book and ring that fit each other do so again
pub ring-length : (b : Book) (ring : List ℤ) (o : Offer) → length (ring_after b ring o) ≡ length ring
ring-length b ring o = length_run (λ i. pick (written b o i) (joining o (i / b.window)) (get_or ring i (pos 0))) (length ring) 0

pub placed-after : (b : Book) (ring : List ℤ) (e : Entry) → Sound b ring → (r : ℕ) → r < b.regions → Placed b.window (get_or (counts_after b e.offer) r 0) (get_or (nexts_after b e.offer) r 0)
placed-after b ring e s r h =
    let p = placed_at b ring s r h in
    rw (count-after b ring s e.offer r h, next-after b ring s e.offer r h)
    (by-test (unmarked e.offer r) (λ t. rw t (placed_on b.window (get_or b.counts r 0) (get_or b.nexts r 0) p)) (λ t. rw t p))

pub sound-after : (b : Book) (ring : List ℤ) (e : Entry) → Sound b ring → Sound (book_after b ring e) (ring_after b ring e.offer)
sound-after b ring e s = record {
  regions = s.regions;
  services = s.services;
  some = s.some;
  window = s.window;
  ring-size = ring-length b ring e.offer ∙ s.ring-size;
  count = λ r h. (placed-after b ring e s r h).most;
  next = λ r h. (placed-after b ring e s r h).below;
  early = λ r h. (placed-after b ring e s r h).early;
}

pub sized-after : (b : Book) (ring : List ℤ) (e : Entry) → Sized (book_after b ring e)
sized-after b ring e = record { counts = length_run _ 8 0; nexts = length_run _ 8 0; sums = length_run _ 88 0; marks = length_run _ 88 0 }
