-- Step 5, region by region: what a turn reads is still as the region found it, and what the stores of all regions leave is
-- what the definitions say place by place. Assumes nothing.
use mathlib.Core.Path.{◌≡◌, refl, sym, ap, ◌∙◌}
use mathlib.Core.Bool.{Bool, true, false, ◌&&◌}
use mathlib.Core.List.{List}
use mathlib.Core.Logic.{⊎_elim}
use Prim.Native.Nat.{ℕ, ◌+◌, ◌*◌, ◌/◌, ◌%◌, ◌<◌, ◌≤◌}
use native.Mathlib.Nat.{mul-lt-mul_of_pos_right, mul-le-mul_right, suc-mul, div-add-mod', mod-lt}
use native.Mathlib.Numerals.{add-one}
use native.Mathlib.Omega.{arith}
use lib.IntN.{ℤ, pos}
use borrow.Author.Tests.{lt-ltb, le-ltb, le-leb, lt-leb, eq-eqb, ne_eqb, eqb-true, eqb-false}
use lib.Dec.{eqb, ltb}
use lib.ListN.{length, get_or}
use Rattle.laws.specs.Base.{pick}
use Rattle.laws.specs.Lists.{puts}
use Rattle.laws.proofs.Tests.{by-test, lt-or-ge}
use Rattle.laws.proofs.Lists.{length_run, length-puts, get_or-puts-other, get_or-puts-same, flat-div, flat-mod}
use Rattle.book.specs.declared.record.Book.{Book}
use Rattle.book.specs.Record.{markets_of, place_of, ring_size}
use Rattle.book.specs.Validity.{used_place}
use Rattle.book.proofs.Validities.{Valid, sum-at}
use Rattle.publishing.specs.Entry.{Offer}
use Rattle.counting.specs.declared.windows.Windows.{Windows}
use Rattle.counting.specs.Windows.{joins, unmarked, joining, sum_after, sums_after, written, ring_after}
use Rattle.counting.specs.Working.{place_in, ring_by, sums_by, RegionOk}
use Rattle.counting.proofs.Picks.{next_row}
use Rattle.counting.proofs.Picks.{same-pick}
use Rattle.counting.proofs.Stages.{staged, staged-old, staged-none, staged-step, staged-skip, staged_done}

-- ---- within a region
module _ (w : Windows) (m : ℕ) (v : ℕ → ℤ) where
  pub sum_kept : (sums : List ℤ) → get_or (puts sums (place_of w.region) v m) (place_of w.region m) (pos 0) ≡ get_or sums (place_of w.region m) (pos 0)
  sum_kept sums = get_or-puts-other _ _ _ m _ _ (λ i p e. omega arith)

  pub ring-kept : (ring : List ℤ) → 0 < w.window → get_or (puts ring (place_in w) v m) (place_in w m) (pos 0) ≡ get_or ring (place_in w m) (pos 0)
  ring-kept ring h =
      get_or-puts-other _ _ _ m _ _
      (λ i p e. let q : w.region * w.markets + i < w.region * w.markets + m = omega arith in omega (arith, mul-lt-mul_of_pos_right q h))

-- a market's next place lies within its region's windows
pub place-within : (w : Windows) (m : ℕ) → w.next < w.window → m < w.markets → place_in w m < (w.region * w.markets + w.markets) * w.window
place-within w m h l =
    let q : w.region * w.markets + m + 1 ≤ w.region * w.markets + w.markets = omega arith in
    let e : (w.region * w.markets + m + 1) * w.window ≡ (w.region * w.markets + m) * w.window + w.window =
    rw add-one (omega (arith, suc-mul (w.region * w.markets + m) w.window)) in
    omega (arith, mul-le-mul_right w.window q)

pub places-differ : (w : Windows) (i j : ℕ) → w.next < w.window → place_in w i ≡ place_in w j → i ≡ j
places-differ w i j h e =
    let q =
    sym (flat-div (w.region * w.markets + i) w.next w.window h) ∙ ap (λ (k : ℕ). k / w.window) e ∙ flat-div (w.region * w.markets + j) w.next w.window h in
    omega arith

-- ---- all regions
module _ (b : Book) (ring : List ℤ) (o : Offer) where
  -- a place of the sums and of the ring after step 5
  abbrev pub sum_then : ℕ → ℤ
  sum_then k = pick (used_place b.regions b.services k) (sum_after b ring o (k / 11) (k % 11)) (get_or b.sums k (pos 0))

  abbrev pub price_then : ℕ → ℤ
  price_then i = pick (written b o i) (joining o (i / b.window)) (get_or ring i (pos 0))

  abbrev pub ring_row : ℕ → ℕ
  ring_row i = i / b.window / markets_of b.services

  -- after the first r regions
  abbrev pub sums_to : ℕ → List ℤ
  sums_to = staged (pos 0) 88 (λ k. k / 11) sum_then (λ k. get_or b.sums k (pos 0))

  abbrev pub ring_to : ℕ → List ℤ
  ring_to = staged (pos 0) (length ring) ring_row price_then (λ i. get_or ring i (pos 0))

  pub sums_none : length b.sums ≡ 88 → b.sums ≡ sums_to 0
  sums_none n = staged-none (pos 0) 88 (λ k. k / 11) sum_then (λ k. get_or b.sums k (pos 0)) b.sums n (λ k h. refl)

  pub ring-none : ring ≡ ring_to 0
  ring-none = staged-none (pos 0) (length ring) ring_row price_then (λ i. get_or ring i (pos 0)) ring refl (λ k h. refl)

  -- a region that does not join leaves sums and ring
  stays : (r : ℕ) → joins b o r ≡ false → (k : ℕ) → k / 11 ≡ r → sum_then k ≡ get_or b.sums k (pos 0)
  stays r j k e =
      let p : 11 * (k / 11) + k % 11 ≡ k = omega arith in
      rw (e, j, ← e, p) (same-pick (used_place b.regions b.services k) (get_or b.sums k (pos 0)))

  stays-ring : (r : ℕ) → joins b o r ≡ false → (i : ℕ) → ring_row i ≡ r → price_then i ≡ get_or ring i (pos 0)
  stays-ring r j i e = rw (e, j)

  pub sums_skip : (r : ℕ) → joins b o r ≡ false → sums_to r ≡ sums_to (r + 1)
  sums_skip r j = staged-skip (pos 0) 88 _ _ _ r (λ k h e. stays r j k e)

  pub ring-skip : (r : ℕ) → joins b o r ≡ false → ring_to r ≡ ring_to (r + 1)
  ring-skip r j = staged-skip (pos 0) (length ring) _ _ _ r (λ i h e. stays-ring r j i e)

  -- a region beyond the book's never joins
  pub sums-done : sums_to b.regions ≡ sums_after b ring o
  sums-done = staged_done (pos 0) 88 _ _ _ b.regions (λ k h l. rw (le-ltb (k / 11) b.regions l))

  pub ring-done : ring_to b.regions ≡ ring_after b ring o
  ring-done = staged_done (pos 0) (length ring) _ _ _ b.regions (λ i h l. rw (le-ltb (ring_row i) b.regions l))

-- ---- one region of a valid book
module _ (b : Book) (v : Valid b) (ring : List ℤ) (o : Offer) (r : ℕ) (h : r < b.regions) where
  abbrev M : ℕ
  M = markets_of b.services

  abbrev W : ℕ
  W = b.window

  abbrev next : ℕ
  next = get_or b.nexts r 0

  abbrev w : Windows
  w = record { region = r; markets = M; window = W; count = get_or b.counts r 0; next = next }

  abbrev at : ℕ → ℕ
  at = place_in w

  -- the parts of a market's places
  place-parts : (m : ℕ) → m < M → (place_of r m / 11 ≡ r) × (place_of r m % 11 ≡ m) × (place_of r m < 88)
  place-parts m l =
      let n : m < 11 = omega (arith, v.services) in
      let e : place_of r m ≡ r * 11 + m = omega arith in
      (rw e (flat-div r m 11 n), rw e (flat-mod r m 11 n), omega (arith, v.regions))

  at-parts : (m : ℕ) → m < M → (at m / W ≡ r * M + m) × (at m % W ≡ next) × (at m / W / M ≡ r)
  at-parts m l = let e = flat-div (r * M + m) next W (v.next r h) in (e, flat-mod (r * M + m) next W (v.next r h), rw e (flat-div r m M l))

  -- its markets and those below are not more than all
  row_below : r * M + M ≤ b.regions * M
  row_below = rw (← next_row r M) (mul-le-mul_right M (rw add-one h))

  at-below : (m : ℕ) → m < M → length ring ≡ ring_size b.regions b.services b.window → at m < length ring
  at-below m l e = omega (arith, place-within w m (v.next r h) l, mul-le-mul_right W row_below)

  -- a region's places are as they were until its turn
  sum_is : (m : ℕ) → m < M → get_or (sums_to b ring o r) (place_of r m) (pos 0) ≡ get_or b.sums (place_of r m) (pos 0)
  sum_is m l = let p = place-parts m l in staged-old (pos 0) 88 _ _ _ r (place_of r m) p.2 (omega (arith, p.0))

  pub region-ok : (prices : ℕ) → prices ≡ b.regions * M → length ring ≡ ring_size b.regions b.services b.window → RegionOk w prices (length ring) (sums_to b ring o r)
  region-ok prices p e =
      record {
        region = omega (arith, v.regions);
        markets = omega (arith, v.services);
        next = v.next r h;
        prices = omega (arith, row_below);
        ring = omega (arith, mul-le-mul_right W row_below);
        sums = λ m l. rw (sum_is m l) (sum-at b v r m h (omega arith));
      }

  -- an unmarked region
  module _ (u : unmarked o r ≡ true) (e : length ring ≡ ring_size b.regions b.services b.window) where
    ring-is : (m : ℕ) → m < M → get_or (ring_to b ring o r) (at m) (pos 0) ≡ get_or ring (at m) (pos 0)
    ring-is m l = staged-old (pos 0) (length ring) _ _ _ r (at m) (at-below m l e) (omega (arith, (at-parts m l).2))

    abbrev sums' : List ℤ
    sums' = sums_by w o.prices (ring_to b ring o r) (sums_to b ring o r)

    abbrev ring' : List ℤ
    ring' = ring_by w o.prices (ring_to b ring o r)

    sum-here : (m : ℕ) → m < M → get_or sums' (place_of r m) (pos 0) ≡ sum_then b ring o (place_of r m)
    sum-here m l =
        let p = place-parts m l in
        get_or-puts-same _ _ _ M m (pos 0) l (rw (length_run _ 88 0) p.2) (λ i j x y q. omega arith)
        ∙ rw (p.0, p.1, lt-ltb r b.regions h, le-leb m b.services (omega arith), u, sum_is m l, ring-is m l)

    sum-missed : (k : ℕ) → ((m : ℕ) → m < M → k ≡ place_of r m → ⊥) → get_or sums' k (pos 0) ≡ get_or (sums_to b ring o r) k (pos 0)
    sum-missed k n = get_or-puts-other _ _ _ M k (pos 0) n

    pub sums-step : sums' ≡ sums_to b ring o (r + 1)
    sums-step =
        staged-step (pos 0) 88 _ _ _ r sums' (length-puts _ _ _ M ∙ length_run _ 88 0)
        (λ k p q. ⊎_elim
        (λ l. let z : place_of r (k % 11) ≡ k = omega arith in
        ap (λ (x : ℕ). get_or sums' x (pos 0)) (sym z) ∙ sum-here (k % 11) l ∙ ap (sum_then b ring o) z)
        (λ l. sum-missed k (λ m x z. let y = (place-parts m x).1 in omega (arith, ap (λ (n : ℕ). n % 11) z))
        ∙ staged-old (pos 0) 88 _ _ _ r k p (omega arith) ∙ rw (q, lt-ltb r b.regions h, lt-leb (k % 11) b.services (omega arith)))
        (lt-or-ge (k % 11) M))
        (λ k p n. sum-missed k (λ m x z. n (ap (λ (y : ℕ). y / 11) z ∙ (place-parts m x).0)))

    price-here : (m : ℕ) → m < M → get_or ring' (at m) (pos 0) ≡ joining o (r * M + m)
    price-here m l = get_or-puts-same _ _ _ M m (pos 0) l (rw (length_run _ (length ring) 0) (at-below m l e)) (λ i j x y q. places-differ w i j (v.next r h) q)

    price-missed : (i : ℕ) → ((m : ℕ) → m < M → i ≡ at m → ⊥) → get_or ring' i (pos 0) ≡ get_or (ring_to b ring o r) i (pos 0)
    price-missed i n = get_or-puts-other _ _ _ M i (pos 0) n

    pub ring-step : ring' ≡ ring_to b ring o (r + 1)
    ring-step =
        staged-step (pos 0) (length ring) _ _ _ r ring' (length-puts _ _ _ M ∙ length_run _ (length ring) 0)
        (λ i p q. by-test (eqb (i % W) next)
        (λ t. let m = i / W % M in
        let l : m < M = mod-lt (i / W) (omega arith) in
        let a : r * M + m ≡ i / W = rw (← q) (div-add-mod' (i / W) M) in
        let z : at m ≡ i = rw (a, ← eqb-true (i % W) next t) (div-add-mod' i W) in
        ap (λ (x : ℕ). get_or ring' x (pos 0)) (sym z) ∙ price-here m l ∙ rw (a, q, lt-ltb r b.regions h, u, t))
        (λ t. price-missed i (λ m x z. eqb-false (i % W) next t (ap (λ (y : ℕ). y % W) z ∙ (at-parts m x).1))
        ∙ staged-old (pos 0) (length ring) _ _ _ r i p (omega arith) ∙ rw (q, lt-ltb r b.regions h, u, t)))
        (λ i p n. price-missed i (λ m x z. n (ap (λ (y : ℕ). y / W / M) z ∙ (at-parts m x).2)))

  -- what a turn leaves of ring and sums that are as after the regions passed
  pub turned : length ring ≡ ring_size b.regions b.services b.window → (ring₁ ring₂ sums₁ sums₂ : List ℤ) → ring₁ ≡ ring_to b ring o r → sums₁ ≡ sums_to b ring o r → get_or o.marked r 0 ≡ 0
      → ring₂ ≡ ring_by w o.prices ring₁ → sums₂ ≡ sums_by w o.prices ring₁ sums₁
      → (ring₂ ≡ ring_to b ring o (r + 1)) × (sums₂ ≡ sums_to b ring o (r + 1))
  turned e ring₁ ring₂ sums₁ sums₂ x y z p q =
      let u = eq-eqb (get_or o.marked r 0) 0 z in
      (p ∙ rw x (ring-step u e), q ∙ rw (x, y) (sums-step u e))

-- a marked region
pub passed : (b : Book) (ring : List ℤ) (o : Offer) (r : ℕ) (ring₁ ring₂ sums₁ sums₂ : List ℤ) → ring₁ ≡ ring_to b ring o r → sums₁ ≡ sums_to b ring o r → (get_or o.marked r 0 ≡ 0 → ⊥) → ring₂ ≡ ring₁ → sums₂ ≡ sums₁
    → (ring₂ ≡ ring_to b ring o (r + 1)) × (sums₂ ≡ sums_to b ring o (r + 1))
passed b ring o r ring₁ ring₂ sums₁ sums₂ x y z p q =
    let j = not-joined (ltb r b.regions) (unmarked o r) (ne_eqb (get_or o.marked r 0) 0 z) in
    (p ∙ x ∙ ring-skip b ring o r j, q ∙ y ∙ sums_skip b ring o r j)
  where
    not-joined : (s t : Bool) → t ≡ false → (s && t) ≡ false
    not-joined true t e = e
    not-joined false t e = refl
