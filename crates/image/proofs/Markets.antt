-- The markets of a book that rule 10 accepts: where market q's count, sum and prices lie, and how many prices there are. Assumes nothing.
use mathlib.Core.Path.{◌≡◌, sym, ap, ◌∙◌}
use mathlib.Core.Bool.{Bool, true, false}
use mathlib.Core.List.{List}
use mathlib.Core.Logic.{◌⊎◌, ⊎_elim}
use Prim.Native.Nat.{ℕ, ◌+◌, ◌-◌, ◌*◌, ◌/◌, ◌%◌, ◌≤◌, ◌<◌}
use native.Mathlib.Nat.{div-lt_iff_lt-mul, mod-lt, mul-zero, div-add-mod'}
use native.Mathlib.Omega.{arith}
use lib.IntN.{ℤ, pos, negsuc, nat_abs}
use lib.ListN.{length, get_or, replicate, length-replicate, get_or-replicate}
use lib.Signed.{le_z}
use mir.Syntax.{w32}
use mir.Val.{SFits}
use Rattle.laws.specs.Lists.{puts, sum_from}
use Rattle.laws.proofs.Tests.{and_left, and_right}
use Rattle.laws.proofs.Integers.{test-le, abs-fits}
use Rattle.laws.proofs.Lists.{flat-div, flat-mod, flat-lt, flat-place, length-puts, get_or-puts-other}
use Rattle.laws.proofs.Joined.{sum-split, sum_same, sum-blocks, get_or-puts-same}
use Rattle.pricing.specs.Holding.{in_range}
use Rattle.book.specs.declared.record.Book.{Book}
use Rattle.book.specs.Record.{markets_of}
use Rattle.book.proofs.Validities.{Valid}
use Rattle.head.specs.Counted.{market_count, count_at, how_many}
use Rattle.image.proofs.Readings.{before, place_at}

-- ---- a price in range is small
pub price-size : (energy : Bool) (z : ℤ) → in_range energy z ≡ true → nat_abs z ≤ 10000000
price-size true (pos n) e = omega (arith, test-le (pos n) (pos 10000000) (and_right (le_z (negsuc 9999999) (pos n)) _ e))
price-size true (negsuc n) e = omega (arith, test-le (negsuc 9999999) (negsuc n) (and_left _ (le_z (negsuc n) (pos 10000000)) e))
price-size false (pos n) e = omega (arith, test-le (pos n) (pos 10000000) (and_right (le_z (pos 0) (pos n)) _ e))
price-size false (negsuc n) e = omega (arith, test-le (pos 0) (negsuc n) (and_left _ (le_z (negsuc n) (pos 10000000)) e))

pub price-fits : (energy : Bool) (z : ℤ) → in_range energy z ≡ true → SFits w32 z
price-fits energy z e = abs-fits w32 z (omega (arith, price-size energy z e))

-- ---- market q
-- the market at a place
abbrev pub market_at : Book → ℕ → ℕ
market_at b k = k / 11 * markets_of b.services + k % 11

-- a number for each market, at its place among 88 that are zero elsewhere
abbrev pub placed : Book → (ℕ → ℤ) → List ℤ
placed b f = puts (replicate 88 (pos 0)) (place_at b) f (market_count b)

module _ (b : Book) (v : Valid b) where
  some-markets : 0 < markets_of b.services
  some-markets = omega arith

  few-markets : markets_of b.services ≤ 11
  few-markets = omega (arith, v.services)

  module _ (q : ℕ) (h : q < market_count b) where
    pub region-of : q / markets_of b.services < b.regions
    region-of = (div-lt_iff_lt-mul some-markets).1 h

    pub market-of : q % markets_of b.services ≤ b.services
    market-of = omega (arith, mod-lt q some-markets)

    pub count_of : count_at b q ≤ b.window
    count_of = v.count (q / markets_of b.services) region-of

    pub place_of : place_at b q < 88
    place_of = flat-place q b.regions (markets_of b.services) h v.regions some-markets few-markets

    pub place-region : place_at b q / 11 ≡ q / markets_of b.services
    place-region =
        let e : place_at b q ≡ q / markets_of b.services * 11 + q % markets_of b.services = omega arith in
        rw e (flat-div (q / markets_of b.services) (q % markets_of b.services) 11 (omega (arith, market-of, v.services)))

    pub place-market : place_at b q % 11 ≡ q % markets_of b.services
    place-market =
        let e : place_at b q ≡ q / markets_of b.services * 11 + q % markets_of b.services = omega arith in
        rw e (flat-mod (q / markets_of b.services) (q % markets_of b.services) 11 (omega (arith, market-of, v.services)))

  -- two markets have two places
  pub place-one : (q p : ℕ) → q < market_count b → p < market_count b → place_at b q ≡ place_at b p → q ≡ p
  place-one q p h k e =
      let M = markets_of b.services in
      let r : q / M ≡ p / M = sym (place-region q h) ∙ ap (λ (i : ℕ). i / 11) e ∙ place-region p k in
      let m : q % M ≡ p % M = sym (place-market q h) ∙ ap (λ (i : ℕ). i % 11) e ∙ place-market p k in
      sym (div-add-mod' q M) ∙ rw (r, m) (div-add-mod' p M)

  -- a place that is used
  module _ (k : ℕ) (r : k / 11 < b.regions) (m : k % 11 ≤ b.services) where
    pub at-below : market_at b k < market_count b
    at-below = flat-lt (k / 11) (k % 11) b.regions (markets_of b.services) r (omega arith)

    pub at_place : place_at b (market_at b k) ≡ k
    at_place =
        rw (flat-div (k / 11) (k % 11) (markets_of b.services) (omega arith), flat-mod (k / 11) (k % 11) (markets_of b.services) (omega arith))
        (omega arith)

  -- ---- how many prices there are, market by market and by the document's formula
  pub prices-are : before b (market_count b) ≡ how_many b
  prices-are =
      let M = markets_of b.services in
      let R = b.regions in
      let c : ℕ → ℕ = λ r. get_or b.counts r 0 in
      let z : 0 * M ≡ 0 = omega arith in
      let e : sum_from (R * M) (0 * M) (count_at b) ≡ M * sum_from R 0 c = sum-blocks M R 0 c in
      let n : 8 ≡ R + (8 - R) = omega (arith, v.regions) in
      let s : sum_from (R + (8 - R)) 0 c ≡ sum_from R 0 c + sum_from (8 - R) (0 + R) c = sum-split R (8 - R) 0 c in
      let t : sum_from (8 - R) (0 + R) c ≡ (8 - R) * 0 = sum_same (8 - R) (0 + R) 0 c (λ j l. v.no-count (0 + R + j) (omega arith) (omega (arith, v.regions))) in
      let u : sum_from 8 0 c ≡ sum_from R 0 c = ap (λ (k : ℕ). sum_from k 0 c) n ∙ omega (arith, s, t, mul-zero (8 - R)) in
      (rw z at e) ∙ ap (λ (k : ℕ). M * k) (sym u)

  -- ---- the numbers of `placed`
  module _ (f : ℕ → ℤ) where
    pub placed-length : length (placed b f) ≡ 88
    placed-length = length-puts (replicate 88 (pos 0)) (place_at b) f (market_count b) ∙ length-replicate 88 (pos 0)

    pub placed_at : (q : ℕ) → q < market_count b → get_or (placed b f) (place_at b q) (pos 0) ≡ f q
    placed_at q h =
        get_or-puts-same (replicate 88 (pos 0)) (place_at b) f (market_count b) q (pos 0) h (λ p k e. place-one q p h k e)
        (omega (arith, place_of q h, length-replicate 88 (pos 0)))

    pub placed-used : (k : ℕ) → k / 11 < b.regions → k % 11 ≤ b.services → get_or (placed b f) k (pos 0) ≡ f (market_at b k)
    placed-used k r m = ap (λ (i : ℕ). get_or (placed b f) i (pos 0)) (sym (at_place k r m)) ∙ placed_at (market_at b k) (at-below k r m)

    pub placed-unused : (k : ℕ) → k < 88 → (b.regions ≤ k / 11) ⊎ (b.services < k % 11) → get_or (placed b f) k (pos 0) ≡ pos 0
    placed-unused k h u =
        get_or-puts-other (replicate 88 (pos 0)) (place_at b) f (market_count b) k (pos 0)
        (λ q l e. ⊎_elim
        (λ x. omega (arith, region-of q l, place-region q l, ap (λ (i : ℕ). i / 11) e))
        (λ x. omega (arith, market-of q l, place-market q l, ap (λ (i : ℕ). i % 11) e)) u)
        ∙ get_or-replicate 88 k (pos 0) (pos 0) h
