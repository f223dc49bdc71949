-- Counted prices, oldest first: what 22 says of them, and a ring in which every window has its oldest price first. Assumes nothing.
use mathlib.Core.Path.{◌≡◌, refl, sym, ap, ◌∙◌}
use mathlib.Core.Bool.{Bool, true, ◌&&◌}
use mathlib.Core.List.{List}
use Prim.Native.Nat.{ℕ, ◌+◌, ◌*◌, ◌%◌, ◌≤◌, ◌<◌}
use native.Mathlib.Omega.{arith}
use borrow.Author.Tests.{lt-ltb}
use lib.IntN.{ℤ, pos}
use lib.ListN.{length, get_or}
use lib.Signed.{le_z}
use Rattle.laws.specs.Lists.{all_below, total, joined, sum_from}
use Rattle.laws.proofs.Tests.{and_left, and_right}
use Rattle.laws.proofs.Integers.{test-le, le_test, same}
use Rattle.laws.proofs.Lists.{all-at, at_all, length_run, get_or-tabulate, tabulate-same}
use Rattle.laws.proofs.Joined.{sum_same, at_left, tabulate-list, length-joined, joined_at}
use Rattle.pricing.specs.Holding.{is_energy, in_range}
use Rattle.book.specs.declared.record.Book.{Book}
use Rattle.book.specs.Record.{markets_of}
use Rattle.head.specs.Counted.{market_count, count_at, oldest_at, wrap, in_order}
use Rattle.image.specs.Storing.{market_ok, prices_ok}
use Rattle.image.proofs.Readings.{place_at, padded, length-padded}

-- ---- 22: market q's prices are in range, and their total is its sum
pub record MarketOk (b : Book) (ring : List ℤ) (q : ℕ) : Type 0 where
  pub ranged : (i : ℕ) → i < count_at b q → in_range (is_energy (q % markets_of b.services)) (get_or (in_order b ring q) i (pos 0)) ≡ true
  pub summed : total (in_order b ring q) ≡ get_or b.sums (place_at b q) (pos 0)

module _ (b : Book) (ring : List ℤ) where
  length-order : (q : ℕ) → length (in_order b ring q) ≡ count_at b q
  length-order q = length_run _ (count_at b q) 0

  order-at : (q i : ℕ) → i < count_at b q → get_or (in_order b ring q) i (pos 0) ≡ get_or ring (q * b.window + wrap b.window (oldest_at b q + i)) (pos 0)
  order-at q i h = get_or-tabulate (λ k. get_or ring (q * b.window + wrap b.window (oldest_at b q + k)) (pos 0)) (count_at b q) i (pos 0) h

  abbrev ranged_at : ℕ → ℕ → Bool
  ranged_at q i = in_range (is_energy (q % markets_of b.services)) (get_or ring (q * b.window + wrap b.window (oldest_at b q + i)) (pos 0))

  pub market-ok : (q : ℕ) → market_ok b ring q ≡ true → MarketOk b ring q
  market-ok q e =
      let t = total (in_order b ring q) in
      let s = get_or b.sums (place_at b q) (pos 0) in
      let w = and_right (all_below (count_at b q) (ranged_at q)) (le_z t s && le_z s t) e in
      record {
        ranged = λ i h. rw (order-at q i h) (all-at (count_at b q) (ranged_at q) (and_left (all_below (count_at b q) (ranged_at q)) (le_z t s && le_z s t) e) i h);
        summed = same t s (omega (arith, test-le t s (and_left (le_z t s) (le_z s t) w), test-le s t (and_right (le_z t s) (le_z s t) w)));
      }

  le_same : (s t : ℤ) → s ≡ t → (le_z s t && le_z t s) ≡ true
  le_same s t e = rw (e, le_test t t (omega arith))

  pub ok-market : (q : ℕ) → MarketOk b ring q → market_ok b ring q ≡ true
  ok-market q m =
      rw (at_all (count_at b q) (ranged_at q) (λ i h. rw (order-at q i h) at (m.ranged i h)))
      (le_same (total (in_order b ring q)) (get_or b.sums (place_at b q) (pos 0)) m.summed)

  pub prices-ok : prices_ok b ring ≡ true → (q : ℕ) → q < market_count b → MarketOk b ring q
  prices-ok e q h = market-ok q (all-at (market_count b) (market_ok b ring) e q h)

  pub ok-prices : ((q : ℕ) → q < market_count b → MarketOk b ring q) → prices_ok b ring ≡ true
  ok-prices m = at_all (market_count b) (market_ok b ring) (λ q h. ok-market q (m q h))

-- ---- windows laid one after the other: the prices f q of market q, "the oldest at the window's first place", and zeros behind
abbrev pub laid : Book → (ℕ → List ℤ) → List ℤ
laid b f = joined (market_count b) 0 (λ q. padded b.window (f q))

module _ (b : Book) (f : ℕ → List ℤ) (len : (q : ℕ) → q < market_count b → length (f q) ≡ count_at b q) (fit : (q : ℕ) → q < market_count b → count_at b q ≤ b.window) where
  wide : (q : ℕ) → q < market_count b → length (padded b.window (f q)) ≡ b.window
  wide q h = length-padded b.window (f q) (omega (arith, len q h, fit q h))

  pub length-laid : length (laid b f) ≡ market_count b * b.window
  length-laid =
      length-joined (λ q. padded b.window (f q)) (λ _. b.window) (market_count b) 0 (λ p x y. wide p (omega arith))
      ∙ sum_same (market_count b) 0 b.window (λ _. b.window) (λ j h. refl)

  laid-at : (q i : ℕ) → q < market_count b → i < count_at b q → get_or (laid b f) (q * b.window + i) (pos 0) ≡ get_or (f q) i (pos 0)
  laid-at q i h k =
      let W = b.window in
      let e : sum_from q 0 (λ _. W) ≡ q * W = sum_same q 0 W (λ _. W) (λ j h. refl) in
      let z : 0 + q ≡ q = omega arith in
      ap (λ (n : ℕ). get_or (laid b f) (n + i) (pos 0)) (sym e)
      ∙ joined_at (λ p. padded W (f p)) (λ _. W) (pos 0) (market_count b) 0 (λ p x y. wide p (omega arith)) q i h (omega (arith, fit q h))
      ∙ ap (λ (p : ℕ). get_or (padded W (f p)) i (pos 0)) z
      ∙ at_left (f q) _ (count_at b q) i (pos 0) (len q h) k

  -- a book whose windows start at their first places reads them off
  pub laid-order : ((q : ℕ) → q < market_count b → oldest_at b q ≡ 0) → (q : ℕ) → q < market_count b → in_order b (laid b f) q ≡ f q
  laid-order old q h =
      rw (old q h) (tabulate-same (count_at b q) _ (λ i. get_or (f q) i (pos 0)) (λ i k. one i k) ∙ tabulate-list (pos 0) (f q) (count_at b q) (len q h))
    where
      one : (i : ℕ) → i < count_at b q → get_or (laid b f) (q * b.window + wrap b.window (0 + i)) (pos 0) ≡ get_or (f q) i (pos 0)
      one i k =
          let z : 0 + i ≡ i = omega arith in
          rw (z, lt-ltb i b.window (omega (arith, fit q h))) (laid-at q i h k)
