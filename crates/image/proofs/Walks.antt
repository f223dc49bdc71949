-- The loops over a window's prices and the walk over the markets: what is still to go is the same at every turn. Each kind has
-- a law for its start (none), a turn (step) and its end (done). Assumes nothing.
use mathlib.Core.Path.{◌≡◌, refl, sym, ap, ◌∙◌}
use mathlib.Core.Bool.{Bool, true, false}
use mathlib.Core.List.{List, ◌++◌}
use Prim.Native.Nat.{ℕ, zero, suc, ◌+◌, ◌*◌, ◌-◌, ◌/◌, ◌<◌, ◌≤◌}
use native.Mathlib.Nat.{mul-le-mul_right, suc-mul, mul-le-mul}
use native.Mathlib.Omega.{arith}
use borrow.Author.Tests.{lt-ltb, le-ltb}
use lib.Dec.{ltb}
use lib.IntN.{ℤ, pos, ◌+ℤ◌, +ℤ_assoc, +ℤ_idl, +ℤ_idr}
use lib.ListN.{length, set, length-append}
use lib.Seq.{sets}
use Rattle.laws.specs.Base.{pick}
use Rattle.laws.specs.Lists.{run, tabulate, total, joined, sum_from}
use Rattle.laws.specs.Bytes.{words, price_at}
use Rattle.laws.proofs.Bytes.{sets-append, sets-whole}
use Rattle.laws.proofs.Lists.{length_run}
use Rattle.laws.proofs.Words.{length-words, words_append}
use Rattle.pricing.specs.Verdict.{accepted, refused_at}
use Rattle.book.specs.declared.record.Book.{Book}
use Rattle.book.specs.Record.{markets_of}
use Rattle.book.specs.Validity.{valid}
use Rattle.book.proofs.Validities.{Valid, valid-is}
use Rattle.head.specs.Counted.{market_count, count_at, oldest_at, how_many}
use Rattle.image.specs.Loading.{bad_in, bad_from, ring_of, loaded_window, windows_from, sums_from}
use Rattle.image.specs.Working.{price_verdict}
use Rattle.head.proofs.Counts.{sum-none, sum_step, sum_done}
use Rattle.image.proofs.Readings.{place_at}
use Rattle.image.proofs.Markets.{region-of, count_of, place_of, prices-are}

-- ---- a window's prices, added up
module _ (f : ℕ → ℤ) where
  total-one : (n i : ℕ) → total (run (suc n) i f) ≡ f i +ℤ total (run n (suc i) f)
  unfolding total run
  total-one n i = refl

  pub total-none : (n : ℕ) → pos 0 +ℤ total (run (n - 0) 0 f) ≡ total (tabulate n f)
  total-none n = let b : n - 0 ≡ n = omega arith in rw b (+ℤ_idl (total (run n 0 f)))

  pub total-step : (n i : ℕ) (s t z : ℤ) → i < n → z ≡ f i → s +ℤ total (run (n - i) i f) ≡ t → (s +ℤ z) +ℤ total (run (n - (i + 1)) (i + 1) f) ≡ t
  total-step n i s t z h q e =
      let m : n - i ≡ suc (n - (i + 1)) = omega arith in
      let j : i + 1 ≡ suc i = omega arith in
      rw (q, +ℤ_assoc, j, ← total-one (n - suc i) i) (rw (m, j) at e)

  pub total-done : (n i : ℕ) (s t : ℤ) → n ≤ i → s +ℤ total (run (n - i) i f) ≡ t → s ≡ t
  unfolding total run
  total-done n i s t h e = let z : n - i ≡ 0 = omega arith in sym (+ℤ_idr s) ∙ rw z at e

-- ---- the markets of a book that rule 10 accepts
pub record Market (b : Book) (q : ℕ) : Type 0 where
  pub region : q / markets_of b.services < 8
  pub place : place_at b q < 88
  pub some : 0 < b.window
  pub window : b.window ≤ 2016
  pub count : count_at b q ≤ b.window
  pub oldest : oldest_at b q ≤ b.window
  pub base : q * b.window + b.window ≤ ring_of b

pick-le : (t : Bool) (n w : ℕ) → n ≤ w → pick t 0 n ≤ w
pick-le true n w h = omega arith
pick-le false n w h = h

module _ (b : Book) (v : valid b ≡ true) where
  ok : Valid b
  ok = valid-is b v

  pub few : (b.services ≤ 10) × (market_count b ≤ 88) × (ring_of b ≤ 177408)
  few =
      let m : markets_of b.services ≤ 11 = omega (arith, ok.services) in
      let n : market_count b ≤ 88 = mul-le-mul ok.regions m in
      (ok.services, n, mul-le-mul n ok.window)

  pub market : (q : ℕ) → q < market_count b → Market b q
  market q h = record {
    region = omega (arith, region-of b ok q h, ok.regions);
    place = place_of b ok q h;
    some = ok.some-window;
    window = ok.window;
    count = count_of b ok q h;
    oldest = pick-le (ltb (count_at b q) b.window) _ b.window (omega (arith, ok.next _ (region-of b ok q h)));
    base = omega (arith, mul-le-mul_right b.window h, suc-mul q b.window);
  }

  -- the bytes of the markets from q on, of those from the first on
  pub left-none : (from : ℕ) → from + 4 * sum_from (market_count b - 0) 0 (count_at b) ≡ from + 4 * how_many b
  left-none from = ap (λ (n : ℕ). from + 4 * n) (sum-none (count_at b) (market_count b) ∙ prices-are b ok)

  pub left_here : (q at all : ℕ) → q < market_count b → at + 4 * sum_from (market_count b - q) q (count_at b) ≡ all → at + 4 * count_at b q ≤ all
  left_here q at all h e = omega (arith, sum_step (count_at b) (market_count b) q h)

  pub left_step : (q at all : ℕ) → q < market_count b → at + 4 * sum_from (market_count b - q) q (count_at b) ≡ all → at + 4 * count_at b q + 4 * sum_from (market_count b - (q + 1)) (q + 1) (count_at b) ≡ all
  left_step q at all h e = omega (arith, sum_step (count_at b) (market_count b) q h)

  pub left_done : (q at all : ℕ) → market_count b ≤ q → at + 4 * sum_from (market_count b - q) q (count_at b) ≡ all → at ≡ all
  left_done q at all h e =
      let rest = sum_from (market_count b - q) q (count_at b) in
      let none : 0 ≡ rest = sum_done (count_at b) (market_count b) q 0 rest h (omega arith) in omega arith

-- ---- prices written
module _ (f : ℕ → List ℤ) where
  joined-one : (n q : ℕ) → joined (suc n) q f ≡ f q ++ joined n (suc q) f
  unfolding joined
  joined-one n q = refl

  pub joined-none : (l : List ℕ) (at N : ℕ) → sets l at (words (joined (N - 0) 0 f)) ≡ sets l at (words (joined N 0 f))
  joined-none l at N = let m : N - 0 ≡ N = omega arith in rw m

  pub joined_step : (l r : List ℕ) (at N q c : ℕ) → q < N → length (f q) ≡ c → sets l at (words (joined (N - q) q f)) ≡ r
      → sets (sets l at (words (f q))) (at + 4 * c) (words (joined (N - (q + 1)) (q + 1) f)) ≡ r
  joined_step l r at N q c h k e =
      let m : N - q ≡ suc (N - (q + 1)) = omega arith in
      let j : q + 1 ≡ suc q = omega arith in
      let w : words (joined (suc (N - suc q)) q f) ≡ words (f q) ++ words (joined (N - suc q) (suc q) f) = ap words (joined-one (N - suc q) q) ∙ words_append (f q) (joined (N - suc q) (suc q) f) in
      let a : at + 4 * c ≡ at + length (words (f q)) = omega (arith, length-words (f q)) in
      rw (a, ← sets-append l at (words (f q)) (words (joined (N - (q + 1)) (q + 1) f)), j, ← w) (rw (m, j) at e)

  pub joined-done : (l r : List ℕ) (at N q : ℕ) → N ≤ q → sets l at (words (joined (N - q) q f)) ≡ r → l ≡ r
  unfolding joined words
  joined-done l r at N q h e = let z : N - q ≡ 0 = omega arith in rw z at e

-- ---- prices read
module _ (b : Book) (l : List ℕ) where
  abbrev priced : ℕ → ℕ → ℕ → ℤ
  priced q from i = pick (ltb i (count_at b q)) (price_at l from i) (pos 0)

  windows-one : (n q from : ℕ) → windows_from b l (suc n) q from ≡ loaded_window l b.window (count_at b q) from ++ windows_from b l n (suc q) (from + 4 * count_at b q)
  unfolding windows_from
  windows-one n q from = refl

  pub windows-none : (g : List ℤ) (N from : ℕ) → sets g (0 * b.window) (windows_from b l (N - 0) 0 from) ≡ sets g 0 (windows_from b l N 0 from)
  windows-none g N from = let m : N - 0 ≡ N = omega arith in let z : 0 * b.window ≡ 0 = omega arith in rw (m, z)

  pub windows-step : (g r : List ℤ) (N q from : ℕ) → q < N → sets g (q * b.window) (windows_from b l (N - q) q from) ≡ r
      → sets (sets g (q * b.window) (loaded_window l b.window (count_at b q) from)) ((q + 1) * b.window) (windows_from b l (N - (q + 1)) (q + 1) (from + 4 * count_at b q)) ≡ r
  windows-step g r N q from h e =
      let m : N - q ≡ suc (N - (q + 1)) = omega arith in
      let j : q + 1 ≡ suc q = omega arith in
      let a : (q + 1) * b.window ≡ q * b.window + length (loaded_window l b.window (count_at b q) from) = rw (j, length_run (priced q from) b.window 0) (suc-mul q b.window) in
      rw (a, ← sets-append g (q * b.window) (loaded_window l b.window (count_at b q) from) (windows_from b l (N - (q + 1)) (q + 1) (from + 4 * count_at b q)), j, ← windows-one (N - suc q) q from)
      (rw (m, j) at e)

  length-windows : (n q from : ℕ) → length (windows_from b l n q from) ≡ n * b.window
  unfolding windows_from
  length-windows zero q from = omega arith
  length-windows (suc n) q from =
      length-append (loaded_window l b.window (count_at b q) from) (windows_from b l n (suc q) (from + 4 * count_at b q))
      ∙ omega (arith, length_run (priced q from) b.window 0, length-windows n (suc q) (from + 4 * count_at b q), suc-mul n b.window)

  pub windows-done : (g g₀ : List ℤ) (N q from at first : ℕ) → N ≤ q → length g₀ ≡ N * b.window → sets g at (windows_from b l (N - q) q from) ≡ sets g₀ 0 (windows_from b l N 0 first) → g ≡ windows_from b l N 0 first
  unfolding windows_from
  windows-done g g₀ N q from at first h k e =
      let z : N - q ≡ 0 = omega arith in (rw z at e) ∙ sets-whole g₀ (windows_from b l N 0 first) (length-windows N 0 first ∙ sym k)

  sums-one : (n q from : ℕ) (s : List ℤ) → sums_from b l (suc n) q from s ≡ sums_from b l n (suc q) (from + 4 * count_at b q) (set s (place_at b q) (total (tabulate (count_at b q) (price_at l from))))
  unfolding sums_from
  sums-one n q from s = refl

  pub sums_none : (s : List ℤ) (N from : ℕ) → sums_from b l (N - 0) 0 from s ≡ sums_from b l N 0 from s
  sums_none s N from = let m : N - 0 ≡ N = omega arith in rw m

  pub sums-step : (s t : List ℤ) (N q from : ℕ) (v : ℤ) → q < N → v ≡ total (tabulate (count_at b q) (price_at l from)) → sums_from b l (N - q) q from s ≡ t
      → sums_from b l (N - (q + 1)) (q + 1) (from + 4 * count_at b q) (set s (place_at b q) v) ≡ t
  sums-step s t N q from v h k e =
      let m : N - q ≡ suc (N - (q + 1)) = omega arith in
      let j : q + 1 ≡ suc q = omega arith in
      rw (k, j, ← sums-one (N - suc q) q from s) (rw (m, j) at e)

  pub sums-done : (s t : List ℤ) (N q from : ℕ) → N ≤ q → sums_from b l (N - q) q from s ≡ t → s ≡ t
  unfolding sums_from
  sums-done s t N q from h e = let z : N - q ≡ 0 = omega arith in rw z at e

  -- ---- the first bad price
  module _ (first : ℕ) where
    bad-one : (n q k : ℕ) → bad_from b l first (suc n) q k ≡ pick (ltb (bad_in b l first q k) (count_at b q)) (k + bad_in b l first q k) (bad_from b l first n (suc q) (k + count_at b q))
    unfolding bad_from
    bad-one n q k = refl

    pub bad-none : (N : ℕ) → bad_from b l first (N - 0) 0 0 ≡ bad_from b l first N 0 0
    bad-none N = let z : N - 0 ≡ N = omega arith in rw z

    pub bad-here : (N q k i : ℕ) → q < N → i ≡ bad_in b l first q k → i < count_at b q → bad_from b l first (N - q) q k ≡ k + i
    bad-here N q k i h e t =
        let m : N - q ≡ suc (N - suc q) = omega arith in
        rw (m, bad-one (N - suc q) q k, ← e, lt-ltb i (count_at b q) t)

    pub bad-step : (N q k i : ℕ) → q < N → i ≡ bad_in b l first q k → count_at b q ≤ i → bad_from b l first (N - q) q k ≡ bad_from b l first (N - (q + 1)) (q + 1) (k + count_at b q)
    bad-step N q k i h e t =
        let m : N - q ≡ suc (N - suc q) = omega arith in
        let j : q + 1 ≡ suc q = omega arith in
        rw (m, bad-one (N - suc q) q k, ← e, le-ltb i (count_at b q) t, j)

    pub bad-done : (N q k r : ℕ) → N ≤ q → bad_from b l first (N - q) q k ≡ r → k ≡ r
    unfolding bad_from
    bad-done N q k r h e = let z : N - q ≡ 0 = omega arith in rw z at e

    -- 16 by the first bad price: at this place, or at none
    pub price-16 : (k : ℕ) → bad_from b l first (market_count b) 0 0 ≡ k → k < how_many b → refused_at 16 k ≡ price_verdict b l first
    price-16 k e h = rw (e, lt-ltb k (how_many b) h) refl

    pub price-0 : (k : ℕ) → bad_from b l first (market_count b) 0 0 ≡ k → how_many b ≤ k → accepted ≡ price_verdict b l first
    price-0 k e h = rw (e, le-ltb k (how_many b) h) refl
