-- A ring whose counted prices are in range and whose totals are the sums: what `prices_ok` says, market by market. Assumes nothing.
use mathlib.Core.Path.{◌≡◌, sym, ap₂, ◌∙◌, subst}
use mathlib.Core.Bool.{Bool, true, false, ◌&&◌}
use mathlib.Core.List.{List}
use Prim.Native.Nat.{ℕ, ◌+◌, ◌*◌, ◌/◌, ◌%◌, ◌≤◌, ◌<◌}
use native.Mathlib.Nat.{div-add-mod', div-lt_iff_lt-mul, mod-lt}
use native.Mathlib.Omega.{arith}
use lib.IntN.{ℤ, pos, negsuc, nat_abs}
use lib.Signed.{le_z}
use lib.ListN.{length, get_or}
use Rattle.laws.specs.Lists.{all_below, total}
use Rattle.laws.proofs.Integers.{up, dn, test-le, le_test, same}
use Rattle.laws.proofs.Lists.{get_or-tabulate, length_run, flat-div, flat-mod, flat-lt}
use Rattle.laws.proofs.Tests.{and_left, and_right}
use Rattle.laws.proofs.Totals.{total_size}
use Rattle.pricing.specs.Holding.{is_energy, lowest, in_range}
use Rattle.book.specs.declared.record.Book.{Book}
use Rattle.book.specs.Record.{markets_of, place_of}
use Rattle.laws.proofs.Lists.{all-at, at_all}
use Rattle.head.specs.Counted.{wrap, window_of, in_order, count_at, oldest_at, market_count}
use Rattle.image.specs.Storing.{window_ok, market_ok, prices_ok}
use Rattle.ledger.proofs.Joining.{Every}
use Rattle.ledger.proofs.Sounds.{market_at}

-- a price in a market's range
abbrev pub Ranged : ℕ → ℤ → Type 0
Ranged m x = in_range (is_energy m) x ≡ true

size_of : (x : ℤ) → dn x ≤ up x + 10000000 → up x ≤ 10000000 + dn x → nat_abs x ≤ 10000000
size_of (pos n) h l = omega arith
size_of (negsuc n) h l = omega arith

pub ranged-size : (m : ℕ) (x : ℤ) → Ranged m x → nat_abs x ≤ 10000000
ranged-size m x e =
    let high : le_z x (pos 10000000) ≡ true = and_right (le_z (lowest (is_energy m) (negsuc 9999999)) x) (le_z x (pos 10000000)) e in
    let low : le_z (lowest (is_energy m) (negsuc 9999999)) x ≡ true = and_left (le_z (lowest (is_energy m) (negsuc 9999999)) x) (le_z x (pos 10000000)) e in
    size_of x (above (is_energy m) low) (omega (arith, test-le x (pos 10000000) high))
  where
    above : (t : Bool) → le_z (lowest t (negsuc 9999999)) x ≡ true → dn x ≤ up x + 10000000
    above true h = omega (arith, test-le (negsuc 9999999) x h)
    above false h = omega (arith, test-le (pos 0) x h)

-- a total of at most 2,016 prices in range
pub total-most : (m W : ℕ) (l : List ℤ) → Every (Ranged m) l → length l ≤ W → W ≤ 2016 → nat_abs (total l) ≤ 20160000000
total-most m W l all h w = omega (arith, total_size 10000000 l (λ k p. ranged-size m (get_or l k (pos 0)) (all k p)))

equal_is : (x y : ℤ) → (le_z y x && le_z x y) ≡ true → x ≡ y
equal_is x y e = same x y (omega (arith, test-le y x (and_left (le_z y x) (le_z x y) e), test-le x y (and_right (le_z y x) (le_z x y) e)))

is-equal : (x : ℤ) → (le_z x x && le_z x x) ≡ true
is-equal x = rw (le_test x x (omega arith))

module _ (ring : List ℤ) (base w s n m : ℕ) (sum : ℤ) where
  abbrev read : ℕ → ℤ
  read i = get_or ring (base + wrap w (s + i)) (pos 0)

  abbrev all-ok : Bool
  all-ok = all_below n (λ i. in_range (is_energy m) (read i))

  abbrev total-ok : Bool
  total-ok = le_z (total (window_of ring base w s n)) sum && le_z sum (total (window_of ring base w s n))

  window-is : window_ok ring base w s n m sum ≡ true → Every (Ranged m) (window_of ring base w s n) × (sum ≡ total (window_of ring base w s n))
  window-is e = (
    λ k h. let l : k < n = omega (arith, length_run read n 0) in
        rw (get_or-tabulate read n k (pos 0) l) (all-at n (λ i. in_range (is_energy m) (read i)) (and_left all-ok total-ok e) k l),
    equal_is sum (total (window_of ring base w s n)) (and_right all-ok total-ok e),
  )

  is-window : Every (Ranged m) (window_of ring base w s n) → sum ≡ total (window_of ring base w s n) → window_ok ring base w s n m sum ≡ true
  is-window all q =
      let a : all-ok ≡ true =
      at_all n (λ i. in_range (is_energy m) (read i)) (λ k l. subst (Ranged m) (get_or-tabulate read n k (pos 0) l) (all k (omega (arith, length_run read n 0)))) in
      rw (a, q) (is-equal (total (window_of ring base w s n)))

pub record Prices (b : Book) (ring : List ℤ) : Type 0 where
  pub ranged : (r m : ℕ) → r < b.regions → m < markets_of b.services → Every (Ranged m) (in_order b ring (market_at b r m))
  pub totals : (r m : ℕ) → r < b.regions → m < markets_of b.services → get_or b.sums (place_of r m) (pos 0) ≡ total (in_order b ring (market_at b r m))

module _ (b : Book) (ring : List ℤ) where
  -- the test of market m of region r
  market-at : (r m : ℕ) → m < markets_of b.services → market_ok b ring (market_at b r m)
      ≡ window_ok ring (market_at b r m * b.window) b.window (oldest_at b (market_at b r m)) (count_at b (market_at b r m)) m (get_or b.sums (place_of r m) (pos 0))
  market-at r m l =
      let q = market_at b r m in
      let d : q / markets_of b.services ≡ r = flat-div r m (markets_of b.services) l in
      let e : q % markets_of b.services ≡ m = flat-mod r m (markets_of b.services) l in
      ap₂ (λ (k : ℕ) (x : ℤ). window_ok ring (q * b.window) b.window (oldest_at b q) (count_at b q) k x) e
      (ap₂ (λ (i j : ℕ). get_or b.sums (place_of i j) (pos 0)) d e)

  pub prices-is : prices_ok b ring ≡ true → Prices b ring
  prices-is e = record { ranged = λ r m h l. (market r m h l).0; totals = λ r m h l. (market r m h l).1 }
    where
      market : (r m : ℕ) → r < b.regions → m < markets_of b.services
          → Every (Ranged m) (in_order b ring (market_at b r m)) × (get_or b.sums (place_of r m) (pos 0) ≡ total (in_order b ring (market_at b r m)))
      market r m h l =
          let q = market_at b r m in
          window-is ring (q * b.window) b.window (oldest_at b q) (count_at b q) m (get_or b.sums (place_of r m) (pos 0))
          (sym (market-at r m l) ∙ all-at (market_count b) (market_ok b ring) e q (flat-lt r m b.regions (markets_of b.services) h l))

  pub is-prices : Prices b ring → prices_ok b ring ≡ true
  is-prices p =
      at_all (market_count b) (market_ok b ring)
      (λ q h. let z : 0 < markets_of b.services = omega arith in
      subst (λ (k : ℕ). market_ok b ring k ≡ true) (div-add-mod' q (markets_of b.services))
      (market (q / markets_of b.services) (q % markets_of b.services) ((div-lt_iff_lt-mul z).1 h) (mod-lt q z)))
    where
      market : (r m : ℕ) → r < b.regions → m < markets_of b.services → market_ok b ring (market_at b r m) ≡ true
      market r m h l =
          let q = market_at b r m in
          market-at r m l
          ∙ is-window ring (q * b.window) b.window (oldest_at b q) (count_at b q) m (get_or b.sums (place_of r m) (pos 0)) (p.ranged r m h l) (p.totals r m h l)
