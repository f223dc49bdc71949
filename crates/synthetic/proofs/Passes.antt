-- Every test load passes an entry's checks, and an entry takes it. Assumes nothing.
use mathlib.Core.Path.{◌≡◌, refl}
use mathlib.Core.Bool.{Bool, true, false, ◌&&◌}
use mathlib.Core.List.{List}
use Prim.Native.Nat.{ℕ, zero, suc, ◌+◌, ◌*◌, ◌/◌, ◌%◌, ◌<◌}
use native.Mathlib.Nat.{mod-lt}
use native.Mathlib.Omega.{arith}
use borrow.Author.Tests.{le-leb, lt-leb, le-ltb, eq-eqb}
use lib.Dec.{eqb, leb, ltb}
use lib.IntN.{ℤ, pos, negsuc, ◌-ℤ◌}
use lib.ListN.{length, get_or, replicate, length-replicate}
use Rattle.laws.specs.Lists.{tabulate}
use Rattle.laws.proofs.Tests.{by-test}
use Rattle.laws.proofs.Lists.{length_run, get_or-tabulate, first_below-none}
use Rattle.laws.proofs.Integers.{le_test, dif-parts}
use Rattle.pricing.specs.Holding.{is_energy, in_range}
use Rattle.book.specs.declared.record.Book.{Book}
use Rattle.book.specs.Record.{markets_of, table_size, ring_size, link_count}
use Rattle.publishing.specs.Entry.{entry_of}
use Rattle.entries.specs.Checking.{entry_verdict, lengths_ok, first_mark, first_price, has_factor, first_factor}
use Rattle.entries.specs.Entering.{shape_of}
use Rattle.interval_records.specs.Layout.{Interval}
use Rattle.drawing.specs.Drawing.{drawn, energy_of, price_of, factor_of}
use Rattle.synthetic.specs.Synthetic.{made}
use Rattle.synthetic.specs.Passing.{MadePasses, MadeEnters}

-- ---- the numbers that are drawn are in range
energy-in : (d : ℕ) → in_range true (energy_of d) ≡ true
energy-in d = by-test (ltb d 64) (λ a. rw a refl) (λ a. rw a (both (d % 20000) (mod-lt d (omega arith))))
  where
    both : (x : ℕ) → x < 20000 → in_range true (pos x -ℤ pos 2000) ≡ true
    both x h =
        let z = pos x -ℤ pos 2000 in
        let p = dif-parts (pos x) (pos 2000) in
        rw (le_test (negsuc 9999999) z (omega (arith, p)), le_test z (pos 10000000) (omega (arith, p))) refl

service-in : (d : ℕ) → in_range false (pos (d % 3000)) ≡ true
service-in d =
    let m : d % 3000 < 3000 = mod-lt d (omega arith) in
    rw (le_test (pos 0) (pos (d % 3000)) (omega arith), le_test (pos (d % 3000)) (pos 10000000) (omega (arith, m))) refl

price-in : (market d : ℕ) → in_range (is_energy market) (price_of market d) ≡ true
price-in market d = by-test (is_energy market) (λ a. rw a (energy-in d)) (λ a. rw a (service-in d))

factor-in : (d : ℕ) → (leb 10000 (factor_of d) && leb (factor_of d) 20000) ≡ true
factor-in d =
    let m : d % 2000 < 2000 = mod-lt d (omega arith) in
    rw (le-leb 10000 (factor_of d) (omega arith), le-leb (factor_of d) 20000 (omega (arith, m))) refl

no-mark : (n k : ℕ) → ◌≡◌ {A = ℕ} (get_or (replicate n 0) k 0) 0
no-mark zero k = refl
no-mark (suc n) zero = refl
no-mark (suc n) (suc k) = no-mark n k

-- ---- none of them is bad, whichever draws they are made of
none-marked : (n : ℕ) → first_mark n (replicate n 0) ≡ n
none-marked n = first_below-none n _ (λ k h. rw (no-mark n k) refl)

prices-in : (R M : ℕ) (d : ℕ → ℕ)
    → first_price R M (tabulate (R * M) (λ q. price_of (q % M) (d q))) (replicate R 0) ≡ R * M
prices-in R M d = first_below-none (R * M) _ (λ k h. rw (no-mark R (k / M), get_or-tabulate price (R * M) k (pos 0) h, price-in (k % M) (d k)) refl)
  where
    price : ℕ → ℤ
    price q = price_of (q % M) (d q)

factors-in : (links R : ℕ) (parents : List ℕ) (d : ℕ → ℕ) → first_factor links R parents (tabulate links (λ r. factor_of (d r))) ≡ links
factors-in links R parents d =
    first_below-none links _ (λ k h. rw (get_or-tabulate (λ r. factor_of (d r)) links k 0 h, factor-in (d k)) (none (has_factor R parents k)))
  where
    none : (t : Bool) → (t && false) ≡ false
    none true = refl
    none false = refl

-- ---- 11 of an entry, where ring, schedule and table are of their lengths
module _ (b : Book) (s number kind : ℕ) where
  abbrev v : Interval
  v = made b s number kind

  abbrev R : ℕ
  R = b.regions

  abbrev N : ℕ
  N = table_size b.regions b.services

  lengths-pass : (ring table : ℕ) (schedule : List ℤ)
      → ring ≡ ring_size R b.services b.window
      → length schedule ≡ N * 2 * b.halves
      → table ≡ N
      → lengths_ok (shape_of b) ring (entry_of kind v.prices v.marked v.flows v.factors schedule) table ≡ true
  lengths-pass ring table schedule r c t =
      let p : length v.prices ≡ N = length_run _ N 0 in
      let m : length v.marked ≡ R = length-replicate {A = ℕ} R 0 in
      let f : length v.flows ≡ link_count b = length_run _ (link_count b) 0 in
      let x : length v.factors ≡ link_count b = length_run _ (link_count b) 0 in
      rw (r, c, t, p, m, f, x)
      (rw (same (ring_size R b.services b.window), same N, same R, same (link_count b), same (N * 2 * b.halves)) refl)
    where
      same : (n : ℕ) → eqb n n ≡ true
      same n = eq-eqb n n refl

pub made-passes : MadePasses
made-passes b s number kind = record {
  marks = none-marked b.regions;
  prices = prices-in b.regions (markets_of b.services) (drawn s);
  factors = factors-in (link_count b) b.regions b.parents (λ r. drawn s (table_size b.regions b.services + 2 * r + 1));
}

pub made-enters : MadeEnters
unfolding entry_verdict
made-enters b s number kind ring table schedule a r c t e n k =
    let R = b.regions in
    let N = table_size b.regions b.services in
    let p = made-passes b s number kind in
    let l = lengths-pass b s number kind ring table schedule r c t in
    rw (a, l, lt-leb 10000000 b.entries e, eq-eqb number b.entries n, le-leb kind 1 k)
    (rw (p.marks, p.prices, p.factors, le-ltb R R (omega arith), le-ltb N N (omega arith), le-ltb (link_count b) (link_count b) (omega arith)) refl)
