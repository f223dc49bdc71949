-- The prices of an image, market by market: the windows, the sums and the first bad price of a load, said by them. Assumes nothing.
use mathlib.Core.Path.{◌≡◌, refl, sym, ap, ap₂, ◌∙◌}
use mathlib.Core.Bool.{Bool, true, false, not}
use mathlib.Core.List.{List, ◌++◌}
use mathlib.Core.Logic.{⊎_elim}
use Prim.Native.Nat.{ℕ, zero, suc, ◌+◌, ◌*◌, ◌-◌, ◌/◌, ◌%◌, ◌<◌, ◌≤◌}
use native.Mathlib.Omega.{arith}
use borrow.Author.Tests.{le-ltb, ltb-true, ltb-false, not-false}
use lib.Dec.{ltb}
use lib.IntN.{ℤ, pos}
use lib.ListN.{length, get_or, take, drop, replicate, length-append, length-replicate}
use lib.Seq.{drop-drop, take-add}
use Rattle.laws.specs.Base.{pick}
use Rattle.laws.specs.Lists.{tabulate, puts, total, joined, sum_from}
use Rattle.laws.proofs.Tests.{by-test, lt-or-ge}
use Rattle.laws.proofs.Lists.{length_run, tab-below, first_below-none, first_below-passed}
use Rattle.laws.specs.Bytes.{words, price_at}
use Rattle.laws.proofs.Joined.{sum-next, sum-split}
use Rattle.laws.proofs.Words.{words_append, words_back}
use Rattle.pricing.specs.Holding.{is_energy, in_range}
use Rattle.book.specs.declared.record.Book.{Book}
use Rattle.book.specs.Record.{markets_of, place_of}
use Rattle.head.specs.Counted.{count_at}
use Rattle.image.specs.Loading.{bad_in, bad_from, windows_from, sums_from}

-- how many prices stand before those of market q, and where these start
abbrev pub before : Book → ℕ → ℕ
before b q = sum_from q 0 (count_at b)

abbrev pub start : ℕ → Book → ℕ → ℕ
start first b q = first + 4 * before b q

-- market q's prices, oldest first, read from an image
abbrev pub prices_at : ℕ → Book → List ℕ → ℕ → List ℤ
prices_at first b l q = tabulate (count_at b q) (price_at l (start first b q))

-- the place of market q's sum and mark
abbrev pub place_at : Book → ℕ → ℕ
place_at b q = place_of (q / markets_of b.services) (q % markets_of b.services)

-- a window of w places: prices and "zeroes the others"
abbrev pub padded : ℕ → List ℤ → List ℤ
padded w zs = zs ++ replicate (w - length zs) (pos 0)

pub length-padded : (w : ℕ) (zs : List ℤ) → length zs ≤ w → length (padded w zs) ≡ w
length-padded w zs h = length-append zs (replicate (w - length zs) (pos 0)) ∙ omega (arith, length-replicate (w - length zs) (pos 0))

drop-zeros : (m n : ℕ) → drop m (replicate n (pos 0)) ≡ replicate (n - m) (pos 0)
drop-zeros zero n = let e : n - 0 ≡ n = omega arith in rw e
drop-zeros (suc m) zero = let e : 0 - suc m ≡ 0 = omega arith in rw e
drop-zeros (suc m) (suc n) = let e : suc n - suc m ≡ n - m = omega arith in rw e (drop-zeros m n)

padded-is : (w n : ℕ) (f : ℕ → ℤ) → n ≤ w → tabulate w (λ i. pick (ltb i n) (f i) (pos 0)) ≡ padded w (tabulate n f)
padded-is w n f h =
    sym (tab-below f (pos 0) w n h)
    ∙ ap (λ (l : List ℤ). tabulate n f ++ l) (drop-zeros n w ∙ ap (λ (k : ℕ). replicate (w - k) (pos 0)) (sym (length_run f n 0)))

-- the prices start at `first`
module _ (first : ℕ) (b : Book) (l : List ℕ) where
  next_start : (q : ℕ) → start first b q + 4 * count_at b q ≡ start first b (suc q)
  next_start q = omega (arith, sum-next q (count_at b))

  -- ---- the windows
  pub windows-are : (n q : ℕ) → ((p : ℕ) → q ≤ p → p < q + n → count_at b p ≤ b.window) → windows_from b l n q (start first b q) ≡ joined n q (λ p. padded b.window (prices_at first b l p))
  unfolding windows_from joined
  windows-are zero q c = refl
  windows-are (suc n) q c =
      ap₂ ◌++◌ (padded-is b.window (count_at b q) (price_at l (start first b q)) (c q (omega arith) (omega arith)))
      (ap (windows_from b l n (suc q)) (next_start q) ∙ windows-are n (suc q) (λ p x y. c p (omega arith) (omega arith)))

  -- ---- the sums
  pub sums-are : (s : List ℤ) (n q : ℕ) → sums_from b l n q (start first b q) (puts s (place_at b) (λ p. total (prices_at first b l p)) q) ≡ puts s (place_at b) (λ p. total (prices_at first b l p)) (q + n)
  unfolding sums_from puts
  sums-are s zero q = let z : q + 0 ≡ q = omega arith in rw z
  sums-are s (suc n) q = let z : q + suc n ≡ suc q + n = omega arith in rw (z, next_start q) (sums-are s n (suc q))

  -- ---- their bytes
  pub bytes-are : ((i : ℕ) → get_or l i 0 < 256) → (n q : ℕ) → start first b (q + n) ≤ length l → words (joined n q (prices_at first b l)) ≡ take (4 * sum_from n q (count_at b)) (drop (start first b q) l)
  unfolding words joined sum_from
  bytes-are bytes zero q h = refl
  bytes-are bytes (suc n) q h =
      let c = count_at b q in
      let rest = sum_from n (suc q) (count_at b) in
      let z : q + suc n ≡ suc q + n = omega arith in
      let h' : start first b (suc q + n) ≤ length l = rw z at h in
      let y : start first b q + 4 * 0 ≡ start first b q = omega arith in
      let s : before b (suc q + n) ≡ before b q + c + sum_from n (0 + suc q) (count_at b) = sum-split (suc q) n 0 (count_at b) ∙ omega (arith, sum-next q (count_at b)) in
      let m : 4 * (c + rest) ≡ 4 * c + 4 * rest = omega arith in
      words_append (prices_at first b l q) (joined n (suc q) (prices_at first b l))
      ∙ ap₂ ◌++◌ (words_back l bytes c (start first b q) 0 (omega arith) ∙ ap (λ (i : ℕ). take (4 * c) (drop i l)) y)
      (bytes-are bytes n (suc q) h' ∙ ap (λ (i : ℕ). take (4 * rest) (drop i l)) (sym (next_start q)) ∙ ap (take (4 * rest)) (sym (drop-drop (4 * c) (start first b q) l)))
      ∙ sym (ap (λ (i : ℕ). take i (drop (start first b q) l)) m ∙ take-add (4 * c) (4 * rest) (drop (start first b q) l))

  -- ---- the first bad price: none, exactly where all are in range
  abbrev pub good_at : ℕ → ℕ → Bool
  good_at q i = in_range (is_energy (q % markets_of b.services)) (price_at l (start first b q) i)

  not_good : (t : Bool) → t ≡ true → not t ≡ false
  not_good t e = rw e

  pub none-bad : (n q : ℕ) → ((p i : ℕ) → q ≤ p → p < q + n → i < count_at b p → good_at p i ≡ true) → bad_from b l first n q (before b q) ≡ before b (q + n)
  unfolding bad_from
  none-bad zero q g = let z : q + 0 ≡ q = omega arith in rw z
  none-bad (suc n) q g =
      let z : q + suc n ≡ suc q + n = omega arith in
      let f : bad_in b l first q (before b q) ≡ count_at b q = first_below-none (count_at b q) _ (λ i h. not_good (good_at q i) (g q i (omega arith) (omega arith) h)) in
      rw (f, le-ltb (count_at b q) (count_at b q) (omega arith), z, ← sum-next q (count_at b)) (none-bad n (suc q) (λ p i x y. g p i (omega arith) (omega arith)))

  -- at one market, with what holds of those after it
  here-or-later : (n q p i : ℕ) → before b (q + suc n) ≤ pick (ltb (bad_in b l first q (before b q)) (count_at b q)) (before b q + bad_in b l first q (before b q)) (bad_from b l first n (suc q) (before b q + count_at b q))
      → q ≤ p → p < q + suc n → i < count_at b p → (before b (suc q + n) ≤ bad_from b l first n (suc q) (before b (suc q)) → suc q ≤ p → p < suc q + n → good_at p i ≡ true) → good_at p i ≡ true
  here-or-later n q p i h x y k rest = by-test (ltb (bad_in b l first q (before b q)) (count_at b q)) bad good
    where
      z : q + suc n ≡ suc q + n
      z = omega arith

      bad : ltb (bad_in b l first q (before b q)) (count_at b q) ≡ true → good_at p i ≡ true
      bad e =
          let s = sum-split (suc q) n 0 (count_at b) in
          let t = sum-next q (count_at b) in
          absurd (omega (arith, rw (e, z) at h, s, t, ltb-true (bad_in b l first q (before b q)) (count_at b q) e))

      good : ltb (bad_in b l first q (before b q)) (count_at b q) ≡ false → good_at p i ≡ true
      good e =
          ⊎_elim
          (λ (a : p < suc q). let r : p ≡ q = omega arith in let k' : i < count_at b q = rw r at k in rw r (not-false (good_at q i) (first_below-passed (count_at b q) (λ j. not (good_at q j)) i (omega (arith, ltb-false (bad_in b l first q (before b q)) (count_at b q) e)))))
          (λ (a : suc q ≤ p). rest (rw (e, z, ← sum-next q (count_at b)) at h) a (omega arith))
          (lt-or-ge p (suc q))

  pub all-good : (n q : ℕ) → before b (q + n) ≤ bad_from b l first n q (before b q) → (p i : ℕ) → q ≤ p → p < q + n → i < count_at b p → good_at p i ≡ true
  unfolding bad_from
  all-good zero q h p i x y k = absurd (omega arith)
  all-good (suc n) q h p i x y k = here-or-later n q p i h x y k (λ g a c. all-good n (suc q) g p i a c k)

  -- ---- the same of all markets
  pub windows-whole : (n : ℕ) → ((p : ℕ) → p < n → count_at b p ≤ b.window) → windows_from b l n 0 first ≡ joined n 0 (λ p. padded b.window (prices_at first b l p))
  unfolding sum_from
  windows-whole n c = let y : first + 4 * 0 ≡ first = omega arith in rw y at (windows-are n 0 (λ p x y. c p (omega arith)))

  pub sums-whole : (s : List ℤ) (n : ℕ) → sums_from b l n 0 first s ≡ puts s (place_at b) (λ p. total (prices_at first b l p)) n
  unfolding sum_from puts
  sums-whole s n = let z : 0 + n ≡ n = omega arith in let y : first + 4 * 0 ≡ first = omega arith in rw (z, y) at (sums-are s n 0)

  pub bytes_whole : ((i : ℕ) → get_or l i 0 < 256) → (n : ℕ) → start first b n ≤ length l → words (joined n 0 (prices_at first b l)) ≡ take (4 * before b n) (drop first l)
  unfolding sum_from
  bytes_whole bytes n h = let y : first + 4 * 0 ≡ first = omega arith in rw y at (bytes-are bytes n 0 (let z : 0 + n ≡ n = omega arith in rw z h))

  pub none-bad-whole : (n : ℕ) → ((p i : ℕ) → p < n → i < count_at b p → good_at p i ≡ true) → bad_from b l first n 0 0 ≡ before b n
  unfolding sum_from
  none-bad-whole n g = let z : 0 + n ≡ n = omega arith in none-bad n 0 (λ p i x y. g p i (omega arith)) ∙ ap (λ (k : ℕ). before b k) z

  pub all-good-whole : (n : ℕ) → before b n ≤ bad_from b l first n 0 0 → (p i : ℕ) → p < n → i < count_at b p → good_at p i ≡ true
  unfolding sum_from
  all-good-whole n h p i k = all-good n 0 (let z : 0 + n ≡ n = omega arith in rw z h) p i (omega arith) (omega arith)
