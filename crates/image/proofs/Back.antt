-- The image of a book that stores: it loads, to that book with every window's oldest price first. Assumes nothing.
use mathlib.Core.Path.{◌≡◌, refl, sym, ap, ◌∙◌}
use mathlib.Core.Bool.{Bool, true, false, not}
use mathlib.Core.List.{List, ◌++◌, append_assoc}
use mathlib.Core.Logic.{◌⊎◌, inl, inr, ⊎_elim}
use Prim.Native.Nat.{ℕ, ◌+◌, ◌*◌, ◌/◌, ◌%◌, ◌≤◌, ◌<◌}
use native.Mathlib.Nat.{le_of_eq}
use native.Mathlib.Omega.{arith}
use borrow.Author.Tests.{ne_eqb}
use lib.Dec.{eqb}
use lib.IntN.{ℤ, pos}
use lib.ListN.{length, get_or, take, drop, replicate, get_or-replicate, length-append}
use lib.Seq.{ext_get_or, drop_at, drop-drop}
use Rattle.laws.specs.Base.{pick}
use Rattle.laws.specs.Lists.{total}
use Rattle.laws.specs.Bytes.{number_at, encode, decode, size_of, words, price_at}
use Rattle.laws.proofs.Tests.{lt-or-ge, true-is}
use Rattle.laws.proofs.Lists.{length_run, tabulate-same}
use Rattle.laws.proofs.Fields.{decode-encode, decode-at}
use Rattle.laws.proofs.Joined.{sum_below, tabulate-list, joined_same, joined_at}
use Rattle.laws.proofs.Words.{price-back}
use Rattle.pricing.specs.Holding.{is_energy}
use Rattle.book.specs.declared.record.Book.{Book}
use Rattle.book.specs.Record.{none, markets_of, ring_size}
use Rattle.book.proofs.Validities.{Valid}
use Rattle.head.specs.Counted.{market_count, count_at, in_order, counted, how_many}
use Rattle.head.specs.Layout.{widths, kind_of, head_size, length_of, firsts, seconds, values, tail_widths, tail, tail_of, image_of, is_second, from_in, to_in, book_of, head_from}
use Rattle.image.specs.Loading.{first_bad, book_from, ring_from}
use Rattle.image.proofs.Readings.{before, start, prices_at, padded, none-bad-whole}
use Rattle.image.proofs.Markets.{price-fits, market_at, at-below, at_place, prices-are, placed, placed-length, placed-used, placed-unused}
use Rattle.head.proofs.Heads.{field_at, value-first, value-second}
use Rattle.image.proofs.Typed.{Typed, threshold-fits, limits-fit, ends-are, tail-fits, fit_of}
use Rattle.image.proofs.Lengths.{head-length, front_length, length-counted, length-image}
use Rattle.image.proofs.Books.{anew_with, book-values}
use Rattle.image.proofs.Verdicts.{HeadOk, LoadOk, StoreOk}
use Rattle.image.proofs.Prices.{MarketOk, prices-ok, laid}
use Rattle.image.proofs.Anew.{valid-anew}
use Rattle.image.proofs.There.{sums_read, book-is, ring-is}

abbrev pub zeros : List ℤ
zeros = replicate 88 (pos 0)

module _ (second : Bool) (b : Book) (ring : List ℤ) (n : ℕ) (t : Typed b) (ok : StoreOk second b ring n) where
  abbrev first : ℕ
  first = head_size second

  abbrev bytes : List ℕ
  bytes = image_of second b ring

  v : Valid b
  v = ok.book

  -- ---- the head
  numbers : decode widths bytes ≡ values (length_of second b) (kind_of second) b
  unfolding image_of
  numbers = decode-encode (tail_of second b ++ words (counted b ring)) (fit_of b v t second)

  -- the kind, and the ends
  kind-back : number_at bytes 4 2 ≡ kind_of second
  unfolding widths size_of firsts
  kind-back = sym (field_at bytes 1 4 2 (omega arith) refl refl) ∙ ap (λ (vs : List ℕ). get_or vs 1 0) numbers ∙ value-first (length_of second b) (kind_of second) b 1 (omega arith)

  second_is : is_second bytes ≡ second
  second_is = rw kind-back (go second)
    where
      go : (s : Bool) → eqb (kind_of s) 2 ≡ s
      go true = refl
      go false = refl

  -- what is read of the tail of kind 2
  tail-numbers : second ≡ true → decode tail_widths (drop 148 bytes) ≡ tail b
  unfolding image_of
  tail-numbers e =
      let head = encode widths (values (length_of second b) (kind_of second) b) in
      ap (decode tail_widths) (drop_at head (tail_of second b ++ words (counted b ring)) 148 (head-length (length_of second b) (kind_of second) b t))
      ∙ rw e (decode-encode (words (counted b ring)) (tail-fits b v t))

  tail_at : second ≡ true → (j at w : ℕ) → j < 4 → size_of (take j tail_widths) ≡ at → get_or tail_widths j 0 ≡ w → number_at bytes (148 + at) w ≡ get_or (tail b) j 0
  unfolding tail_widths number_at
  tail_at e j at w h p q =
      rw (← drop-drop at 148 bytes) (sym (decode-at tail_widths (drop 148 bytes) j h ∙ rw (p, q)) ∙ ap (λ (vs : List ℕ). get_or vs j 0) (tail-numbers e))

  -- an image of kind 1 is of a book without the link
  no-ends : second ≡ false → (b.from ≡ none) × (b.to ≡ none)
  no-ends e = go b.from b.to (rw e at ok.tells) (ends-are b.regions b.parents b.from b.to v.ends)
    where
      go : (from to : ℕ) → not (not (eqb from none)) ≡ true → ((from ≡ none) × (to ≡ none)) ⊎ ((from < b.regions) × (to < b.regions)) → (from ≡ none) × (to ≡ none)
      go from to h (inl q) = q
      go from to h (inr q) = let n : from ≡ none → ⊥ = λ z. omega (arith, q.0, v.regions) in absurd (true-is (rw (ne_eqb from none n) at h))

  from_back : from_in bytes ≡ b.from
  unfolding tail_widths tail size_of
  from_back = rw second_is (go second refl)
    where
      go : (s : Bool) → second ≡ s → pick s (number_at bytes 148 1) none ≡ b.from
      go true e = tail_at e 0 0 1 (omega arith) refl refl
      go false e = sym (no-ends e).0

  to_back : to_in bytes ≡ b.to
  unfolding tail_widths tail size_of
  to_back = rw second_is (go second refl)
    where
      go : (s : Bool) → second ≡ s → pick s (number_at bytes 149 1) none ≡ b.to
      go true e = tail_at e 1 1 1 (omega arith) refl refl
      go false e = sym (no-ends e).1

  zeros-back : is_second bytes ≡ true → (number_at bytes 150 2 ≡ 0) × (number_at bytes 152 4 ≡ 4294967295)
  unfolding tail_widths tail size_of
  zeros-back e = let k : second ≡ true = sym second_is ∙ e in (tail_at k 2 2 2 (omega arith) refl refl, tail_at k 3 4 4 (omega arith) refl refl)

  head-back : (s : List ℤ) → book_of (decode widths bytes) (from_in bytes) (to_in bytes) s ≡ anew_with b s
  head-back s =
      let l = limits-fit b.cap b.floor v.limits in
      rw (from_back, to_back)
      (ap (λ (vs : List ℕ). book_of vs b.from b.to s) numbers
      ∙ book-values (length_of second b) (kind_of second) b t.parents t.counts t.marks s (threshold-fits b.threshold v.threshold) l.0 l.1)

  pub head-is : head_from bytes ≡ anew_with b zeros
  head-is = head-back zeros

  -- ---- the prices
  market : (q : ℕ) → q < market_count b → MarketOk b ring q
  market q h = prices-ok b ring ok.prices q h

  price-at : (q i : ℕ) → q < market_count b → i < count_at b q → price_at bytes (start first b q) i ≡ get_or (in_order b ring q) i (pos 0)
  unfolding image_of
  price-at q i h k =
      let z : 0 + q ≡ q = omega arith in
      let e : get_or (counted b ring) (before b q + i) (pos 0) ≡ get_or (in_order b ring q) i (pos 0) =
      joined_at (in_order b ring) (count_at b) (pos 0) (market_count b) 0 (λ p x y. length_run _ (count_at b p) 0) q i h (rw z k)
      ∙ ap (λ (p : ℕ). get_or (in_order b ring p) i (pos 0)) z in
      let head = encode widths (values (length_of second b) (kind_of second) b) in
      let a : start first b q + 4 * i ≡ length (head ++ tail_of second b) + 4 * (before b q + i) = omega (arith, length-append head (tail_of second b), head-length (length_of second b) (kind_of second) b t, front_length second b) in
      rw (← append_assoc head (tail_of second b) (words (counted b ring)), a)
      (price-back (counted b ring) (head ++ tail_of second b) (before b q + i)
      (rw e (price-fits (is_energy (q % markets_of b.services)) (get_or (in_order b ring q) i (pos 0)) ((market q h).ranged i k))) (omega (arith, length-counted b ring, sum_below (count_at b) (market_count b) q i h k))
      ∙ e)

  -- what is read of market q is what was written
  pub prices-back : (q : ℕ) → q < market_count b → prices_at first b bytes q ≡ in_order b ring q
  prices-back q h =
      tabulate-same (count_at b q) _ (λ i. get_or (in_order b ring q) i (pos 0)) (λ i k. price-at q i h k)
      ∙ tabulate-list (pos 0) (in_order b ring q) (count_at b q) (length_run _ (count_at b q) 0)

  -- ---- the verdict
  valid-head : Valid (anew_with b zeros)
  valid-head =
      valid-anew b v zeros (λ k h r m. rw (get_or-replicate 88 k (pos 0) (pos 0) h) (omega arith)) (λ k h u. get_or-replicate 88 k (pos 0) (pos 0) h)

  first-at : (j at w : ℕ) → j < 7 → size_of (take j widths) ≡ at → get_or widths j 0 ≡ w → number_at bytes at w ≡ get_or (firsts (length_of second b) (kind_of second) b) j 0
  first-at j at w h p q =
      sym (field_at bytes j at w (omega arith) p q) ∙ ap (λ (vs : List ℕ). get_or vs j 0) numbers ∙ value-first (length_of second b) (kind_of second) b j h

  second_at : number_at bytes 26 2 ≡ 0
  unfolding widths size_of seconds
  second_at =
      sym (field_at bytes 17 26 2 (omega arith) refl refl) ∙ ap (λ (vs : List ℕ). get_or vs 17 0) numbers
      ∙ value-second (length_of second b) (kind_of second) b t.parents t.counts 17 (omega arith) (omega arith)

  head-good : HeadOk bytes
  unfolding widths size_of firsts
  head-good = record {
    long = rw second_is (omega (arith, length-image second b ring v (head-length (length_of second b) (kind_of second) b t)));
    size = first-at 0 0 4 (omega arith) refl refl ∙ sym (length-image second b ring v (head-length (length_of second b) (kind_of second) b t));
    kind = rw second_is kind-back;
    zero = first-at 6 11 1 (omega arith) refl refl;
    zeros = second_at;
    tail = zeros-back;
    book = rw head-is valid-head;
    sized = rw (head-is, second_is) (length-image second b ring v (head-length (length_of second b) (kind_of second) b t));
  }

  none-bad : how_many (head_from bytes) ≤ first_bad bytes
  none-bad =
      let a = anew_with b zeros in
      rw (head-is, second_is)
      (le_of_eq (sym (none-bad-whole first a bytes (market_count b) (λ q i h k. rw (price-at q i h k) ((market q h).ranged i k)) ∙ prices-are a valid-head)))

  pub load-back : (m : ℕ) → m ≡ ring_size b.regions b.services b.window → LoadOk bytes m
  load-back m e = record { head = head-good; ring = rw head-is e; good = none-bad }

  -- ---- the sums and the book: 22 says that the sums are the totals
  sums-back : placed b (λ q. total (prices_at first b bytes q)) ≡ b.sums
  sums-back = ext_get_or (pos 0) _ b.sums (placed-length b v f ∙ sym t.sums) (λ k h. each k (omega (arith, placed-length b v f)))
    where
      f : ℕ → ℤ
      f q = total (prices_at first b bytes q)

      used : (k : ℕ) → k / 11 < b.regions → k % 11 ≤ b.services → get_or (placed b f) k (pos 0) ≡ get_or b.sums k (pos 0)
      used k r m =
          let q = market_at b k in
          let h : q < market_count b = at-below b v k r m in
          placed-used b v f k r m ∙ ap total (prices-back q h) ∙ (market q h).summed ∙ ap (λ (i : ℕ). get_or b.sums i (pos 0)) (at_place b v k r m)

      unused : (k : ℕ) → k < 88 → (b.regions ≤ k / 11) ⊎ (b.services < k % 11) → get_or (placed b f) k (pos 0) ≡ get_or b.sums k (pos 0)
      unused k h u = placed-unused b v f k h u ∙ sym (v.no-sum k h u)

      each : (k : ℕ) → k < 88 → get_or (placed b f) k (pos 0) ≡ get_or b.sums k (pos 0)
      each k h =
          ⊎_elim
          (λ r. ⊎_elim (λ m. used k r (omega arith)) (λ m. unused k h (inr (omega arith))) (lt-or-ge (k % 11) (b.services + 1)))
          (λ r. unused k h (inl r))
          (lt-or-ge (k / 11) b.regions)

  same-sums : sums_read bytes ≡ b.sums
  same-sums = rw (head-is, second_is) sums-back

  pub book-back : book_from bytes ≡ anew_with b b.sums
  book-back = book-is bytes _ (load-back _ refl) ∙ rw (same-sums, head-is)

  -- ---- the ring
  pub ring-back : ring_from bytes ≡ laid b (in_order b ring)
  ring-back =
      ring-is bytes _ (load-back _ refl)
      ∙ rw (head-is, second_is) (joined_same _ _ (market_count b) 0 (λ q x y. ap (padded b.window) (prices-back q (omega arith))))
