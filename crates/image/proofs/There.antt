-- Bytes that load: the book and the ring read from them are accepted by rule 10 and by 22, and their image is the bytes. Assumes nothing.
use mathlib.Core.Path.{◌≡◌, refl, sym, ap, ap₂, ◌∙◌}
use mathlib.Core.Bool.{Bool, true, false, not, ◌||◌}
use mathlib.Core.List.{List, [], ◌∷◌, ◌++◌}
use Prim.Native.Nat.{ℕ, ◌+◌, ◌*◌, ◌%◌, ◌^◌, ◌≤◌, ◌<◌}
use native.Mathlib.Omega.{arith}
use lib.IntN.{ℤ, pos, nat_abs}
use lib.ListN.{length, get_or, take, drop, replicate, length-drop, take-append-drop}
use lib.Seq.{take_all, length-take-le, drop-drop}
use Rattle.laws.specs.Base.{pick}
use Rattle.laws.specs.Lists.{total, joined}
use Rattle.laws.specs.Bytes.{number, number_at, encode, decode, size_of, words, price_at}
use Rattle.laws.proofs.Totals.{total_size}
use Rattle.laws.proofs.Lists.{length_run, get_or-tabulate}
use Rattle.laws.proofs.Bytes.{number-below, bytes_drop}
use Rattle.laws.proofs.Fields.{length-decode, encode-decode}
use Rattle.laws.proofs.Joined.{joined_same}
use Rattle.pricing.specs.Holding.{is_energy}
use Rattle.book.specs.declared.record.Book.{Book}
use Rattle.book.specs.Record.{none, markets_of, ring_size, is_linked}
use Rattle.book.proofs.Validities.{Valid}
use Rattle.head.specs.Counted.{market_count, count_at, in_order, counted}
use Rattle.head.specs.Layout.{widths, kind_of, head_size, length_of, values, tail_widths, tail, tail_of, image_of, is_second, from_in, to_in, book_of, head_from}
use Rattle.image.specs.Storing.{prices_ok, kind_tells}
use Rattle.image.specs.Loading.{book_from, ring_from}
use Rattle.image.proofs.Readings.{padded, before, start, prices_at, good_at, windows-whole, sums-whole, bytes_whole, all-good-whole}
use Rattle.image.proofs.Markets.{price-size, count_of, at-below, market_at, prices-are, placed, placed-length, placed_at, placed-used, placed-unused}
use Rattle.head.proofs.Heads.{widths-length, field_at}
use Rattle.head.proofs.Tails.{head-within}
use Rattle.image.proofs.Typed.{Typed}
use Rattle.image.proofs.Books.{anew_with, values-book}
use Rattle.image.proofs.Verdicts.{HeadOk, LoadOk, StoreOk}
use Rattle.image.proofs.Prices.{MarketOk, ok-prices, laid, length-laid}
use Rattle.image.proofs.Anew.{order-anew, valid-anew}

-- ---- the head's bytes
module _ (l : List ℕ) (bytes : (i : ℕ) → get_or l i 0 < 256) (h : HeadOk l) where
  small : (from w : ℕ) → from + w ≤ 148 → number_at l from w < 256 ^ w
  small from w k = number-below l bytes from w (omega (arith, h.long, head-within (is_second l)))

  pub head-there : (from to : ℕ) (s : List ℤ) → encode widths (values (length l) (kind_of (is_second l)) (book_of (decode widths l) from to s)) ≡ take 148 l
  unfolding widths size_of
  head-there from to s =
      let at = field_at l in
      let e : values (length l) (kind_of (is_second l)) (book_of (decode widths l) from to s) ≡ decode widths l =
      values-book (decode widths l) (length-decode widths l) (length l) (kind_of (is_second l)) from to s (sym (at 0 0 4 (omega arith) refl refl ∙ h.size)) (at 1 4 2 (omega arith) refl refl ∙ h.kind)
      (at 6 11 1 (omega arith) refl refl ∙ h.zero) (at 17 26 2 (omega arith) refl refl ∙ h.zeros)
      (record { fits = rw (at 18 28 8 (omega arith) refl refl) (small 28 8 (omega arith)) })
      (record { fits = rw (at 19 36 4 (omega arith) refl refl) (small 36 4 (omega arith)) })
      (record { fits = rw (at 20 40 4 (omega arith) refl refl) (small 40 4 (omega arith)) }) in
      ap (encode widths) e ∙ encode-decode widths l bytes (omega (arith, h.long, head-within (is_second l)))

  -- the four fields of kind 2
  tail-read : is_second l ≡ true → number_at l 148 1 ∷ number_at l 149 1 ∷ 0 ∷ 4294967295 ∷ [] ≡ decode tail_widths (drop 148 l)
  unfolding tail_widths decode number_at
  tail-read t =
      let z = h.tail t in
      rw (drop-drop 1 148 l, drop-drop 1 149 l, drop-drop 2 150 l) (ap₂ (λ (x y : ℕ). number (take 1 (drop 148 l)) ∷ number (take 1 (drop 149 l)) ∷ x ∷ y ∷ []) (sym z.0) (sym z.1))

  pub tail-there : (b : Book) → b.from ≡ from_in l → b.to ≡ to_in l → tail_of (is_second l) b ++ drop (head_size (is_second l)) l ≡ drop 148 l
  unfolding tail tail_widths size_of
  tail-there b p q = rw (p, q) (go (is_second l) refl)
    where
      go : (t : Bool) → is_second l ≡ t
          → pick t (encode tail_widths (pick t (number_at l 148 1) none ∷ pick t (number_at l 149 1) none ∷ 0 ∷ 4294967295 ∷ [])) [] ++ drop (pick t 156 148) l ≡ drop 148 l
      go true e =
          let m : 156 ≤ length l = rw e at h.long in
          ap (λ (vs : List ℕ). encode tail_widths vs ++ drop 156 l) (tail-read e)
          ∙ ap (λ (x : List ℕ). x ++ drop 156 l) (encode-decode tail_widths (drop 148 l) (bytes_drop 148 l bytes) (simp length-drop (omega arith)))
          ∙ ap (λ (x : List ℕ). take 8 (drop 148 l) ++ x) (sym (drop-drop 8 148 l)) ∙ take-append-drop 8 (drop 148 l)
      go false e = refl

-- ---- the book and the ring
-- "adds the sums up anew"
abbrev pub sums_read : List ℕ → List ℤ
sums_read l = placed (head_from l) (λ q. total (prices_at (head_size (is_second l)) (head_from l) l q))

module _ (l : List ℕ) (n : ℕ) (ok : LoadOk l n) where
  abbrev first : ℕ
  first = head_size (is_second l)

  v : Valid (head_from l)
  v = ok.head.book

  pub book-is : book_from l ≡ anew_with (head_from l) (sums_read l)
  unfolding book_from book_of
  book-is = ap (anew_with (head_from l)) (sums-whole first (head_from l) l (replicate 88 (pos 0)) (market_count (head_from l)))

  pub ring-is : ring_from l ≡ laid (head_from l) (prices_at first (head_from l) l)
  unfolding ring_from
  ring-is = windows-whole first (head_from l) l (market_count (head_from l)) (count_of (head_from l) v)

  len : (q : ℕ) → q < market_count (head_from l) → length (prices_at first (head_from l) l q) ≡ count_at (head_from l) q
  len q h = length_run (price_at l (start first (head_from l) q)) (count_at (head_from l) q) 0

  -- the counted prices of the book are those of the image
  pub order_is : (s : List ℤ) (q : ℕ) → q < market_count (head_from l) → in_order (anew_with (head_from l) s) (ring_from l) q ≡ prices_at first (head_from l) l q
  order_is s q h = rw ring-is (order-anew (head_from l) v s (prices_at first (head_from l) l) len q h)

  pub good : (q i : ℕ) → q < market_count (head_from l) → i < count_at (head_from l) q → good_at first (head_from l) l q i ≡ true
  good q i h k = all-good-whole first (head_from l) l (market_count (head_from l)) (omega (arith, prices-are (head_from l) v, ok.good)) q i h k

  -- a sum of at most 2,016 prices in range
  sum-size : (q : ℕ) → q < market_count (head_from l) → nat_abs (total (prices_at first (head_from l) l q)) ≤ 20160000000
  sum-size q h =
      let b = head_from l in
      let each : (k : ℕ) → k < length (prices_at first b l q) → nat_abs (get_or (prices_at first b l q) k (pos 0)) ≤ 10000000 =
      λ k p. rw (get_or-tabulate (price_at l (start first b q)) (count_at b q) k (pos 0) (omega (arith, len q h)))
      (price-size (is_energy (q % markets_of b.services)) (price_at l (start first b q) k) (good q k h (omega (arith, len q h)))) in
      omega (arith, total_size 10000000 (prices_at first b l q) each, len q h, count_of b v q h, v.window)

  -- rule 10 accepts it
  pub valid-from : Valid (book_from l)
  valid-from =
      let b = head_from l in
      let f : ℕ → ℤ = λ q. total (prices_at first b l q) in
      rw book-is
      (valid-anew b v (sums_read l) (λ k h r m. rw (placed-used b v f k r m) (sum-size (market_at b k) (at-below b v k r m))) (λ k h u. placed-unused b v f k h u))

  market-from : (q : ℕ) → q < market_count (head_from l) → MarketOk (anew_with (head_from l) (sums_read l)) (ring_from l) q
  market-from q h =
      let b = head_from l in
      record {
        ranged = λ i k. rw (order_is (sums_read l) q h, get_or-tabulate (price_at l (start first b q)) (count_at b q) i (pos 0) k) (good q i h k);
        summed = ap total (order_is (sums_read l) q h) ∙ sym (placed_at b v (λ p. total (prices_at first b l p)) q h);
      }

  -- and it does not meet 22
  pub prices-from : prices_ok (book_from l) (ring_from l) ≡ true
  prices-from = rw book-is (ok-prices (anew_with (head_from l) (sums_read l)) (ring_from l) market-from)

  -- ---- their image
  pub length_from : length_of (is_second l) (book_from l) ≡ length l
  length_from = rw book-is (sym ok.head.sized)

  pub ring-size-from : length (ring_from l) ≡ ring_size (book_from l).regions (book_from l).services (book_from l).window
  ring-size-from = rw (book-is, ring-is) (length-laid (head_from l) (prices_at first (head_from l) l) len (count_of (head_from l) v))

  -- its ends are the image's
  pub from_is : (book_from l).from ≡ from_in l
  unfolding book_from book_of
  from_is = refl

  pub to_is : (book_from l).to ≡ to_in l
  unfolding book_from book_of
  to_is = refl

  -- an image of kind 1 has no link to tell
  pub tells-from : kind_tells (is_second l) (book_from l) ≡ true
  tells-from = rw from_is (go (is_second l))
    where
      go : (t : Bool) → (t || not (is_linked (pick t (number_at l 148 1) none))) ≡ true
      go true = refl
      go false = refl

  -- it can be stored by each kind that tells it
  pub store_by : (second : Bool) → kind_tells second (book_from l) ≡ true → (room : ℕ) → length_of second (book_from l) ≤ room
      → StoreOk second (book_from l) (ring_from l) room
  store_by second t room h = record { book = valid-from; ring-size = ring-size-from; prices = prices-from; tells = t; room = h }

  pub store-from : (room : ℕ) → length l ≤ room → StoreOk (is_second l) (book_from l) (ring_from l) room
  store-from room h = store_by (is_second l) tells-from room (omega (arith, length_from))

  -- loading leaves nothing to be laid out anew
  pub book-stays : anew_with (book_from l) (book_from l).sums ≡ book_from l
  book-stays = rw book-is refl

  pub ring-stays : laid (book_from l) (in_order (book_from l) (ring_from l)) ≡ ring_from l
  ring-stays =
      rw book-is
      (joined_same _ _ (market_count (head_from l)) 0 (λ q x y. ap (padded (head_from l).window) (order_is (sums_read l) q (omega arith))))
      ∙ sym ring-is

  counted_is : counted (book_from l) (ring_from l) ≡ joined (market_count (head_from l)) 0 (prices_at first (head_from l) l)
  counted_is = rw book-is (joined_same _ _ (market_count (head_from l)) 0 (λ q x y. order_is (sums_read l) q (omega arith)))

  prices-there : ((i : ℕ) → get_or l i 0 < 256) → words (counted (book_from l) (ring_from l)) ≡ drop first l
  prices-there bytes =
      let b = head_from l in
      let sz : length l ≡ first + 4 * before b (market_count b) = omega (arith, ok.head.sized, prices-are b v) in
      ap words counted_is ∙ bytes_whole first b l bytes (market_count b) (omega arith)
      ∙ take_all (4 * before b (market_count b)) (drop first l) (simp length-drop (omega arith))

  head-from : ((i : ℕ) → get_or l i 0 < 256) → encode widths (values (length l) (kind_of (is_second l)) (book_from l)) ≡ take 148 l
  unfolding book_from
  head-from bytes = head-there l bytes ok.head (from_in l) (to_in l) _

  tail_from : ((i : ℕ) → get_or l i 0 < 256) → tail_of (is_second l) (book_from l) ++ drop first l ≡ drop 148 l
  tail_from bytes = tail-there l bytes ok.head (book_from l) from_is to_is

  -- all of it
  pub there : ((i : ℕ) → get_or l i 0 < 256) → image_of (is_second l) (book_from l) (ring_from l) ≡ l
  unfolding image_of
  there bytes =
      ap₂ ◌++◌ (ap (λ (k : ℕ). encode widths (values k (kind_of (is_second l)) (book_from l))) length_from ∙ head-from bytes)
      (ap (λ (x : List ℕ). tail_of (is_second l) (book_from l) ++ x) (prices-there bytes) ∙ tail_from bytes)
      ∙ take-append-drop 148 l

  -- ---- its arrays have their lengths
  arrays : (length (head_from l).parents ≡ 8) × (length (head_from l).counts ≡ 8) × (length (head_from l).marks ≡ 88)
  unfolding book_of
  arrays =
      let vs = decode widths l in
      let k : length vs ≡ 117 = length-decode widths l ∙ widths-length in
      (length-take-le 8 (drop 7 vs) (simp length-drop (omega arith)), length-take-le 8 (drop 21 vs) (simp length-drop (omega arith)), length-take-le 88 (drop 29 vs) (simp length-drop (omega arith)))

  pub typed-from : Typed (book_from l)
  typed-from = rw book-is (record { parents = arrays.0; counts = arrays.1; sums = placed-length (head_from l) v (λ q. total (prices_at first (head_from l) l q)); marks = arrays.2 })
