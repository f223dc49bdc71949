-- The outcome of a store, a load and the image check, by the way that each takes: what its definition comes to where its tests
-- are decided. Assumes nothing.
use mathlib.Core.Path.{◌≡◌, refl, sym, ap, ◌∙◌}
use mathlib.Core.Bool.{Bool, true, false}
use mathlib.Core.List.{List, ◌++◌, append_assoc}
use Prim.Native.Nat.{ℕ, ◌+◌, ◌*◌, ◌≤◌, ◌<◌}
use native.Mathlib.Omega.{arith}
use borrow.Author.Tests.{lt-ltb, le-ltb, eq-eqb, ne_eqb}
use lib.IntN.{ℤ, pos}
use lib.ListN.{length, drop, replicate, length-append}
use lib.Seq.{sets}
use Rattle.laws.specs.Bytes.{number_at, encode, words}
use Rattle.laws.proofs.Bytes.{sets-append, sets-front}
use Rattle.pricing.specs.Verdict.{accepted, refused}
use Rattle.book.specs.declared.record.Book.{Book}
use Rattle.book.specs.declared.record.Refusal.{Refusal}
use Rattle.std.specs.Prelude.{Result, Ok, Err}
use Rattle.book.specs.Record.{closed, verdict, is_accepted}
use Rattle.book.specs.Validity.{valid}
use Rattle.book.proofs.Validities.{Valid, is-valid}
use Rattle.book.proofs.Ways.{is-accepted, is-refused}
use Rattle.head.specs.Counted.{market_count, counted, how_many}
use Rattle.head.specs.Layout.{widths, kind_of, head_size, length_of, values, tail_of, front_of, image_of, is_second, book_of, head_from}
use Rattle.head.proofs.Tails.{head-within}
use Rattle.image.specs.Storing.{prices_ok, kind_tells, store_verdict, stored}
use Rattle.image.specs.Storing as store
use Rattle.image.specs.Loading.{lacks_tail, kind_ok, fields_ok, head_verdict, ring_of, load_verdict, checked, windows_from, sums_from, book_from, ring_from, loaded}
use Rattle.image.specs.Loading as load
use Rattle.image.specs.Working.{price_verdict}
use Rattle.image.proofs.Lengths.{front_length, length-image}
use Rattle.image.proofs.Verdicts.{head-tests, head_ok, LoadOk, load_ok, ok-loaded, StoreOk, store-tests, store_ok, ok_stored}

-- ---- the head of an image
module _ (l : List ℕ) where
  pub head-short : length l < 148 → refused 24 ≡ head_verdict l
  head-short a = (rw (lt-ltb (length l) 148 a) refl) ∙ head-tests l

  module _ (a : 148 ≤ length l) where
    pub head-24 : (number_at l 0 4 ≡ length l → ⊥) → refused 24 ≡ head_verdict l
    head-24 b = (rw (le-ltb (length l) 148 a, ne_eqb (number_at l 0 4) (length l) b) refl) ∙ head-tests l

    module _ (b : number_at l 0 4 ≡ length l) where
      pub head-second : lacks_tail l ≡ true → refused 24 ≡ head_verdict l
      head-second s = (rw (le-ltb (length l) 148 a, eq-eqb (number_at l 0 4) (length l) b, s) refl) ∙ head-tests l

      module _ (s : lacks_tail l ≡ false) where
        pub head-25 : kind_ok l ≡ false → refused 25 ≡ head_verdict l
        head-25 c = (rw (le-ltb (length l) 148 a, eq-eqb (number_at l 0 4) (length l) b, s, c) refl) ∙ head-tests l

        module _ (c : kind_ok l ≡ true) where
          pub head-26 : fields_ok l ≡ false → refused 26 ≡ head_verdict l
          head-26 d = (rw (le-ltb (length l) 148 a, eq-eqb (number_at l 0 4) (length l) b, s, c, d) refl) ∙ head-tests l

          module _ (d : fields_ok l ≡ true) where
            pub head-27 : (length l ≡ length_of (is_second l) (head_from l) → ⊥) → refused 27 ≡ head_verdict l
            head-27 e = (rw (le-ltb (length l) 148 a, eq-eqb (number_at l 0 4) (length l) b, s, c, d, ne_eqb (length l) (length_of (is_second l) (head_from l)) e) refl) ∙ head-tests l

            pub head-0 : length l ≡ length_of (is_second l) (head_from l) → accepted ≡ head_verdict l
            head-0 e = (rw (le-ltb (length l) 148 a, eq-eqb (number_at l 0 4) (length l) b, s, c, d, eq-eqb (length l) (length_of (is_second l) (head_from l)) e) refl) ∙ head-tests l

-- ---- a load into a ring of n places
module _ (l : List ℕ) (n : ℕ) where
  pub load-head : is_accepted (head_verdict l) ≡ false → head_verdict l ≡ load_verdict l n
  unfolding load_verdict
  load-head a = rw a

  -- the book that the head says, read before the ring is looked at
  module _ (a : head_verdict l ≡ accepted) (b : Book) (e : b ≡ head_from l) where
    pub load-11 : (n ≡ ring_of b → ⊥) → refused 11 ≡ load_verdict l n
    unfolding load_verdict
    load-11 q = rw (a, ne_eqb n (ring_of (head_from l)) (λ r. q (r ∙ sym (ap ring_of e))))

    pub load-prices : n ≡ ring_of b → (at : ℕ) → at ≡ head_size (is_second l) → price_verdict b l at ≡ load_verdict l n
    unfolding load_verdict
    load-prices q at p = rw (a, eq-eqb n (ring_of (head_from l)) (q ∙ ap ring_of e), e, p)

-- a good head is long enough to be read
pub head-long : (l : List ℕ) → head_verdict l ≡ accepted → 148 ≤ length l
head-long l a = omega (arith, (head_ok l (ap is_accepted a)).long, head-within (is_second l))

-- what a good head says of its book, for the walk over the image's prices
pub head-ready : (l : List ℕ) → head_verdict l ≡ accepted → (b : Book) → b ≡ head_from l → (at : ℕ) → at ≡ head_size (is_second l) → (valid b ≡ true) × (at + 4 * how_many b ≤ length l)
head-ready l a b e at p =
    let h = head_ok l (ap is_accepted a) in
    (ap valid e ∙ is-valid (head_from l) h.book, omega (arith, h.sized, ap how_many e))

-- and of kind 2 the tail too
pub head-tailed : (l : List ℕ) → head_verdict l ≡ accepted → (148 ≤ length l) × (is_second l ≡ true → 156 ≤ length l)
head-tailed l a = (head-long l a, λ t. let m = (head_ok l (ap is_accepted a)).long in rw t at m)

-- ---- the image check
pub check-says : (l : List ℕ) → (load_verdict l (ring_of (head_from l))).number ≡ checked l
unfolding checked
check-says l = refl

-- ---- the outcome of a load
module _ (l : List ℕ) (g : List ℤ) (a : Result Unit Refusal) (h : verdict a ≡ load_verdict l (length g)) where
  pub loaded-refused : (b : Book) (r : Refusal) → a ≡ Err r → b ≡ closed → load.outcome (record { book = b; answer = a }) g ≡ loaded l g
  unfolding loaded
  loaded-refused b r e q = rw ((is-refused a (load_verdict l (length g)) h r e).1, h, q)

  pub load_is : a ≡ Ok tt → LoadOk l (length g)
  load_is e = load_ok l (length g) (ap is_accepted (is-accepted a (load_verdict l (length g)) h tt e))

  pub loaded-accepted : a ≡ Ok tt → (b : Book) (s g' : List ℤ) (at : ℕ) → b ≡ head_from l → at ≡ head_size (is_second l)
      → s ≡ sums_from b l (market_count b) 0 at (replicate 88 (pos 0)) → g' ≡ windows_from b l (market_count b) 0 at
      → load.outcome (record {
        book = record {
          regions = b.regions;
          services = b.services;
          window = b.window;
          halves = b.halves;
          parents = b.parents;
          from = b.from;
          to = b.to;
          threshold = b.threshold;
          cap = b.cap;
          floor = b.floor;
          entries = b.entries;
          position = b.position;
          counts = b.counts;
          nexts = b.nexts;
          sums = s;
          marks = b.marks;
        };
        answer = a;
      }) g' ≡ loaded l g
  unfolding book_from ring_from book_of
  loaded-accepted e b s g' at q r p w = rw (ok-loaded l g (load_is e), e, p, w, r, q)

-- ---- a store into a buffer of n bytes
module _ (second : Bool) (b : Book) (ring : List ℤ) (n : ℕ) where
  pub store-10 : valid b ≡ false → refused 10 ≡ store_verdict second b ring n
  store-10 p = (rw p refl) ∙ store-tests second b ring n

  module _ (p : valid b ≡ true) where
    pub store-11 : (length ring ≡ ring_of b → ⊥) → refused 11 ≡ store_verdict second b ring n
    store-11 q = (rw (p, ne_eqb (length ring) (ring_of b) q) refl) ∙ store-tests second b ring n

    module _ (q : length ring ≡ ring_of b) where
      pub store-22 : prices_ok b ring ≡ false → refused 22 ≡ store_verdict second b ring n
      store-22 r = (rw (p, eq-eqb (length ring) (ring_of b) q, r) refl) ∙ store-tests second b ring n

      module _ (r : prices_ok b ring ≡ true) where
        pub store-47 : kind_tells second b ≡ false → refused 47 ≡ store_verdict second b ring n
        store-47 k = (rw (p, eq-eqb (length ring) (ring_of b) q, r, k) refl) ∙ store-tests second b ring n

        module _ (k : kind_tells second b ≡ true) where
          pub store-23 : n < length_of second b → refused 23 ≡ store_verdict second b ring n
          store-23 s = (rw (p, eq-eqb (length ring) (ring_of b) q, r, k, lt-ltb n (length_of second b) s) refl) ∙ store-tests second b ring n

          pub store-0 : length_of second b ≤ n → accepted ≡ store_verdict second b ring n
          store-0 s = (rw (p, eq-eqb (length ring) (ring_of b) q, r, k, le-ltb n (length_of second b) s) refl) ∙ store-tests second b ring n

-- ---- the outcome of a store: what stands before the prices, and the prices, are the image
image-is : (second : Bool) (b : Book) (ring : List ℤ) (d : List ℕ) → Valid b → length (encode widths (values (length_of second b) (kind_of second) b)) ≡ 148 → length_of second b ≤ length d
    → sets (sets d 0 (front_of (length_of second b) second b)) (head_size second) (words (counted b ring)) ≡ image_of second b ring ++ drop (length_of second b) d
unfolding image_of
image-is second b ring d v k h =
    let head = encode widths (values (length_of second b) (kind_of second) b) in
    let tail = tail_of second b in
    let rest = words (counted b ring) in
    let n = length-image second b ring v k in
    let f : 0 + length (head ++ tail) ≡ head_size second = omega (arith, length-append head tail, front_length second b) in
    ap (λ (i : ℕ). sets (sets d 0 (head ++ tail)) i rest) (sym f) ∙ sym (sets-append d 0 (head ++ tail) rest)
    ∙ ap (sets d 0) (append_assoc head tail rest) ∙ sets-front d (head ++ (tail ++ rest)) (omega arith)
    ∙ ap (λ (i : ℕ). (head ++ (tail ++ rest)) ++ drop i d) n

module _ (second : Bool) (b : Book) (ring : List ℤ) (d : List ℕ) (a : Result Unit Refusal) (h : verdict a ≡ store_verdict second b ring (length d)) where
  pub stored_refused : (r : Refusal) → a ≡ Err r → store.outcome (record { book = b; answer = Err r }) d ≡ stored second b ring d
  unfolding stored
  stored_refused r e = let w = is-refused a (store_verdict second b ring (length d)) h r e in rw (w.1, w.0)

  pub store_is : a ≡ Ok tt → StoreOk second b ring (length d)
  store_is e = store_ok second b ring (length d) (ap is_accepted (is-accepted a (store_verdict second b ring (length d)) h tt e))

  pub stored-accepted : a ≡ Ok tt → (n at : ℕ) (d₁ d₂ : List ℕ) → n ≡ length_of second b → at ≡ head_size second → d₁ ≡ sets d 0 (front_of n second b) → length (encode widths (values n (kind_of second) b)) ≡ 148
      → d₂ ≡ sets d₁ at (words (counted b ring)) → store.outcome (record { book = b; answer = Ok n }) d₂ ≡ stored second b ring d
  stored-accepted e n at d₁ d₂ m p f k g =
      let ok = store_is e in
      rw (ok_stored second b ring d ok, g, p, f, m, image-is second b ring d ok.book (rw m at k) ok.room)
