-- What it is that an image's head, a load and a store are accepted: each verdict is an acceptance exactly where its record holds. Assumes nothing.
use mathlib.Core.Path.{◌≡◌, refl, sym, ap, ◌∙◌}
use mathlib.Core.Bool.{Bool, true, false, ◌&&◌, ◌||◌, not}
use mathlib.Core.List.{List, ◌++◌}
use Prim.Native.Nat.{ℕ, ◌≤◌}
use native.Mathlib.Omega.{arith}
use borrow.Author.Tests.{eqb-true, ltb-false, eq-eqb, le-ltb}
use lib.Dec.{ltb, eqb}
use lib.IntN.{ℤ}
use lib.ListN.{length, drop}
use Rattle.laws.specs.Base.{pick}
use Rattle.laws.specs.Bytes.{number_at}
use Rattle.laws.proofs.Tests.{and_left, and_right, by-test, never}
use Rattle.book.proofs.Passes.{passes, passes-not}
use Rattle.pricing.specs.Verdict.{Verdict, accepted, refused, refused_at}
use Rattle.book.specs.declared.record.Book.{Book}
use Rattle.book.specs.Record.{closed, ring_size, is_accepted}
use Rattle.book.specs.Validity.{valid}
use Rattle.book.proofs.Validities.{Valid, valid-is, is-valid}
use Rattle.head.specs.Counted.{how_many}
use Rattle.head.specs.Layout.{kind_of, head_size, length_of, is_second, head_from, image_of}
use Rattle.head.proofs.Tails.{head-within}
use Rattle.image.specs.Storing.{prices_ok, kind_tells, store_verdict, stored}
use Rattle.image.specs.Loading.{lacks_tail, kind_ok, tail_ok, zeros_ok, fields_ok, head_verdict, first_bad, ring_of, load_verdict, book_from, ring_from, loaded}

-- ---- the head of an image
pub record HeadOk (l : List ℕ) : Type 0 where
  pub long : head_size (is_second l) ≤ length l
  pub size : number_at l 0 4 ≡ length l
  pub kind : number_at l 4 2 ≡ kind_of (is_second l)
  pub zero : number_at l 11 1 ≡ 0
  pub zeros : number_at l 26 2 ≡ 0
  -- of kind 2
  pub tail : is_second l ≡ true → (number_at l 150 2 ≡ 0) × (number_at l 152 4 ≡ 4294967295)
  pub book : Valid (head_from l)
  pub sized : length l ≡ length_of (is_second l) (head_from l)

-- a kind is 1 or 2
kind-is : (k : ℕ) → (eqb k 1 || eqb k 2) ≡ true → k ≡ kind_of (eqb k 2)
kind-is k e = by-test (eqb k 2) (λ t. rw t (eqb-true k 2 t)) (λ t. rw t (eqb-true k 1 (no_other (eqb k 1) (rw t at e))))
  where
    no_other : (a : Bool) → (a || false) ≡ true → a ≡ true
    no_other true q = refl
    no_other false q = q

is-kind : (k : ℕ) → k ≡ kind_of (eqb k 2) → (eqb k 1 || eqb k 2) ≡ true
is-kind k e = by-test (eqb k 2) (λ t. rw t (or-true (eqb k 1))) (λ t. let q : k ≡ 1 = rw t at e in rw (t, eq-eqb k 1 q))
  where
    or-true : (a : Bool) → (a || true) ≡ true
    or-true true = refl
    or-true false = refl

is-tail : (l : List ℕ) → (is_second l ≡ true → (number_at l 150 2 ≡ 0) × (number_at l 152 4 ≡ 4294967295)) → tail_ok l ≡ true
is-tail l h = by-test (is_second l) (λ t. rw (t, eq-eqb _ _ (h t).0, eq-eqb _ _ (h t).1)) (λ t. rw t)

-- the verdict on a head, of its six tests
abbrev pub heads : Bool → Bool → Bool → Bool → Bool → Bool → Verdict
heads short size lacks kind fields total =
    pick short (refused 24)
    (pick (not size) (refused 24)
    (pick lacks (refused 24)
    (pick (not kind) (refused 25)
    (pick (not fields) (refused 26)
    (pick (not total) (refused 27)
    accepted)))))

module _ (l : List ℕ) where
  pub head-tests : heads (ltb (length l) 148) (eqb (number_at l 0 4) (length l)) (lacks_tail l) (kind_ok l) (fields_ok l) (eqb (length l) (length_of (is_second l) (head_from l))) ≡ head_verdict l
  unfolding head_verdict
  head-tests = refl

  -- before the kind's tail is looked at
  pub second-long : lacks_tail l ≡ false → is_second l ≡ true → 156 ≤ length l
  second-long e t = let m : head_size (is_second l) ≤ length l = ltb-false (length l) (head_size (is_second l)) e in rw t at m

  pub head_ok : is_accepted (head_verdict l) ≡ true → HeadOk l
  head_ok e =
      let a = passes (ltb (length l) 148) (refused 24) _ refl (ap is_accepted head-tests ∙ e) in
      let b = passes-not (eqb (number_at l 0 4) (length l)) (refused 24) _ refl a.1 in
      let s = passes (lacks_tail l) (refused 24) _ refl b.1 in
      let c = passes-not (kind_ok l) (refused 25) _ refl s.1 in
      let d = passes-not (fields_ok l) (refused 26) _ refl c.1 in
      let f = passes-not (eqb (length l) (length_of (is_second l) (head_from l))) (refused 27) _ refl d.1 in
      let z = and_left (zeros_ok l) (valid (head_from l)) d.0 in
      let y = and_left (eqb (number_at l 11 1) 0 && eqb (number_at l 26 2) 0) (tail_ok l) z in
      record {
        long = ltb-false (length l) (head_size (is_second l)) s.0;
        size = eqb-true (number_at l 0 4) (length l) b.0;
        kind = kind-is (number_at l 4 2) c.0;
        zero = eqb-true (number_at l 11 1) 0 (and_left (eqb (number_at l 11 1) 0) (eqb (number_at l 26 2) 0) y);
        zeros = eqb-true (number_at l 26 2) 0 (and_right (eqb (number_at l 11 1) 0) (eqb (number_at l 26 2) 0) y);
        tail = λ t. let q = rw t at (and_right (eqb (number_at l 11 1) 0 && eqb (number_at l 26 2) 0) (tail_ok l) z) in
            (eqb-true _ _ (and_left (eqb (number_at l 150 2) 0) (eqb (number_at l 152 4) 4294967295) q), eqb-true _ _ (and_right (eqb (number_at l 150 2) 0) (eqb (number_at l 152 4) 4294967295) q));
        book = valid-is (head_from l) (and_right (zeros_ok l) (valid (head_from l)) d.0);
        sized = eqb-true (length l) (length_of (is_second l) (head_from l)) f.0;
      }

  fields-are : HeadOk l → fields_ok l ≡ true
  fields-are h =
      rw (
        eq-eqb (number_at l 11 1) 0 h.zero,
        eq-eqb (number_at l 26 2) 0 h.zeros,
        is-tail l h.tail,
        is-valid (head_from l) h.book,
      )

  pub ok-head : HeadOk l → head_verdict l ≡ accepted
  ok-head h =
      sym head-tests
      ∙ rw (
        le-ltb (length l) 148 (omega (arith, h.long, head-within (is_second l))),
        eq-eqb (number_at l 0 4) (length l) h.size,
        le-ltb (length l) (head_size (is_second l)) h.long,
        is-kind (number_at l 4 2) h.kind,
        fields-are h,
        eq-eqb (length l) (length_of (is_second l) (head_from l)) h.sized,
      ) refl

-- ---- a load into a ring of n places
pub record LoadOk (l : List ℕ) (n : ℕ) : Type 0 where
  pub head : HeadOk l
  pub ring : n ≡ ring_of (head_from l)
  pub good : how_many (head_from l) ≤ first_bad l

module _ (l : List ℕ) (n : ℕ) where
  pub load_ok : is_accepted (load_verdict l n) ≡ true → LoadOk l n
  unfolding load_verdict
  load_ok e =
      by-test (is_accepted (head_verdict l))
      (λ h. let a = passes-not (eqb n (ring_of (head_from l))) (refused 11) _ refl (rw h at e) in
      let b = passes (ltb (first_bad l) (how_many (head_from l))) (refused_at 16 (first_bad l)) _ refl a.1 in
      record { head = head_ok l h; ring = eqb-true n (ring_of (head_from l)) a.0; good = ltb-false (first_bad l) (how_many (head_from l)) b.0 })
      (λ h. never _ (rw h at e) h)

  pub ok_load : LoadOk l n → load_verdict l n ≡ accepted
  unfolding load_verdict
  ok_load h = rw (ok-head l h.head, eq-eqb n (ring_of (head_from l)) h.ring, le-ltb (first_bad l) (how_many (head_from l)) h.good)

module _ (l : List ℕ) (ring : List ℤ) where
  pub loaded-ok : is_accepted (loaded l ring).verdict ≡ true → LoadOk l (length ring)
  unfolding loaded
  loaded-ok e = by-test (is_accepted (load_verdict l (length ring))) (λ h. load_ok l (length ring) h) (λ h. never _ (rw h at e) h)

  pub ok-loaded : LoadOk l (length ring) → loaded l ring ≡ record { verdict = accepted; book = book_from l; ring = ring_from l }
  unfolding loaded
  ok-loaded h = rw (ok_load l (length ring) h)

  -- a good head, and a ring of another length
  pub other-ring : HeadOk l → eqb (length ring) (ring_of (head_from l)) ≡ false → loaded l ring ≡ record { verdict = refused 11; book = closed; ring = ring }
  unfolding loaded load_verdict
  other-ring h e = rw (ok-head l h, e)

-- ---- a store into a buffer of n bytes
pub record StoreOk (second : Bool) (b : Book) (ring : List ℤ) (n : ℕ) : Type 0 where
  pub book : Valid b
  pub ring-size : length ring ≡ ring_size b.regions b.services b.window
  pub prices : prices_ok b ring ≡ true
  pub tells : kind_tells second b ≡ true
  pub room : length_of second b ≤ n

-- the verdict on a store, of its five tests
abbrev pub stores : Bool → Bool → Bool → Bool → Bool → Verdict
stores book ring prices tells short =
    pick (not book) (refused 10)
    (pick (not ring) (refused 11)
    (pick (not prices) (refused 22)
    (pick (not tells) (refused 47)
    (pick short (refused 23)
    accepted))))

module _ (second : Bool) (b : Book) (ring : List ℤ) (n : ℕ) where
  abbrev size : ℕ
  size = ring_size b.regions b.services b.window

  pub store-tests : stores (valid b) (eqb (length ring) size) (prices_ok b ring) (kind_tells second b) (ltb n (length_of second b)) ≡ store_verdict second b ring n
  unfolding store_verdict
  store-tests = refl

  pub store_ok : is_accepted (store_verdict second b ring n) ≡ true → StoreOk second b ring n
  store_ok e =
      let p = passes-not (valid b) (refused 10) _ refl (ap is_accepted store-tests ∙ e) in
      let q = passes-not (eqb (length ring) size) (refused 11) _ refl p.1 in
      let r = passes-not (prices_ok b ring) (refused 22) _ refl q.1 in
      let t = passes-not (kind_tells second b) (refused 47) _ refl r.1 in
      let s = passes (ltb n (length_of second b)) (refused 23) _ refl t.1 in
      record {
        book = valid-is b p.0;
        ring-size = eqb-true (length ring) size q.0;
        prices = r.0;
        tells = t.0;
        room = ltb-false n (length_of second b) s.0;
      }

  pub ok-store : StoreOk second b ring n → store_verdict second b ring n ≡ accepted
  ok-store h =
      sym store-tests
      ∙ rw (is-valid b h.book, eq-eqb (length ring) size h.ring-size, h.prices, h.tells, le-ltb n (length_of second b) h.room) refl

module _ (second : Bool) (b : Book) (ring : List ℤ) (buffer : List ℕ) where
  pub stored_ok : is_accepted (stored second b ring buffer).verdict ≡ true → StoreOk second b ring (length buffer)
  unfolding stored
  stored_ok e = by-test (is_accepted (store_verdict second b ring (length buffer))) (λ h. store_ok second b ring (length buffer) h) (λ h. never _ (rw h at e) h)

  pub ok_stored : StoreOk second b ring (length buffer)
      → stored second b ring buffer ≡ record { verdict = accepted; length = length_of second b; book = b; buffer = image_of second b ring ++ drop (length_of second b) buffer }
  unfolding stored
  ok_stored h = rw (ok-store second b ring (length buffer) h)
