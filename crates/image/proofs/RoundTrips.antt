-- The round trips of an image: the statements to read first, each with its words. `There` and `Back` have the proofs. A call is
-- accepted where its verdict's number is 0. Assumes nothing.
use mathlib.Core.Path.{◌≡◌, refl, sym, ◌∙◌}
use mathlib.Core.Bool.{Bool, true, false}
use mathlib.Core.List.{List, [], ◌∷◌, ◌++◌}
use mathlib.Core.Logic.{◌⊎◌}
use Prim.Native.Nat.{ℕ, ◌≤◌, ◌<◌}
use lib.Dec.{eqb}
use lib.IntN.{ℤ}
use lib.ListN.{length, get_or, take, drop}
use lib.Seq.{take_at}
use Rattle.laws.proofs.Lists.{length_run}
use Rattle.pricing.specs.Verdict.{accepted, refused}
use Rattle.book.specs.declared.record.Book.{Book}
use Rattle.book.specs.Record.{closed, ring_size, has_link, is_accepted}
use Rattle.book.specs.Validity.{valid}
use Rattle.book_calls.specs.Report.{report_of}
use Rattle.book.proofs.Validities.{is-valid}
use Rattle.head.specs.Counted.{count_at, in_order}
use Rattle.head.specs.Layout.{kind_of, length_of, is_second, head_from, image_of}
use Rattle.image.specs.Storing.{prices_ok, kind_tells, stored}
use Rattle.image.specs.Loading.{ring_of, load_verdict, book_from, ring_from, loaded, checked}
use Rattle.image.specs.Same.{Same}
use Rattle.image.proofs.Typed.{Typed}
use Rattle.image.proofs.Books.{anew_with}
use Rattle.image.proofs.Markets.{count_of}
use Rattle.image.proofs.Verdicts.{StoreOk, LoadOk, loaded-ok, ok-loaded, stored_ok, ok_stored, other-ring}
use Rattle.image.proofs.Prices.{laid, length-laid}
use Rattle.image.proofs.Anew.{order-anew, valid-anew}
use Rattle.image.proofs.There.{valid-from, prices-from, ring-size-from, typed-from, length_from, from_is, store_by, store-from, book-stays, ring-stays, there}
use Rattle.image.proofs.Lengths.{head-length, length-image}
use Rattle.image.proofs.Back.{load-back, book-back, ring-back, head-is}
use Rattle.image.proofs.Sameness as sameness
use Rattle.image.proofs.Numbers as numbers
use Rattle.image.proofs.Numbers.{OneOf}

-- ---- 1. an image that was stored loads to the same book
-- a book as loading leaves it: the book, but that the next place of every region is that of a window whose oldest price is
-- first (its sums are the stored book's own: 22 says that they are the totals of the counted prices)
abbrev pub anew : Book → Book
anew b = anew_with b b.sums

-- and its ring: window after window the counted prices, oldest first, and zeros behind
abbrev pub relaid : Book → List ℤ → List ℤ
relaid b ring = laid b (in_order b ring)

module _ (second : Bool) (b : Book) (ring : List ℤ) (buffer : List ℕ) (t : Typed b) (e : is_accepted (stored second b ring buffer).verdict ≡ true) where
  ok : StoreOk second b ring (length buffer)
  ok = stored_ok second b ring buffer e

  -- the image's bytes are the first of the buffer, as many as the answer says
  pub image-bytes : take (length_of second b) (stored second b ring buffer).buffer ≡ image_of second b ring
  image-bytes = rw (ok_stored second b ring buffer ok) (take_at (image_of second b ring) (drop (length_of second b) buffer) (length_of second b) (length-image second b ring ok.book (head-length (length_of second b) (kind_of second) b t)))

  pub image-length : (stored second b ring buffer).length ≡ length_of second b
  image-length = rw (ok_stored second b ring buffer ok)

  -- rule 10 accepts the book as loading leaves it, and its arrays and ring have their lengths
  pub anew-valid : valid (anew b) ≡ true
  anew-valid = is-valid (anew b) (valid-anew b ok.book b.sums ok.book.sum ok.book.no-sum)

  pub anew-typed : Typed (anew b)
  anew-typed = record { parents = t.parents; counts = t.counts; sums = t.sums; marks = t.marks }

  pub relaid-length : length (relaid b ring) ≡ ring_size b.regions b.services b.window
  relaid-length = length-laid b (in_order b ring) (λ q h. length_run _ (count_at b q) 0) (count_of b ok.book)

  -- and it is the same book
  pub anew-same : Same b ring (anew b) (relaid b ring)
  anew-same = record {
    regions = refl;
    services = refl;
    window = refl;
    halves = refl;
    parents = refl;
    from = refl;
    to = refl;
    threshold = refl;
    cap = refl;
    floor = refl;
    entries = refl;
    position = refl;
    counts = refl;
    sums = refl;
    marks = refl;
    prices = λ q h. sym (order-anew b ok.book b.sums (in_order b ring) (λ p k. length_run _ (count_at b p) 0) q h);
    ring-size = ok.ring-size;
    ring-size' = relaid-length;
    accepted = is-valid b ok.book;
    accepted' = anew-valid;
  }

  -- A book whose store is accepted, loaded from exactly its image's bytes into any ring of its length: accepted, and the book and
  -- the ring are those two, whatever the ring held
  pub load-of-store : (g : List ℤ) → length g ≡ ring_size b.regions b.services b.window
      → loaded (take (length_of second b) (stored second b ring buffer).buffer) g ≡ record { verdict = accepted; book = anew b; ring = relaid b ring }
  load-of-store g h =
      let n = length buffer in
      rw (image-bytes, ok-loaded (image_of second b ring) g (load-back second b ring n t ok (length g) h), book-back second b ring n t ok, ring-back second b ring n t ok)

  -- the same from as many bytes as the answer says
  pub reload : (g : List ℤ) → length g ≡ ring_size b.regions b.services b.window
      → loaded (take (stored second b ring buffer).length (stored second b ring buffer).buffer) g ≡ record { verdict = accepted; book = anew b; ring = relaid b ring }
  reload g h = rw image-length (load-of-store g h)

  -- into a ring of another length: 11
  pub load-other-ring : (g : List ℤ) → eqb (length g) (ring_size b.regions b.services b.window) ≡ false
      → loaded (take (length_of second b) (stored second b ring buffer).buffer) g ≡ record { verdict = refused 11; book = closed; ring = g }
  load-other-ring g h =
      let n = length buffer in
      rw image-bytes
      (other-ring (image_of second b ring) g (load-back second b ring n t ok (ring_size b.regions b.services b.window) refl).head (rw (head-is second b ring n t ok) h))

  pub stored-loads-same : (g : List ℤ) → length g ≡ ring_size b.regions b.services b.window
      → Same b ring (loaded (take (length_of second b) (stored second b ring buffer).buffer) g).book (loaded (take (length_of second b) (stored second b ring buffer).buffer) g).ring
  stored-loads-same g h = rw (load-of-store g h) anew-same

-- ---- 2. and 3., of bytes whose load into some ring is accepted
module _ (bytes : List ℕ) (ring : List ℤ) (e : is_accepted (loaded bytes ring).verdict ≡ true) where
  good : LoadOk bytes (length ring)
  good = loaded-ok bytes ring e

  pub loaded-is : loaded bytes ring ≡ record { verdict = accepted; book = book_from bytes; ring = ring_from bytes }
  loaded-is = ok-loaded bytes ring good

  -- 2. an image that loads stores to the same bytes: into every buffer that is long enough, and the bytes after it stay
  pub store-of-load : ((i : ℕ) → get_or bytes i 0 < 256) → (buffer : List ℕ) → length bytes ≤ length buffer
      → stored (is_second bytes) (book_from bytes) (ring_from bytes) buffer
      ≡ record { verdict = accepted; length = length bytes; book = book_from bytes; buffer = bytes ++ drop (length bytes) buffer }
  store-of-load small buffer h =
      ok_stored (is_second bytes) (book_from bytes) (ring_from bytes) buffer (store-from bytes (length ring) good (length buffer) h)
      ∙ rw (length_from bytes (length ring) good)
      (λ i. record {
        verdict = accepted;
        length = length bytes;
        book = book_from bytes;
        buffer = there bytes (length ring) good small i ++ drop (length bytes) buffer;
      })

  -- a book loaded from kind 1 has no link, so that it "can be stored back to the very kind 1 image": 47 does not occur
  pub loaded-first : is_second bytes ≡ false → has_link (book_from bytes) ≡ false
  loaded-first k = rw (from_is bytes (length ring) good, k)

  -- stored by either kind that tells it, its own or the other, it loads to the very same book and ring: so what an image of kind 2
  -- has without the link can be handed on by kind 1, and what one of kind 1 has by kind 2
  pub by-either-kind : (second : Bool) → kind_tells second (book_from bytes) ≡ true → (buffer : List ℕ)
      → length_of second (book_from bytes) ≤ length buffer
      → (g : List ℤ) → length g ≡ ring_size (book_from bytes).regions (book_from bytes).services (book_from bytes).window
      → loaded (take (length_of second (book_from bytes)) (stored second (book_from bytes) (ring_from bytes) buffer).buffer) g ≡ loaded bytes ring
  by-either-kind second t buffer h g k =
      let n = length ring in
      let s = ok_stored second (book_from bytes) (ring_from bytes) buffer (store_by bytes n good second t (length buffer) h) in
      load-of-store second (book_from bytes) (ring_from bytes) buffer (typed-from bytes n good) (rw s refl) g k
      ∙ (λ i. record { verdict = accepted; book = book-stays bytes n good i; ring = ring-stays bytes n good i })
      ∙ sym loaded-is

  -- 3. a book just loaded is accepted by rule 10, its ring has its length, it never meets 22, and its arrays have their lengths
  pub loaded-valid : valid (book_from bytes) ≡ true
  loaded-valid = is-valid (book_from bytes) (valid-from bytes (length ring) good)

  pub loaded-ring : length (ring_from bytes) ≡ ring_size (book_from bytes).regions (book_from bytes).services (book_from bytes).window
  loaded-ring = ring-size-from bytes (length ring) good

  pub loaded-prices : prices_ok (book_from bytes) (ring_from bytes) ≡ true
  loaded-prices = prices-from bytes (length ring) good

  pub loaded-typed : Typed (book_from bytes)
  loaded-typed = typed-from bytes (length ring) good

-- ---- 4. "Two books are the same if ..": an equivalence, and same books, if rule 10 accepts both, are told apart by no report
-- and by no store (but for the book that it hands back). Reflexive on books that rule 10 accepts, with rings of their length: only
-- such are the same as any
pub same-reflexive : (b : Book) (ring : List ℤ) → valid b ≡ true
    → length ring ≡ ring_size b.regions b.services b.window → Same b ring b ring
same-reflexive = sameness.same_refl

module _ {a b : Book} {r s : List ℤ} (p : Same a r b s) where
  pub same-symmetric : Same b s a r
  same-symmetric = sameness.same-sym p

  pub same-transitive : {c : Book} {t : List ℤ} → Same b s c t → Same a r c t
  same-transitive = sameness.same-trans p

  module _ (v : valid a ≡ true) (w : valid b ≡ true) where
    pub same-reports : (region market : ℕ) → report_of a region market ≡ report_of b region market
    same-reports = sameness.same-report p v w

    pub same-stores : length r ≡ ring_size a.regions a.services a.window → length s ≡ ring_size b.regions b.services b.window → (second : Bool) (buffer : List ℕ)
        → stored second b s buffer ≡ record { verdict = (stored second a r buffer).verdict; length = (stored second a r buffer).length; book = b; buffer = (stored second a r buffer).buffer }
    same-stores x y second = sameness.same-stored second p v w x y

-- ---- 5. the image check: "0 or the load's number, 11 left out"
-- it is the load's number with every ring of the right length; with any ring the load's number is it or 11
pub check-is-load : (bytes : List ℕ) (n : ℕ) → n ≡ ring_of (head_from bytes) → checked bytes ≡ (load_verdict bytes n).number
check-is-load = numbers.check-is

pub load-is-check : (bytes : List ℕ) (n : ℕ) → ((load_verdict bytes n).number ≡ checked bytes) ⊎ ((load_verdict bytes n).number ≡ 11)
load-is-check = numbers.check-or-11

pub load-numbers : (bytes : List ℕ) (n : ℕ) → OneOf (load_verdict bytes n).number (24 ∷ 25 ∷ 26 ∷ 27 ∷ 11 ∷ 16 ∷ 0 ∷ [])
load-numbers = numbers.load-number

pub check-numbers : (bytes : List ℕ) → OneOf (checked bytes) (24 ∷ 25 ∷ 26 ∷ 27 ∷ 16 ∷ 0 ∷ [])
check-numbers = numbers.check-number
