-- A restart, of a book that agrees with a ledger: stored and loaded it agrees still, and it is refused where the ledger says. Assumes nothing.
use mathlib.Core.Path.{◌≡◌, refl, sym, ap, ap₂, ◌∙◌, subst}
use mathlib.Core.Bool.{Bool, true, false, not, ◌||◌}
use mathlib.Core.List.{List}
use mathlib.Core.Logic.{⊎_elim}
use Prim.Native.Nat.{ℕ, zero, suc, ◌+◌, ◌≤◌, ◌<◌}
use native.Mathlib.Omega.{arith}
use borrow.Author.Tests.{ltb-false, eq-eqb, eqb-true}
use lib.Dec.{eqb, ltb}
use lib.IntN.{ℤ}
use lib.ListN.{length, get_or, take}
use Rattle.laws.specs.Base.{pick}
use Rattle.laws.specs.Lists.{total, sum_from}
use Rattle.laws.proofs.Tests.{by-test, lt-or-ge}
use Rattle.laws.proofs.Lists.{flat-lt, length_run}
use Rattle.pricing.specs.Verdict.{accepted, refused}
use Rattle.book.specs.declared.record.Book.{Book}
use Rattle.book.specs.Record.{closed, markets_of, ring_size, is_accepted, is_linked}
use Rattle.book.proofs.Validities.{Valid, valid-is}
use Rattle.head.specs.Counted.{in_order}
use Rattle.head.specs.Layout.{length_of}
use Rattle.image.specs.Storing.{kind_tells, store_verdict, stored}
use Rattle.image.specs.Loading as Loading
use Rattle.image.specs.Loading.{loaded}
use Rattle.image.proofs.Typed.{Typed}
use Rattle.image.proofs.Verdicts.{StoreOk, ok_stored}
use Rattle.image.proofs.RoundTrips.{anew, relaid, image-length, reload, load-other-ring, anew-same, anew-valid, anew-typed, relaid-length}
use Rattle.ledger.specs.Calls.{restart, restarted, Step}
use Rattle.ledger.specs.Ledger as Ledger
use Rattle.ledger.specs.Ledger.{Ledger, taken, last_prices, counts_to, image_length, restart_verdict, allowed}
use Rattle.ledger.specs.Book as Book
use Rattle.ledger.specs.Book.{Held}
use Rattle.ledger.proofs.Joining.{Every}
use Rattle.ledger.proofs.Sounds.{market_at}
use Rattle.ledger.proofs.Steps.{order-length}
use Rattle.ledger.proofs.Ranges.{Ranged, Prices, prices-is, is-prices}
use Rattle.ledger.proofs.Agrees.{Agree}

-- ---- sums of counts, from the front and from the back
sum-snoc : (n i : ℕ) (f : ℕ → ℕ) → sum_from (suc n) i f ≡ sum_from n i f + f (i + n)
unfolding sum_from
sum-snoc zero i f = let z : i + 0 ≡ i = omega arith in rw z (omega arith)
sum-snoc (suc n) i f = let z : suc i + n ≡ i + suc n = omega arith in ap (λ (k : ℕ). f i + k) (sum-snoc n (suc i) f ∙ ap (λ (k : ℕ). sum_from n (suc i) f + f k) z) ∙ omega arith

module _ (s : Held) (p : Ledger) (a : Agree s p) where
  abbrev count : ℕ → ℕ
  count r = get_or s.book.counts r 0

  ok : Valid s.book
  ok = valid-is s.book a.holds.accepted

  counts-below : (n : ℕ) → n ≤ s.book.regions → sum_from n 0 count ≡ counts_to p n
  unfolding counts_to sum_from
  counts-below zero h = refl
  counts-below (suc n) h =
      let z : 0 + n ≡ n = omega arith in
      let l : 0 < markets_of s.book.services = omega arith in
      sum-snoc n 0 count
      ∙ ap₂ ◌+◌ (counts-below n (omega arith)) (ap count z ∙ sym (order-length s.book s.ring n 0 l) ∙ ap length (a.windows n 0 h l))

  -- unused regions count nothing
  counts-above : (n : ℕ) → s.book.regions ≤ n → n ≤ 8 → sum_from n 0 count ≡ sum_from s.book.regions 0 count
  counts-above zero h l = let z : s.book.regions ≡ 0 = omega arith in rw z
  counts-above (suc n) h l =
      ⊎_elim
      (λ (m : n < s.book.regions). let z : s.book.regions ≡ suc n = omega arith in rw z)
      (λ (m : s.book.regions ≤ n). let z : 0 + n ≡ n = omega arith in
      sum-snoc n 0 count ∙ ap₂ ◌+◌ (counts-above n m (omega arith)) (ap count z ∙ ok.no-count n m (omega arith)) ∙ omega arith)
      (lt-or-ge n s.book.regions)

  pub length-agrees : (second : Bool) → image_length second p ≡ length_of second s.book
  length-agrees second =
      let e : sum_from 8 0 count ≡ counts_to p p.settings.regions =
      counts-above 8 ok.regions (omega arith) ∙ counts-below s.book.regions (omega arith) ∙ ap (counts_to p) (sym a.regions) in
      rw (← e, a.services)

  typed : Typed s.book
  typed = record { parents = a.eight; counts = a.sized.counts; sums = a.sized.sums; marks = a.sized.marks }

  module _ (second : Bool) (tells : kind_tells second s.book ≡ true) (buffer : List ℕ) (room : length_of second s.book ≤ length buffer) where
    good : StoreOk second s.book s.ring (length buffer)
    good = record { book = ok; ring-size = a.holds.ring-size; prices = a.holds.prices; tells = tells; room = room }

    store-accepted : is_accepted (stored second s.book s.ring buffer).verdict ≡ true
    store-accepted = rw (ok_stored second s.book s.ring buffer good)

    handed : (stored second s.book s.ring buffer).book ≡ s.book
    handed = rw (ok_stored second s.book s.ring buffer good)

    same-order : (r m : ℕ) → r < s.book.regions → m < markets_of s.book.services
        → in_order s.book s.ring (market_at s.book r m) ≡ in_order (anew s.book) (relaid s.book s.ring) (market_at s.book r m)
    same-order r m h l = (anew-same second s.book s.ring buffer typed store-accepted).prices (market_at s.book r m) (flat-lt r m s.book.regions (markets_of s.book.services) h l)

    prices-anew : Prices (anew s.book) (relaid s.book s.ring)
    prices-anew =
        let q = prices-is s.book s.ring a.holds.prices in
        record {
          ranged = λ r m h l. subst (Every (Ranged m)) (same-order r m h l) (q.ranged r m h l);
          totals = λ r m h l. q.totals r m h l ∙ ap total (same-order r m h l);
        }

    restart-agrees : Agree (record { book = anew s.book; ring = relaid s.book s.ring }) p
    restart-agrees =
        let t = anew-typed second s.book s.ring buffer typed store-accepted in
        record {
          holds = record {
            accepted = anew-valid second s.book s.ring buffer typed store-accepted;
            ring-size = relaid-length second s.book s.ring buffer typed store-accepted;
            prices = is-prices (anew s.book) (relaid s.book s.ring) prices-anew;
          };
          sized = record { counts = t.counts; nexts = length_run _ 8 0; sums = t.sums; marks = t.marks };
          eight = t.parents;
          regions = a.regions;
          services = a.services;
          window = a.window;
          halves = a.halves;
          parents = a.parents;
          from = a.from;
          to = a.to;
          entries = a.entries;
          position = a.position;
          threshold = a.threshold;
          cap = a.cap;
          floor = a.floor;
          windows = λ r m h l. sym (same-order r m h l) ∙ a.windows r m h l;
          marks = a.marks;
        }

  -- ---- the call
  abbrev Alike : Step Held → Step Ledger → Type 0
  Alike x y = (x.answer ≡ y.answer) × Agree x.state y.state

  -- the kind tells the book, on P's side too
  tells-agrees : (second : Bool) → allowed second p ≡ kind_tells second s.book
  tells-agrees second = ap (λ (from : ℕ). second || not (is_linked from)) a.from

  own-ring : eqb (length s.ring) (ring_size s.book.regions s.book.services s.book.window) ≡ true
  own-ring = eq-eqb _ _ a.holds.ring-size

  module _ (second : Bool) (buffer : List ℕ) (g : List ℤ) where
    first_alike : kind_tells second s.book ≡ false → Alike (Book.play s (restart second buffer g)) (Ledger.play p (restart second buffer g))
    unfolding Book.play Ledger.play restart_verdict stored store_verdict
    first_alike k = rw (tells-agrees second, a.holds.accepted, own-ring, a.holds.prices, k) (refl, a)

    module _ (k : kind_tells second s.book ≡ true) where
      short-alike : ltb (length buffer) (length_of second s.book) ≡ true → Alike (Book.play s (restart second buffer g)) (Ledger.play p (restart second buffer g))
      unfolding Book.play Ledger.play restart_verdict stored store_verdict
      short-alike t = rw (tells-agrees second, length-agrees second, a.holds.accepted, own-ring, a.holds.prices, k, t) (refl, a)

      module _ (t : ltb (length buffer) (length_of second s.book) ≡ false) where
        room : length_of second s.book ≤ length buffer
        room = ltb-false (length buffer) (length_of second s.book) t

        accepts : is_accepted (stored second s.book s.ring buffer).verdict ≡ true
        accepts = store-accepted second k buffer room

        -- the store is accepted and hands the book back, so that the restart is the load
        restart-is : (x : Loading.Outcome) → loaded (take (stored second s.book s.ring buffer).length (stored second s.book s.ring buffer).buffer) g ≡ x
            → Book.play s (restart second buffer g) ≡ Book.loads s x
        unfolding Book.play
        restart-is x e = rw (accepts, e) (ap (λ (b : Book). Book.loads (record { book = b; ring = s.ring }) x) (handed second k buffer room))

        -- P's verdict, once the buffer is long enough
        says : (v : Bool) → eqb (length g) (ring_size s.book.regions s.book.services s.book.window) ≡ v → restart_verdict second p (length buffer) (length g) ≡ pick v accepted (refused 11)
        unfolding restart_verdict
        says v q = rw (tells-agrees second, k, length-agrees second, t, a.regions, a.services, a.window, q) (go v)
          where
            go : (v : Bool) → pick (not v) (refused 11) accepted ≡ pick v accepted (refused 11)
            go true = refl
            go false = refl

        right-alike : eqb (length g) (ring_size s.book.regions s.book.services s.book.window) ≡ true → Alike (Book.play s (restart second buffer g)) (Ledger.play p (restart second buffer g))
        unfolding Ledger.play
        right-alike q =
            let e = restart-is (record { verdict = accepted; book = anew s.book; ring = relaid s.book s.ring }) (reload second s.book s.ring buffer typed accepts g (eqb-true _ _ q)) in (
              ap (λ (x : Step Held). x.answer) e ∙ ap restarted (sym (says true q)),
              subst (λ (x : Step Held). Agree x.state p) (sym e) (restart-agrees second k buffer room),
            )

        wrong-alike : eqb (length g) (ring_size s.book.regions s.book.services s.book.window) ≡ false → Alike (Book.play s (restart second buffer g)) (Ledger.play p (restart second buffer g))
        unfolding Ledger.play
        wrong-alike q =
            let i = image-length second s.book s.ring buffer typed accepts in
            let e = restart-is (record { verdict = refused 11; book = closed; ring = g }) (rw i (load-other-ring second s.book s.ring buffer typed accepts g q)) in (
              ap (λ (x : Step Held). x.answer) e ∙ ap restarted (sym (says false q)),
              subst (λ (x : Step Held). Agree x.state p) (sym e) a,
            )

  pub restart-alike : (second : Bool) (buffer : List ℕ) (g : List ℤ) → Alike (Book.play s (restart second buffer g)) (Ledger.play p (restart second buffer g))
  restart-alike second buffer g =
      by-test (kind_tells second s.book)
      (λ k. by-test (ltb (length buffer) (length_of second s.book)) (λ t. short-alike second buffer g k t)
      (λ t. by-test (eqb (length g) (ring_size s.book.regions s.book.services s.book.window)) (λ q. right-alike second buffer g k t q) (λ q. wrong-alike second buffer g k t q)))
      (λ k. first_alike second buffer g k)
