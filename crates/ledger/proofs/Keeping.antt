-- On a book that rule 10 accepts, with a ring whose counted prices are in range and whose totals are the sums, an accepted entry
-- gives such a book again. Assumes nothing.
use mathlib.Core.Path.{◌≡◌, sym, ◌∙◌, subst}
use mathlib.Core.Bool.{Bool, true, false}
use mathlib.Core.List.{List, []}
use mathlib.Core.Logic.{◌⊎◌, inl, inr, ⊎_elim}
use Prim.Native.Nat.{ℕ, ◌+◌, ◌/◌, ◌%◌, ◌≤◌, ◌<◌}
use native.Mathlib.Nat.{not-suc-le-zero}
use native.Mathlib.Omega.{arith}
use borrow.Author.Tests.{le-ltb, lt-leb}
use lib.Dec.{ltb}
use lib.IntN.{ℤ, pos, nat_abs}
use lib.Signed.{lt_z}
use lib.ListN.{length, get_or, replicate, get_or-replicate, length-replicate, get_or-eq_default}
use Rattle.laws.specs.Base.{pick}
use Rattle.laws.specs.Lists.{run, total}
use Rattle.laws.proofs.Tests.{by-test, lt-or-ge}
use Rattle.book.specs.declared.record.Book.{Book}
use Rattle.book.specs.declared.record.Settings.{Settings}
use Rattle.book.specs.Record.{markets_of, place_of, ring_size, is_accepted}
use Rattle.book.specs.Validity.{used_place, valid}
use Rattle.book_calls.specs.Opening.{fresh}
use Rattle.book_calls.specs.Setting.{with_settings}
use Rattle.book.proofs.Validities.{Valid, valid-is, is-valid}
use Rattle.head.specs.Counted.{in_order}
use Rattle.image.specs.Storing.{prices_ok}
use Rattle.publishing.specs.Entry.{Entry}
use Rattle.counting.specs.Windows.{unmarked, joining, counts_after, nexts_after, sums_after, ring_after}
use Rattle.counting.specs.Periods.{mark_after, last_of_day}
use Rattle.entries.specs.Entering.{book_after, Outcome, enter_verdict, entered}
use Rattle.ledger.proofs.Joining.{pushed-every}
use Rattle.ledger.proofs.Turning.{Placed}
use Rattle.ledger.proofs.Sounds.{Sound, market_at, valid-sound}
use Rattle.ledger.proofs.Steps.{count-after, order-after, order-length, sum-after, sum-unused, mark-after, mark-unused, count-unused, next-unused, placed-after, position-below, ring-length}
use Rattle.ledger.proofs.Ranges.{Ranged, total-most, Prices, prices-is, is-prices}
use Rattle.ledger.proofs.Checks.{Passed, entered-accepted, entered-refused, entered-verdict, enter-valid, enter-passed}

-- 16 holds of an entry's prices
abbrev pub Priced : Book → Entry → Type 0
Priced b e = (r m : ℕ) → r < b.regions → m < markets_of b.services → unmarked e.offer r ≡ true → Ranged m (joining e.offer (market_at b r m))

module _ (b : Book) (ring : List ℤ) (s : Sound b ring) (e : Entry) (p : Prices b ring) (priced : Priced b e) where
  -- counted prices are in range again, and sums are their totals
  pub prices-after : Prices (book_after b ring e) (ring_after b ring e.offer)
  prices-after = record {
    ranged = λ r m h l. rw (order-after b ring s e r h m l)
        (by-test (unmarked e.offer r)
        (λ t. rw t (pushed-every b.window (in_order b ring (market_at b r m)) (joining e.offer (market_at b r m)) (Ranged m) (p.ranged r m h l) (priced r m h l t)))
        (λ t. rw t (p.ranged r m h l)));
    totals = λ r m h l. sum-after b ring s e r h m l (p.totals r m h l);
  }

  sum-small : (r m : ℕ) → r < b.regions → m < markets_of b.services → nat_abs (get_or (sums_after b ring e.offer) (place_of r m) (pos 0)) ≤ 20160000000
  sum-small r m h l =
      rw (prices-after.totals r m h l)
      (total-most m b.window (in_order (book_after b ring e) (ring_after b ring e.offer) (market_at b r m)) (prices-after.ranged r m h l)
      (omega (arith, order-length (book_after b ring e) (ring_after b ring e.offer) r m l, (placed-after b ring e s r h).most)) s.window)

mark-small : (threshold : ℤ) (last : Bool) (sum : ℤ) (mark : ℕ) → mark ≤ 1 → mark_after threshold last sum mark ≤ 1
mark-small threshold last sum mark h = go (lt_z threshold sum) last
  where
    go : (t last : Bool) → pick t 1 (pick last 0 mark) ≤ 1
    go true last = omega arith
    go false true = omega arith
    go false false = h

not-used : (R S k : ℕ) → (R ≤ k / 11) ⊎ (S < k % 11) → used_place R S k ≡ false
not-used R S k = ⊎_elim (λ x. rw (le-ltb (k / 11) R x)) (λ y. by-test (ltb (k / 11) R) (λ e. rw (e, lt-leb (k % 11) S y)) (λ e. rw e))

module _ (b : Book) (ring : List ℤ) (ok : valid b ≡ true) (size : length ring ≡ ring_size b.regions b.services b.window) (room : b.entries < 10000000) (e : Entry) (p : Prices b ring) (priced : Priced b e) where
  taken-after : (r : ℕ) → r < b.regions → get_or (counts_after b e.offer) r 0 ≤ b.entries + 1
  taken-after r h =
      let c : get_or b.counts r 0 ≤ b.entries = (valid-is b ok).taken r h in
      rw (count-after b ring (valid-sound b ring ok size) e.offer r h)
      (by-test (unmarked e.offer r)
      (λ t. rw t (by-test (ltb (get_or b.counts r 0) b.window) (λ q. rw q (omega arith)) (λ q. rw q (omega arith))))
      (λ t. rw t (omega arith)))

  after-valid : Valid (book_after b ring e)
  after-valid =
      let f : Valid b = valid-is b ok in
      let s : Sound b ring = valid-sound b ring ok size in
      let placed : (r : ℕ) → r < b.regions → Placed b.window (get_or (counts_after b e.offer) r 0) (get_or (nexts_after b e.offer) r 0) = placed-after b ring e s in
      record {
        some-regions = f.some-regions;
        regions = f.regions;
        services = f.services;
        some-window = f.some-window;
        window = f.window;
        some-halves = f.some-halves;
        halves = f.halves;
        position = position-below b.halves f.some-halves b.position f.position;
        parent = f.parent;
        ends = f.ends;
        threshold = f.threshold;
        limits = f.limits;
        entries = omega arith;
        count = λ r h. (placed r h).most;
        taken = taken-after;
        next = λ r h. (placed r h).below;
        next-is = λ r h. ⊎_elim (λ l. inr ((placed r h).early l)) (λ l. inl (omega (arith, (placed r h).most))) (lt-or-ge (get_or (counts_after b e.offer) r 0) b.window);
        no-count = λ r h l. count-unused b e.offer r h l ∙ f.no-count r h l;
        no-next = λ r h l. next-unused b e.offer r h l ∙ f.no-next r h l;
        sum = λ k h x y. let q : k ≡ place_of (k / 11) (k % 11) = omega arith in
            subst (λ (i : ℕ). nat_abs (get_or (sums_after b ring e.offer) i (pos 0)) ≤ 20160000000) (sym q) (sum-small b ring s e p priced (k / 11) (k % 11) x (omega arith));
        mark = λ k h x y. let q : k ≡ place_of (k / 11) (k % 11) = omega arith in
            subst (λ (i : ℕ). get_or (book_after b ring e).marks i 0 ≤ 1) (sym q)
            (rw (mark-after b ring s e (k / 11) x (k % 11) (omega arith))
            (mark-small b.threshold (last_of_day b.halves b.position) (get_or (sums_after b ring e.offer) (place_of (k / 11) (k % 11)) (pos 0)) (get_or b.marks (place_of (k / 11) (k % 11)) 0)
            (subst (λ (i : ℕ). get_or b.marks i 0 ≤ 1) q (f.mark k h x y))));
        no-sum = λ k h x. sum-unused b ring e k h (not-used b.regions b.services k x) ∙ f.no-sum k h x;
        no-mark = λ k h x. mark-unused b ring e k h (not-used b.regions b.services k x) ∙ f.no-mark k h x;
      }

  -- rule 10 accepts the book after the entry
  pub valid-after : valid (book_after b ring e) ≡ true
  valid-after = is-valid (book_after b ring e) after-valid

-- a book that rule 10 accepts, with its ring
pub record Kept (b : Book) (ring : List ℤ) : Type 0 where
  pub accepted : valid b ≡ true
  pub ring-size : length ring ≡ ring_size b.regions b.services b.window
  pub prices : prices_ok b ring ≡ true

pub kept-sound : (b : Book) (ring : List ℤ) → Kept b ring → Sound b ring
kept-sound b ring k = valid-sound b ring k.accepted k.ring-size

-- ---- openings and settings
-- a region or place of a book as opened
zero-at : (n k : ℕ) → ◌≡◌ {A = ℕ} (get_or (replicate n 0) k 0) 0
zero-at n k =
    ⊎_elim (λ h. get_or-replicate n k 0 0 h) (λ h. get_or-eq_default (replicate n 0) 0 (omega (arith, length-replicate {A = ℕ} n 0))) (lt-or-ge k n)

none-at : (n k : ℕ) → get_or (replicate n (pos 0)) k (pos 0) ≡ pos 0
none-at n k =
    ⊎_elim (λ h. get_or-replicate n k (pos 0) (pos 0) h) (λ h. get_or-eq_default (replicate n (pos 0)) (pos 0) (omega (arith, length-replicate n (pos 0)))) (lt-or-ge k n)

module _ (t : Settings) (ring : List ℤ) where
  -- no price is counted
  pub fresh-order : (q : ℕ) → in_order (fresh t) ring q ≡ []
  unfolding run
  fresh-order q = rw (zero-at 8 (q / markets_of t.services))

  pub fresh-prices : Prices (fresh t) ring
  unfolding total
  fresh-prices = record {
    ranged = λ r m h l. rw (fresh-order (market_at (fresh t) r m)) (λ k p. absurd (not-suc-le-zero p));
    totals = λ r m h l. rw (fresh-order (market_at (fresh t) r m)) (none-at 88 (place_of r m));
  }

  pub fresh_kept : valid (fresh t) ≡ true → length ring ≡ ring_size t.regions t.services t.window → Kept (fresh t) ring
  fresh_kept ok size = record { accepted = ok; ring-size = size; prices = is-prices (fresh t) ring fresh-prices }

-- what a setting changes no window reads
pub setting_kept : (b : Book) (ring : List ℤ) (threshold cap floor : ℤ) → valid (with_settings b threshold cap floor) ≡ true → Kept b ring → Kept (with_settings b threshold cap floor) ring
setting_kept b ring threshold cap floor ok k = record { accepted = ok; ring-size = k.ring-size; prices = k.prices }

-- ---- entries
module _ (b : Book) (ring : List ℤ) (number : ℕ) (e : Entry) (table : List ℤ) where
  pub book-kept : Kept b ring → b.entries < 10000000 → Priced b e → Kept (book_after b ring e) (ring_after b ring e.offer)
  book-kept k room priced =
      let p : Prices b ring = prices-is b ring k.prices in
      record {
        accepted = valid-after b ring k.accepted k.ring-size room e p priced;
        ring-size = ring-length b ring e.offer ∙ k.ring-size;
        prices = is-prices (book_after b ring e) (ring_after b ring e.offer) (prices-after b ring (kept-sound b ring k) e p priced);
      }

  -- the theorem: acceptance gives what rule 10 and 11 to 17 ask, so that of the lent book and ring only 22 is left to ask
  pub entered-kept : prices_ok b ring ≡ true → is_accepted (entered b ring number e table).verdict ≡ true
      → Kept (entered b ring number e table).book (entered b ring number e table).ring
  entered-kept good h =
      let a = entered-verdict b ring number e table h in
      let f : Passed _ _ _ _ _ = enter-passed b ring number e table a in
      let k : Kept b ring = record { accepted = enter-valid b ring number e table a; ring-size = f.ring-size; prices = good } in
      subst (λ (o : Outcome). Kept o.book o.ring) (sym (entered-accepted b ring number e table a)) (book-kept k f.room f.price)

  -- accepted or refused
  pub entered-keeps : Kept b ring → Kept (entered b ring number e table).book (entered b ring number e table).ring
  entered-keeps k =
      by-test (is_accepted (enter_verdict b (length ring) number e (length table)))
      (λ a. let f : Passed _ _ _ _ _ = enter-passed b ring number e table a in
      subst (λ (o : Outcome). Kept o.book o.ring) (sym (entered-accepted b ring number e table a)) (book-kept k f.room f.price))
      (λ a. subst (λ (o : Outcome). Kept o.book o.ring) (sym (entered-refused b ring number e table a)) k)
