-- Two books that are the same, each with its ring, are told apart by no entry and no setting, and stay the same (reports, stores and
-- that it is an equivalence: image/proofs/Sameness). Assumes nothing.
use mathlib.Core.Path.{◌≡◌, refl, sym, ap, ap₂, ◌∙◌, subst}
use mathlib.Core.Bool.{Bool, true, not}
use mathlib.Core.Logic.{inl, inr, ⊎_elim}
use mathlib.Core.List.{List}
use Prim.Native.Nat.{ℕ, ◌/◌, ◌%◌, ◌≤◌, ◌<◌}
use native.Mathlib.Nat.{div-add-mod', div-lt_iff_lt-mul, mod-lt}
use native.Mathlib.Omega.{arith}
use borrow.Author.Tests.{ltb-true, leb-true}
use lib.Dec.{leb, ltb}
use lib.IntN.{ℤ, pos, ◌+ℤ◌, ◌-ℤ◌}
use lib.ListN.{length, get_or}
use Rattle.laws.specs.Base.{pick}
use Rattle.laws.proofs.Lists.{tabulate-same, flat-lt}
use Rattle.laws.proofs.Tests.{by-test, and_left, and_right, lt-or-ge}
use Rattle.pricing.specs.Verdict.{Verdict, accepted, refused}
use Rattle.pricing.specs.Holding.{limits_ok}
use Rattle.book.specs.declared.record.Book.{Book}
use Rattle.book.specs.Record.{markets_of, place_of, ring_size, is_accepted}
use Rattle.book.specs.Validity.{used_place, threshold_ok, valid}
use Rattle.book_calls.specs.Setting as Setting
use Rattle.book_calls.specs.Setting.{threshold_verdict, limits_verdict, with_settings, changed, set_threshold, set_limits}
use Rattle.book.proofs.Validities.{Valid, valid-is, is-valid}
use Rattle.book.proofs.Passes.{passes-not}
use Rattle.book_calls.proofs.Kept.{threshold-is, setting-valid}
use Rattle.head.specs.Counted.{in_order, market_count}
use Rattle.image.specs.Storing.{prices_ok}
use Rattle.image.specs.Same.{Same}
use Rattle.image.proofs.Sameness.{with_nexts, same-book}
use Rattle.publishing.specs.Entry.{Entry}
use Rattle.entries.specs.Checking.{entry_verdict}
use Rattle.counting.specs.Windows.{unmarked, joins, joining, leaving, sums_after, nexts_after, ring_after}
use Rattle.counting.specs.Periods.{marks_after, last_of_day}
use Rattle.counting.proofs.Picks.{pick_same}
use Rattle.entries.specs.Entering.{shape_of, book_after, Outcome, enter_verdict, entered}
use Rattle.ledger.proofs.Pushes.{pushed}
use Rattle.ledger.proofs.Turning.{Placed}
use Rattle.ledger.proofs.Sounds.{Sound, market_at}
use Rattle.ledger.proofs.Steps.{order-after, leaving-is, placed-after, next-unused, ring-length}
use Rattle.ledger.proofs.Checks.{entered-accepted, entered-refused}
use Rattle.ledger.proofs.Keeping.{entered-keeps}

-- what two rings are to a book with two next places each: the same prices are counted, and both have the book's length
record Rings (b : Book) (ring : List ℤ) (nexts : List ℕ) (ring' : List ℤ) : Type 0 where
  prices : (q : ℕ) → q < market_count b → in_order b ring q ≡ in_order (with_nexts b nexts) ring' q
  size : length ring ≡ ring_size b.regions b.services b.window
  size' : length ring' ≡ ring_size b.regions b.services b.window

-- other next places and another ring with the same counted prices
nexts-alone : (b : Book) (ring : List ℤ) (nexts : List ℕ) (ring' : List ℤ) → Rings b ring nexts ring'
    → valid b ≡ true → valid (with_nexts b nexts) ≡ true → Same b ring (with_nexts b nexts) ring'
nexts-alone b ring nexts ring' rings v w = record {
  regions = refl;
  services = refl;
  window = refl;
  halves = refl;
  parents = refl;
  from = refl;
  to = refl;
  threshold = refl;
  cap = refl;
  floor = refl;
  entries = refl;
  position = refl;
  counts = refl;
  sums = refl;
  marks = refl;
  prices = rings.prices;
  ring-size = rings.size;
  ring-size' = rings.size';
  accepted = v;
  accepted' = w;
}

module _ (b : Book) (ring : List ℤ) (b' : Book) (ring' : List ℤ) (s : Same b ring b' ring') where
  -- from the book with other next places to the same book
  along : (P : Book → Type 0) → (Rings b ring b'.nexts ring' → valid (with_nexts b b'.nexts) ≡ true → P (with_nexts b b'.nexts))
      → P b'
  along P f =
      let e = same-book s in
      let prices : (q : ℕ) → q < market_count b → in_order b ring q ≡ in_order (with_nexts b b'.nexts) ring' q =
      subst (λ (c : Book). (q : ℕ) → q < market_count b → in_order b ring q ≡ in_order c ring' q) (sym e) s.prices in
      let size : length ring' ≡ ring_size b.regions b.services b.window =
      subst (λ (c : Book). length ring' ≡ ring_size c.regions c.services c.window) (sym e) s.ring-size' in
      let w : valid (with_nexts b b'.nexts) ≡ true = subst (λ (c : Book). valid c ≡ true) (sym e) s.accepted' in
      subst P e (f (record { prices = prices; size = s.ring-size; size' = size }) w)

-- what rule 10 asks of next places
valid-nexts : (b : Book) (nexts : List ℕ) → valid b ≡ true
    → ((r : ℕ) → r < b.regions → Placed b.window (get_or b.counts r 0) (get_or nexts r 0))
    → ((r : ℕ) → b.regions ≤ r → r < 8 → get_or nexts r 0 ≡ 0) → valid (with_nexts b nexts) ≡ true
valid-nexts b nexts v placed unused =
    let f : Valid b = valid-is b v in
    is-valid (with_nexts b nexts) (record {
      some-regions = f.some-regions;
      regions = f.regions;
      services = f.services;
      some-window = f.some-window;
      window = f.window;
      some-halves = f.some-halves;
      halves = f.halves;
      position = f.position;
      parent = f.parent;
      ends = f.ends;
      threshold = f.threshold;
      limits = f.limits;
      entries = f.entries;
      count = f.count;
      taken = f.taken;
      next = λ r h. (placed r h).below;
      next-is = λ r h. ⊎_elim (λ l. inr ((placed r h).early l)) (λ l. inl (omega (arith, (placed r h).most)))
          (lt-or-ge (get_or b.counts r 0) b.window);
      no-count = f.no-count;
      no-next = unused;
      sum = f.sum;
      mark = f.mark;
      no-sum = f.no-sum;
      no-mark = f.no-mark;
    })

-- ---- an entry
-- what is claimed of two outcomes. Same books are such as rule 10 accepts, hence the condition: with a ring that others changed, an
-- accepted entry may leave a sum out of range. `stays_same` has none, for rings that 22 lets pass
pub record Alike (o o' : Outcome) : Type 0 where
  pub verdict : o.verdict ≡ o'.verdict
  pub count : o.count ≡ o'.count
  pub table : o.table ≡ o'.table
  pub same : valid o.book ≡ true → Same o.book o.ring o'.book o'.ring

module _ (b : Book) (ring : List ℤ) (nexts : List ℕ) (ring' : List ℤ) (s : Sound b ring) (s' : Sound (with_nexts b nexts) ring')
    (v : valid b ≡ true) (w : valid (with_nexts b nexts) ≡ true) (rings : Rings b ring nexts ring') (e : Entry) where
  abbrev c : Book
  c = with_nexts b nexts

  order_same : (r m : ℕ) → r < b.regions → m < markets_of b.services → in_order b ring (market_at b r m) ≡ in_order c ring' (market_at b r m)
  order_same r m h l = rings.prices (market_at b r m) (flat-lt r m b.regions (markets_of b.services) h l)

  leaving-same : (r m : ℕ) → r < b.regions → m < markets_of b.services → leaving b ring r m ≡ leaving c ring' r m
  leaving-same r m h l =
      leaving-is b ring s e r h m l
      ∙ ap (λ (u : List ℤ). pick (ltb (length u) b.window) (pos 0) (get_or u 0 (pos 0))) (order_same r m h l)
      ∙ sym (leaving-is c ring' s' e r h m l)

  sums_same : sums_after b ring e.offer ≡ sums_after c ring' e.offer
  sums_same =
      tabulate-same 88 _ _ (λ k h. pick_same (used_place b.regions b.services k) _ _ _
      (λ t. let r : k / 11 < b.regions = ltb-true (k / 11) b.regions (and_left (ltb (k / 11) b.regions) (leb (k % 11) b.services) t) in
      let m : k % 11 ≤ b.services = leb-true (k % 11) b.services (and_right (ltb (k / 11) b.regions) (leb (k % 11) b.services) t) in
      ap (λ (x : ℤ). pick (joins b e.offer (k / 11)) (get_or b.sums (place_of (k / 11) (k % 11)) (pos 0) +ℤ (joining e.offer (market_at b (k / 11) (k % 11)) -ℤ x)) (get_or b.sums (place_of (k / 11) (k % 11)) (pos 0)))
      (leaving-same (k / 11) (k % 11) r (omega arith))))

  after_same : (r m : ℕ) → r < b.regions → m < markets_of b.services
      → in_order (book_after b ring e) (ring_after b ring e.offer) (market_at b r m) ≡ in_order (book_after c ring' e) (ring_after c ring' e.offer) (market_at b r m)
  after_same r m h l =
      order-after b ring s e r h m l
      ∙ ap (λ (u : List ℤ). pick (unmarked e.offer r) (pushed b.window u (joining e.offer (market_at b r m))) u) (order_same r m h l)
      ∙ sym (order-after c ring' s' e r h m l)

  -- the other book after the entry is this one, but for its next places
  other_after : with_nexts (book_after b ring e) (nexts_after c e.offer) ≡ book_after c ring' e
  other_after = rw sums_same

  other-valid : valid (book_after b ring e) ≡ true → valid (book_after c ring' e) ≡ true
  other-valid ok =
      subst (λ (x : Book). valid x ≡ true) other_after
      (valid-nexts (book_after b ring e) (nexts_after c e.offer) ok (placed-after c ring' e s')
      (λ r h l. next-unused c e.offer r h l ∙ (valid-is c w).no-next r h l))

  book-same : valid (book_after b ring e) ≡ true
      → Same (book_after b ring e) (ring_after b ring e.offer) (book_after c ring' e) (ring_after c ring' e.offer)
  book-same ok = record {
    regions = refl;
    services = refl;
    window = refl;
    halves = refl;
    parents = refl;
    from = refl;
    to = refl;
    threshold = refl;
    cap = refl;
    floor = refl;
    entries = refl;
    position = refl;
    counts = refl;
    sums = sums_same;
    marks = ap (λ (u : List ℤ). marks_after b.regions b.services b.threshold (last_of_day b.halves b.position) u b.marks) sums_same;
    prices = λ q h. let z : 0 < markets_of b.services = omega arith in
        subst (λ (k : ℕ). in_order (book_after b ring e) (ring_after b ring e.offer) k ≡ in_order (book_after c ring' e) (ring_after c ring' e.offer) k)
        (div-add-mod' q (markets_of b.services))
        (after_same (q / markets_of b.services) (q % markets_of b.services) ((div-lt_iff_lt-mul z).1 h) (mod-lt q z));
    ring-size = ring-length b ring e.offer ∙ rings.size;
    ring-size' = ring-length c ring' e.offer ∙ rings.size';
    accepted = ok;
    accepted' = other-valid ok;
  }

  nexts-same : (number : ℕ) (table : List ℤ) → Alike (entered b ring number e table) (entered c ring' number e table)
  nexts-same number table =
      let x : enter_verdict b (length ring) number e (length table) ≡ enter_verdict c (length ring') number e (length table) =
      ap₂ (λ (t : Bool) (n : ℕ). pick (not t) (refused 10) (entry_verdict (shape_of b) b.entries n number e (length table)))
      (v ∙ sym w) (rings.size ∙ sym rings.size') in
      by-test (is_accepted (enter_verdict b (length ring) number e (length table)))
      (λ t. rw (entered-accepted b ring number e table t, entered-accepted c ring' number e table (sym (ap is_accepted x) ∙ t))
      (record { verdict = refl; count = refl; table = refl; same = book-same }))
      (λ t. rw (entered-refused b ring number e table t, entered-refused c ring' number e table (sym (ap is_accepted x) ∙ t))
      (record { verdict = x; count = refl; table = refl; same = λ ok. nexts-alone b ring nexts ring' rings v w }))

-- ---- settings leave same books
pub record ChangedAlike (ring ring' : List ℤ) (o o' : Setting.Outcome) : Type 0 where
  pub verdict : o.verdict ≡ o'.verdict
  pub same : Same o.book ring o'.book ring'

module _ (b : Book) (ring : List ℤ) (nexts : List ℕ) (ring' : List ℤ) (v : valid b ≡ true) (w : valid (with_nexts b nexts) ≡ true)
    (rings : Rings b ring nexts ring') where
  changed-is : (x : Verdict) (threshold cap floor : ℤ)
      → (is_accepted x ≡ true → (threshold_ok threshold ≡ true) × (limits_ok cap floor ≡ true))
      → ChangedAlike ring ring' (changed b x (with_settings b threshold cap floor))
      (changed (with_nexts b nexts) x (with_settings (with_nexts b nexts) threshold cap floor))
  changed-is x threshold cap floor good =
      rw (v, w)
      (by-test (is_accepted x)
      (λ t. let g = good t in
      let set = setting-valid b threshold cap floor v g.0 g.1 in
      let set' = setting-valid (with_nexts b nexts) threshold cap floor w g.0 g.1 in
      let over : Rings (with_settings b threshold cap floor) ring nexts ring' =
      record { prices = rings.prices; size = rings.size; size' = rings.size' } in
      rw t (record { verdict = refl; same = nexts-alone (with_settings b threshold cap floor) ring nexts ring' over set set' }))
      (λ t. rw t (record { verdict = refl; same = nexts-alone b ring nexts ring' rings v w })))

threshold-and : (b : Book) → valid b ≡ true → (threshold : ℤ) → is_accepted (threshold_verdict threshold) ≡ true
    → (threshold_ok threshold ≡ true) × (limits_ok b.cap b.floor ≡ true)
threshold-and b v threshold t = ((threshold-is threshold t).0, (valid-is b v).limits)

limits-are : (b : Book) → valid b ≡ true → (cap floor : ℤ) → is_accepted (limits_verdict cap floor) ≡ true
    → (threshold_ok b.threshold ≡ true) × (limits_ok cap floor ≡ true)
unfolding limits_verdict
limits-are b v cap floor t = ((valid-is b v).threshold, (passes-not (limits_ok cap floor) (refused 19) accepted refl t).0)

-- ---- two same books. That rule 10 takes both or neither (v) follows from their sameness
module _ (b : Book) (ring : List ℤ) (b' : Book) (ring' : List ℤ) (s : Same b ring b' ring') (v : valid b ≡ valid b') where
  -- entries do not tell two same books apart
  pub entered-same : Sound b ring → Sound b' ring' → (number : ℕ) (e : Entry) (table : List ℤ) → Alike (entered b ring number e table) (entered b' ring' number e table)
  entered-same f f' number e table =
      along b ring b' ring' s (λ c. Sound c ring' → Alike (entered b ring number e table) (entered c ring' number e table))
      (λ rings w g. nexts-same b ring b'.nexts ring' f g s.accepted w rings e number table) f'

  -- and leave the same books, where counted prices are in range and their totals the sums, as 22 asks: rule 10 accepts those books
  pub stays_same : Sound b ring → Sound b' ring' → prices_ok b ring ≡ true → (number : ℕ) (e : Entry) (table : List ℤ)
      → Same (entered b ring number e table).book (entered b ring number e table).ring
      (entered b' ring' number e table).book (entered b' ring' number e table).ring
  stays_same f f' ok number e table =
      (entered-same f f' number e table).same
      (entered-keeps b ring number e table (record { accepted = s.accepted; ring-size = s.ring-size; prices = ok })).accepted

  pub threshold-same : (threshold : ℤ) → ChangedAlike ring ring' (set_threshold b threshold) (set_threshold b' threshold)
  unfolding set_threshold
  threshold-same threshold =
      along b ring b' ring' s (λ c. ChangedAlike ring ring' (set_threshold b threshold) (set_threshold c threshold))
      (λ rings w. changed-is b ring b'.nexts ring' s.accepted w rings (threshold_verdict threshold) threshold b.cap b.floor
      (threshold-and b s.accepted threshold))

  pub limits-same : (cap floor : ℤ) → ChangedAlike ring ring' (set_limits b cap floor) (set_limits b' cap floor)
  unfolding set_limits
  limits-same cap floor =
      along b ring b' ring' s (λ c. ChangedAlike ring ring' (set_limits b cap floor) (set_limits c cap floor))
      (λ rings w. changed-is b ring b'.nexts ring' s.accepted w rings (limits_verdict cap floor) b.threshold cap floor
      (limits-are b s.accepted cap floor))
