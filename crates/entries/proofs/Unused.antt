-- "Unused entry and schedule numbers are not looked at", "A region without a parent has no flow or factor looked at": over the whole
-- call, accepted or refused, with every book, ring, number and table. Assumes nothing.
use mathlib.Core.Path.{◌≡◌, refl, sym, ap, ◌∙◌, subst}
use mathlib.Core.Bool.{Bool, true, false, not, ◌&&◌}
use mathlib.Core.List.{List}
use Prim.Native.Nat.{ℕ, ◌+◌, ◌*◌, ◌/◌, ◌%◌, ◌<◌}
use native.Mathlib.Nat.{div-add-mod', div-lt_iff_lt-mul, mod-lt}
use native.Mathlib.Omega.{arith}
use borrow.Author.Tests.{eqb-true, eqb-false, eq-eqb, ltb-true, leb-true}
use lib.Dec.{eqb, leb, ltb}
use lib.IntN.{ℤ, pos, ◌+ℤ◌, ◌-ℤ◌}
use lib.ListN.{length, get_or}
use Rattle.laws.specs.Base.{pick}
use Rattle.laws.proofs.Tests.{by-test, never, and_left, and_right}
use Rattle.laws.proofs.Lists.{tabulate-same, first_below-same}
use Rattle.pricing.specs.Verdict.{Verdict}
use Rattle.pricing.specs.Holding.{is_energy, in_range}
use Rattle.book.specs.declared.record.Book.{Book}
use Rattle.book.specs.Record.{markets_of, place_of, links_with, link_count, is_accepted}
use Rattle.book.specs.Validity.{used_place}
use Rattle.book.proofs.Validities.{valid-is}
use Rattle.book.proofs.Ways.{links-most}
use Rattle.publishing.specs.Entry.{Entry}
use Rattle.publishing.proofs.Unused as Publishing
use Rattle.publishing.proofs.Unused.{table_same, count_same}
use Rattle.counting.specs.Windows.{joins, joining, leaving, sum_after, sums_after, grown, counts_after}
use Rattle.counting.specs.Windows.{following, nexts_after, written, ring_after}
use Rattle.counting.proofs.Picks.{pick_same}
use Rattle.entries.specs.Checking.{lengths_ok, first_mark, bad_price, first_price, has_factor, bad_factor, first_factor, entry_verdict}
use Rattle.entries.specs.Entering.{shape_of, terms_of, book_after, enter_verdict, entered}
use Rattle.entries.specs.Working.{Accepts, acceptance}
use Rattle.entries.specs.Unused.{Alike}
use Rattle.entries.proofs.Accepted.{accepted-entry, terms-ok}

-- the second part of a test matters only where the first holds
and_same : (t x y : Bool) → (t ≡ true → x ≡ y) → (t && x) ≡ (t && y)
and_same true x y e = e refl
and_same false x y e = refl

-- a place that is not R is a region's
below : (r R from : ℕ) → r < links_with R from → (r ≡ R → ⊥) → r < R
below r R from h n = omega (arith, links-most R from, n)

module _ (b : Book) (e e' : Entry) (same : Alike b e e') where
  abbrev R : ℕ
  R = b.regions

  abbrev M : ℕ
  M = markets_of b.services

  -- the price of market k = region × M + market, where its region is unmarked
  price-same : (k : ℕ) → k / M < R → get_or e.offer.marked (k / M) 0 ≡ 0
      → get_or e.offer.prices k (pos 0) ≡ get_or e'.offer.prices k (pos 0)
  price-same k h z =
      subst (λ (i : ℕ). get_or e.offer.prices i (pos 0) ≡ get_or e'.offer.prices i (pos 0)) (div-add-mod' k M)
      (same.prices (k / M) (k % M) h (mod-lt k (omega arith)) z)

  -- ---- the refusals
  lengths-same : (ring table : ℕ) → lengths_ok (shape_of b) ring e table ≡ lengths_ok (shape_of b) ring e' table
  lengths-same ring table =
      rw (same.prices-length, same.marked-length, same.flows-length, same.factors-length, same.schedule-length)

  mark-same : first_mark R e.offer.marked ≡ first_mark R e'.offer.marked
  mark-same = first_below-same R _ _ (λ r h. ap (λ (x : ℕ). not (leb x 1)) (same.marked r h))

  bad-price-same : (k : ℕ) → k < R * M
      → bad_price M e.offer.prices e.offer.marked k ≡ bad_price M e'.offer.prices e'.offer.marked k
  bad-price-same k h =
      let p : 0 < M = omega arith in
      let r : k / M < R = (div-lt_iff_lt-mul p).1 h in
      let m = get_or e.offer.marked (k / M) 0 in
      let bad : ℤ → Bool = λ x. not (in_range (is_energy (k % M)) x) in
      and_same (eqb m 0) (bad (get_or e.offer.prices k (pos 0))) (bad (get_or e'.offer.prices k (pos 0)))
      (λ t. ap bad (price-same k r (eqb-true m 0 t)))
      ∙ ap (λ (x : ℕ). eqb x 0 && bad (get_or e'.offer.prices k (pos 0))) (same.marked (k / M) r)

  first-price-same : first_price R M e.offer.prices e.offer.marked ≡ first_price R M e'.offer.prices e'.offer.marked
  first-price-same = first_below-same (R * M) _ _ bad-price-same

  -- a factor that is looked at: at R the additional link's, below R that of a region with a parent
  factor-same : (r : ℕ) → r < link_count b → has_factor R b.parents r ≡ true → get_or e.factors r 0 ≡ get_or e'.factors r 0
  factor-same r h t =
      let p = get_or b.parents r 255 in
      by-test (eqb r R)
      (λ k. let x = eqb-true r R k in
      rw x (same.extra (λ z. let m : link_count b ≡ R = rw (eq-eqb b.from 255 z) in omega arith)).1)
      (λ k. let l : r < R = below r R b.from h (eqb-false r R k) in
      (same.linked r l (λ q. never (not (eqb p 255)) (rw k at t) (ap not (eq-eqb p 255 q)))).1)

  bad-factor-same : (r : ℕ) → r < link_count b → bad_factor R b.parents e.factors r ≡ bad_factor R b.parents e'.factors r
  bad-factor-same r h =
      let bad : ℕ → Bool = λ f. not (leb 10000 f && leb f 20000) in
      and_same (has_factor R b.parents r) (bad (get_or e.factors r 0)) (bad (get_or e'.factors r 0)) (λ t. ap bad (factor-same r h t))

  first-factor-same : first_factor (link_count b) R b.parents e.factors ≡ first_factor (link_count b) R b.parents e'.factors
  first-factor-same = first_below-same (link_count b) _ _ bad-factor-same

  verdict-same : (ring number table : ℕ) → enter_verdict b ring number e table ≡ enter_verdict b ring number e' table
  unfolding entry_verdict
  verdict-same ring number table = rw (lengths-same ring table, same.kind, mark-same, first-price-same, first-factor-same)

  -- ---- step 5
  joins-same : (r : ℕ) → joins b e.offer r ≡ joins b e'.offer r
  joins-same r =
      and_same (ltb r R) _ _ (λ t. ap (λ (x : ℕ). eqb x 0) (same.marked r (ltb-true r R t)))

  joining-same : (k : ℕ) → joins b e.offer (k / M) ≡ true → joining e.offer k ≡ joining e'.offer k
  joining-same k t =
      let m = get_or e.offer.marked (k / M) 0 in
      price-same k (ltb-true (k / M) R (and_left (ltb (k / M) R) (eqb m 0) t)) (eqb-true m 0 (and_right (ltb (k / M) R) (eqb m 0) t))

  counts_same : counts_after b e.offer ≡ counts_after b e'.offer
  counts_same =
      tabulate-same 8 _ _
      (λ r h. ap (λ (t : Bool). pick t (grown b.window (get_or b.counts r 0)) (get_or b.counts r 0)) (joins-same r))

  nexts-same : nexts_after b e.offer ≡ nexts_after b e'.offer
  nexts-same =
      tabulate-same 8 _ _
      (λ r h. ap (λ (t : Bool). pick t (following b.window (get_or b.nexts r 0)) (get_or b.nexts r 0)) (joins-same r))

  sum_same : (ring : List ℤ) (r m : ℕ) → r < R → m < M → sum_after b ring e.offer r m ≡ sum_after b ring e'.offer r m
  sum_same ring r m h l =
      let was = get_or b.sums (place_of r m) (pos 0) in
      let mark = get_or e.offer.marked r 0 in
      let sum : ℤ → ℤ = λ x. was +ℤ (x -ℤ leaving b ring r m) in
      pick_same (joins b e.offer r) (sum (joining e.offer (r * M + m))) (sum (joining e'.offer (r * M + m))) was
      (λ t. ap sum (same.prices r m h l (eqb-true mark 0 (and_right (ltb r R) (eqb mark 0) t))))
      ∙ ap (λ (t : Bool). pick t (sum (joining e'.offer (r * M + m))) was) (joins-same r)

  sums_same : (ring : List ℤ) → sums_after b ring e.offer ≡ sums_after b ring e'.offer
  sums_same ring =
      tabulate-same 88 _ _ (λ k h. pick_same (used_place R b.services k) _ _ _
      (λ t. sum_same ring (k / 11) (k % 11) (ltb-true (k / 11) R (and_left (ltb (k / 11) R) (leb (k % 11) b.services) t))
      (omega (arith, leb-true (k % 11) b.services (and_right (ltb (k / 11) R) (leb (k % 11) b.services) t)))))

  ring-same : (ring : List ℤ) → ring_after b ring e.offer ≡ ring_after b ring e'.offer
  ring-same ring = tabulate-same (length ring) _ _ (λ i h. at i)
    where
      at : (i : ℕ) → pick (written b e.offer i) (joining e.offer (i / b.window)) (get_or ring i (pos 0))
          ≡ pick (written b e'.offer i) (joining e'.offer (i / b.window)) (get_or ring i (pos 0))
      at i =
          let q = i / b.window in
          let here = eqb (i % b.window) (get_or b.nexts (q / M) 0) in
          pick_same (written b e.offer i) (joining e.offer q) (joining e'.offer q) (get_or ring i (pos 0))
          (λ t. joining-same q (and_left (joins b e.offer (q / M)) here t))
          ∙ ap (λ (t : Bool). pick (t && here) (joining e'.offer q) (get_or ring i (pos 0))) (joins-same (q / M))

  -- step 6 reads the sums alone
  book-same : (ring : List ℤ) → book_after b ring e ≡ book_after b ring e'
  book-same ring = rw (counts_same, nexts-same, sums_same ring)

  -- ---- an accepted entry: a mark that is not 1 is 0
  module _ (ring number table : ℕ) (a : Accepts b ring number e table) where
    published-alike : Publishing.Alike (terms_of b) e e'
    published-alike = record {
      kind = same.kind;
      marked = same.marked;
      prices = λ r m h l u. same.prices r m h l (omega (arith, a.marks r h, eqb-false (get_or e.offer.marked r 0) 1 u));
      schedule = λ r m h l u. same.schedule r m h l (eqb-true (get_or e.offer.marked r 0) 1 u);
      linked = same.linked;
      extra = same.extra;
    }

  accepted-same : (ring : List ℤ) (number table : ℕ) → Accepts b (length ring) number e table → acceptance b ring e ≡ acceptance b ring e'
  accepted-same ring number table a =
      let ok = terms-ok b (valid-is b a.valid) in
      let alike = published-alike (length ring) number table a in
      rw (count_same (terms_of b) ok b.marks e e' alike, table_same (terms_of b) ok b.marks e e' alike, book-same ring, ring-same ring)

  -- the theorem: whatever the two entries hold where nothing is looked at, verdict, count, book, ring and table are the same
  pub entered-same : (ring : List ℤ) (number : ℕ) (table : List ℤ) → entered b ring number e table ≡ entered b ring number e' table
  unfolding entered
  entered-same ring number table =
      let w = verdict-same (length ring) number (length table) in
      by-test (is_accepted (enter_verdict b (length ring) number e (length table)))
      (λ t. rw (t, sym (ap is_accepted w) ∙ t)
      (accepted-same ring number (length table) (accepted-entry b (length ring) number e (length table) t)))
      (λ t. rw (t, sym (ap is_accepted w) ∙ t)
      (ap (λ (v : Verdict). record { verdict = v; count = 0; book = b; ring = ring; table = table }) w))
