-- What an accepted entry has passed, and the two ways out of the whole call. Assumes nothing.
use mathlib.Core.Path.{◌≡◌, refl, sym, ap, ◌∙◌}
use mathlib.Core.Bool.{true, false, not}
use mathlib.Core.List.{List}
use Prim.Native.Nat.{ℕ, ◌+◌, ◌*◌, ◌<◌}
use native.Mathlib.Omega.{arith}
use borrow.Author.Tests.{ltb-false, leb-false, eqb-true, not-false}
use lib.Dec.{leb, ltb, eqb}
use lib.IntN.{ℤ, pos}
use lib.ListN.{length, get_or}
use Rattle.laws.proofs.Lists.{first_below-passed, flat-div, flat-mod, flat-lt}
use Rattle.laws.proofs.Tests.{and_left, by-test, never}
use Rattle.book.proofs.Passes.{passes}
use Rattle.pricing.specs.Verdict.{accepted, refused, refused_at}
use Rattle.pricing.specs.Holding.{is_energy, in_range}
use Rattle.book.specs.declared.record.Book.{Book}
use Rattle.book.specs.Record.{markets_of, table_size, ring_size, is_accepted}
use Rattle.book.specs.Validity.{valid}
use Rattle.publishing.specs.Entry.{Entry}
use Rattle.publishing.specs.Published.{table_of, count_of}
use Rattle.entries.specs.Checking.{Shape, lengths_ok, first_mark, bad_price, first_price, entry_verdict}
use Rattle.counting.specs.Windows.{unmarked, joining, ring_after}
use Rattle.entries.specs.Entering.{shape_of, terms_of, book_after, Outcome, enter_verdict, entered}
use Rattle.ledger.proofs.Ranges.{Ranged}

-- what passes 11 to 17
pub record Passed (s : Shape) (taken ring number : ℕ) (e : Entry) : Type 0 where
  pub ring-size : ring ≡ ring_size s.regions s.services s.window
  pub room : taken < 10000000
  pub next : number ≡ taken
  pub price : (r m : ℕ) → r < s.regions → m < markets_of s.services → unmarked e.offer r ≡ true → Ranged m (joining e.offer (r * markets_of s.services + m))

module _ (R M : ℕ) (prices : List ℤ) (marked : List ℕ) (e : ltb (first_price R M prices marked) (R * M) ≡ false) where
  price-good : (k : ℕ) → k < R * M → bad_price M prices marked k ≡ false
  price-good k h = first_below-passed (R * M) (bad_price M prices marked) k (omega (arith, ltb-false (first_price R M prices marked) (R * M) e))

  price-at : (r m : ℕ) → r < R → m < M → eqb (get_or marked r 0) 0 ≡ true → Ranged m (get_or prices (r * M + m) (pos 0))
  price-at r m h l t =
      let g : bad_price M prices marked (r * M + m) ≡ false = price-good (r * M + m) (flat-lt r m R M h l) in
      not-false (in_range (is_energy m) (get_or prices (r * M + m) (pos 0))) (rw (flat-div r m M l, flat-mod r m M l, t) at g)

module _ (s : Shape) (taken ring number : ℕ) (e : Entry) (table : ℕ) (ok : is_accepted (entry_verdict s taken ring number e table) ≡ true) where
  pub passed : Passed s taken ring number e
  unfolding entry_verdict
  passed =
      let a = passes (not (lengths_ok s ring e table)) (refused 11) _ refl ok in
      let b = passes (leb 10000000 taken) (refused 12) _ refl a.1 in
      let c = passes (not (eqb number taken)) (refused 13) _ refl b.1 in
      let d = passes (not (leb e.offer.kind 1)) (refused 14) _ refl c.1 in
      let f = passes (ltb (first_mark s.regions e.offer.marked) s.regions) (refused_at 15 (first_mark s.regions e.offer.marked)) _ refl d.1 in
      let g = passes (ltb (first_price s.regions (markets_of s.services) e.offer.prices e.offer.marked) (table_size s.regions s.services)) (refused_at 16 (first_price s.regions (markets_of s.services) e.offer.prices e.offer.marked)) _ refl f.1 in
      record {
        ring-size = eqb-true _ _ (lengths-ring (not-false _ a.0));
        room = leb-false 10000000 taken b.0;
        next = eqb-true number taken (not-false _ c.0);
        price = price-at s.regions (markets_of s.services) e.offer.prices e.offer.marked g.0;
      }
    where
      lengths-ring : lengths_ok s ring e table ≡ true → eqb ring (ring_size s.regions s.services s.window) ≡ true
      lengths-ring h = and_left _ _ (and_left _ _ (and_left _ _ (and_left _ _ (and_left _ _ (and_left _ _ h)))))

module _ (b : Book) (ring : List ℤ) (number : ℕ) (e : Entry) (table : List ℤ) where
  -- the outcome of an accepted entry
  abbrev pub entry_outcome : Outcome
  entry_outcome = record {
    verdict = accepted;
    count = count_of (terms_of b) b.marks e;
    book = book_after b ring e;
    ring = ring_after b ring e.offer;
    table = table_of (terms_of b) b.marks e;
  }

  -- and of a refused one
  abbrev pub refused_outcome : Outcome
  refused_outcome = record { verdict = enter_verdict b (length ring) number e (length table); count = 0; book = b; ring = ring; table = table }

  pub entered-accepted : is_accepted (enter_verdict b (length ring) number e (length table)) ≡ true → entered b ring number e table ≡ entry_outcome
  unfolding entered
  entered-accepted h = rw h

  pub entered-refused : is_accepted (enter_verdict b (length ring) number e (length table)) ≡ false → entered b ring number e table ≡ refused_outcome
  unfolding entered
  entered-refused h = rw h

  -- the verdict of the call is its verdict's
  pub entered-verdict : is_accepted (entered b ring number e table).verdict ≡ true → is_accepted (enter_verdict b (length ring) number e (length table)) ≡ true
  entered-verdict h =
      by-test (is_accepted (enter_verdict b (length ring) number e (length table))) (λ t. t)
      (λ t. never _ (sym (ap (λ (o : Outcome). is_accepted o.verdict) (entered-refused t)) ∙ h) t)

  pub enter-valid : is_accepted (enter_verdict b (length ring) number e (length table)) ≡ true → valid b ≡ true
  enter-valid h = not-false (valid b) (passes (not (valid b)) (refused 10) (entry_verdict (shape_of b) b.entries (length ring) number e (length table)) refl h).0

  pub enter-passed : is_accepted (enter_verdict b (length ring) number e (length table)) ≡ true → Passed (shape_of b) b.entries (length ring) number e
  enter-passed h =
      passed (shape_of b) b.entries (length ring) number e (length table)
      (passes (not (valid b)) (refused 10) (entry_verdict (shape_of b) b.entries (length ring) number e (length table)) refl h).1
