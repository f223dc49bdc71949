-- Which refusals the day of a bill can end in: never 11, and 10 only over a ring that others changed. Assumes nothing.
use mathlib.Core.Path.{◌≡◌, refl, sym, ap, subst, ◌∙◌}
use mathlib.Core.Bool.{Bool, true, false, not}
use mathlib.Core.Logic.{◌⊎◌, inl, inr, ⊎_elim}
use mathlib.Core.List.{List}
use Prim.Native.Nat.{ℕ, zero, suc, ◌+◌, ◌*◌, ◌≤◌, ◌<◌}
use native.Mathlib.Omega.{arith}
use borrow.Author.Tests.{eq-eqb}
use lib.Dec.{leb, ltb, eqb}
use lib.IntN.{ℤ, pos}
use lib.ListN.{length, length-replicate}
use Rattle.laws.specs.Base.{pick}
use Rattle.laws.proofs.Tests.{by-test, never}
use Rattle.laws.proofs.Lists.{length_run}
use Rattle.pricing.specs.Verdict.{Verdict, accepted, refused, refused_at}
use Rattle.book.specs.declared.record.Book.{Book}
use Rattle.book.specs.Record.{markets_of, table_size, ring_size, has_link, link_count, is_accepted}
use Rattle.book.specs.Validity.{valid}
use Rattle.book.proofs.Passes.{passes-not}
use Rattle.image.specs.Storing.{prices_ok}
use Rattle.publishing.specs.Entry.{Entry, entry_of}
use Rattle.counting.specs.Windows.{ring_after}
use Rattle.entries.specs.Checking.{lengths_ok, first_mark, first_price, first_factor, entry_verdict}
use Rattle.entries.specs.Entering as Entering
use Rattle.entries.proofs.Unmoved.{verdict-is, entered-is}
use Rattle.interval_records.specs.Layout.{head_length}
use Rattle.interval_records.specs.InOrder.{ordered_verdict}
use Rattle.interval_records.proofs.Places.{each-ordered}
use Rattle.intervals.specs.Lent.{slices_ok}
use Rattle.intervals.specs.Reading as Reading
use Rattle.intervals.proofs.Lasts.{last-length}
use Rattle.bill_lines.specs.declared.lent.Lengths.{Lengths}
use Rattle.bill_lines.specs.Lent as Lent
use Rattle.bill_lines.specs.Lent.{lent_verdict}
use Rattle.bill_lines.proofs.Lents.{LentOk, lent_is}
use Rattle.interval_entry.specs.Taking as Taking
use Rattle.interval_entry.proofs.Steps.{taken_is, both}
use Rattle.ledger.proofs.Steps.{ring-length}
use Rattle.ledger.proofs.Keeping.{Kept, entered-kept}
use Rattle.billing.specs.Billing.{Bill, State, taken_here, after, runs, begins, day_of, lengths_of}

-- ---- an acceptance is all of it
pub lent-accepted : (b : Book) (n : Lengths) (region : ℕ) → is_accepted (lent_verdict b n region) ≡ true → lent_verdict b n region ≡ accepted
unfolding lent_verdict
lent-accepted b n region e =
    let v = passes-not (valid b) _ _ refl e in
    let l = passes-not (Lent.lengths_ok b n) _ _ refl v.1 in
    let r = passes-not (ltb region b.regions) _ _ refl l.1 in
    rw (v.0, l.0, r.0) refl

-- ---- a property of every end of a day: had of an acceptance, and of each refusal where what is kept from interval to interval holds
module _ (bill : Bill) (P : Verdict → Type 0) (Inv : State → Type 0) (acceptance : P accepted)
    (refusals : (s : State) → Inv s → is_accepted (taken_here bill s).verdict ≡ false → P (taken_here bill s).verdict)
    (keeps : (s : State) → Inv s → is_accepted (taken_here bill s).verdict ≡ true → Inv (after s (taken_here bill s))) where
  every : (n : ℕ) (s : State) → Inv s → P (runs n bill s).verdict
  unfolding runs
  every zero s h = acceptance
  every (suc n) s h =
      by-test (leb (length bill.records) s.at)
      (λ e. rw e acceptance)
      (λ e.
      by-test (is_accepted (taken_here bill s).verdict)
      (λ t. rw (e, t) (every n (after s (taken_here bill s)) (keeps s h t)))
      (λ t. rw (e, t) (refusals s h t)))

pub day-accepted : (b : Book) (ring : List ℤ) (bill : Bill) → is_accepted (day_of b ring bill).verdict ≡ true → (day_of b ring bill).verdict ≡ accepted
day-accepted b ring bill =
    every bill (λ v. is_accepted v ≡ true → v ≡ accepted) (λ s. ℕ) (λ e. refl) (λ s h f e. never _ e f) (λ s h t. h) (length bill.records) (begins b ring) 0

-- ---- an acceptance, or a refusal from number k on
pub record From (k : ℕ) (v : Verdict) : Type 0 where
  pub from : (v.number ≡ 0) ⊎ (k ≤ v.number)

yes : (k : ℕ) → From k accepted
yes k = record { from = inl refl }

no : (k n place : ℕ) → k ≤ n → From k (refused_at n place)
no k n place h = record { from = inr h }

more : {k : ℕ} {v : Verdict} → 12 ≤ k → From k v → From 12 v
more h f = record { from = ⊎_elim (λ a. inl a) (λ a. inr (omega arith)) f.from }

choice : {k : ℕ} (t : Bool) {v w : Verdict} → From k v → From k w → From k (pick t v w)
choice true a b = a
choice false a b = b

is-not : {v : Verdict} (n : ℕ) → 1 ≤ n → n < 12 → From 12 v → v.number ≡ n → ⊥
is-not n a b f e = ⊎_elim (λ z. absurd (omega arith)) (λ z. absurd (omega arith)) f.from

-- ---- an interval on a book that rule 10 accepts, with a ring and a schedule of its lengths
pub record Fits (b : Book) (ring schedule : ℕ) : Type 0 where
  pub ring-size : ring ≡ ring_size b.regions b.services b.window
  pub schedule-size : schedule ≡ table_size b.regions b.services * 2 * b.halves

module _ (b : Book) (ring : List ℤ) (records : List ℕ) (at : ℕ) (schedule : List ℤ) (region : ℕ) (f : Fits b (length ring) (length schedule)) where
  abbrev n : ℕ
  n = table_size b.regions b.services

  abbrev M : ℕ
  M = markets_of b.services

  abbrev read : Reading.Outcome
  read = Reading.read_interval b records at (Taking.blank b)

  abbrev entry : Entry
  entry = let v = read.interval in entry_of v.kind v.prices v.marked v.flows v.factors schedule

  -- the reader's 11 never: it is lent slices of the book's sizes
  blank-sized : slices_ok b (Taking.blank b) ≡ true
  blank-sized =
      rw (eq-eqb _ _ (length-replicate n (pos 0)), eq-eqb _ _ (length-replicate {A = ℕ} b.regions 0), eq-eqb _ _ (length-replicate (link_count b) (pos 0)), eq-eqb _ _ (length-replicate {A = ℕ} (link_count b) 0))
      refl

  ordered : From 40 (ordered_verdict (has_link b) b.regions M records at)
  ordered = each-ordered (From 40) (yes 40) (no 40 40 0 (omega arith)) (no 40 41 0 (omega arith)) M records (no 40 45 0 (omega arith)) (has_link b) b.regions at

  read-verdict : valid b ≡ true → Reading.read_verdict b (Taking.blank b) records at ≡ ordered_verdict (has_link b) b.regions M records at
  unfolding Reading.read_verdict
  read-verdict v = rw (v, blank-sized) refl

  read-from : valid b ≡ true → From 12 read.verdict
  unfolding Reading.read_interval
  read-from v =
      by-test (is_accepted (Reading.read_verdict b (Taking.blank b) records at))
      (λ t. rw t (yes 12))
      (λ t. rw (t, read-verdict v) (more (omega arith) ordered))

  -- nor the entry's: what was read has the book's sizes
  entry-sized : is_accepted read.verdict ≡ true → lengths_ok (Entering.shape_of b) (length ring) entry (length (Taking.blank_table b)) ≡ true
  unfolding Reading.read_interval
  entry-sized e =
      by-test (is_accepted (Reading.read_verdict b (Taking.blank b) records at))
      (λ t.
      rw (
        t,
        eq-eqb _ _ f.ring-size,
        eq-eqb _ _ (length_run (Reading.price_from M records (at + head_length) (λ r. r)) n 0),
        eq-eqb _ _ (length_run (Reading.mark_from M records (at + head_length) (λ r. r)) b.regions 0),
        eq-eqb _ _ (last-length (Reading.flow_from M records (at + head_length) (λ r. r)) b.regions (Reading.link_flow b.regions M records (at + head_length)) (has_link b)),
        eq-eqb _ _ (last-length (Reading.factor_from M records (at + head_length) (λ r. r)) b.regions (Reading.link_factor b.regions M records (at + head_length)) (has_link b)),
        eq-eqb _ _ f.schedule-size,
        eq-eqb _ _ (length-replicate n (pos 0)),
      )
      refl)
      (λ t. never _ (rw t at e) t)

  entry-from : valid b ≡ true → is_accepted read.verdict ≡ true → From 12 (Entering.enter_verdict b (length ring) read.interval.number entry (length (Taking.blank_table b)))
  unfolding entry_verdict
  entry-from v e =
      rw (v, entry-sized e)
      (choice (leb 10000000 b.entries) (no 12 12 0 (omega arith))
      (choice (not (eqb read.interval.number b.entries)) (no 12 13 0 (omega arith))
      (choice (not (leb entry.offer.kind 1)) (no 12 14 0 (omega arith))
      (choice (ltb (first_mark b.regions entry.offer.marked) b.regions) (no 12 15 _ (omega arith))
      (choice (ltb (first_price b.regions M entry.offer.prices entry.offer.marked) n) (no 12 16 _ (omega arith))
      (choice (ltb (first_factor (link_count b) b.regions b.parents entry.factors) (link_count b)) (no 12 17 _ (omega arith))
      (yes 12)))))))

  pub step_from : valid b ≡ true → From 12 (Taking.taken b ring records at schedule region).verdict
  unfolding Taking.taken_into
  step_from v =
      by-test (is_accepted read.verdict)
      (λ r.
      let e = Taking.entered_from b ring schedule (Taking.blank_table b) read.interval in
      let w = verdict-is b ring read.interval.number entry (Taking.blank_table b) in
      by-test (is_accepted e.verdict) (λ t. rw (r, t) (yes 12)) (λ t. rw (r, t) (rw w (entry-from v r))))
      (λ r. rw r (read-from v))

  -- a book that rule 10 refuses is refused by 10
  pub step-10 : valid b ≡ false → (Taking.taken b ring records at schedule region).verdict ≡ refused 10
  unfolding Taking.taken_into Reading.read_interval Reading.read_verdict
  step-10 v = rw v refl

-- ---- the day
module _ (bill : Bill) where
  -- an accepted interval leaves a ring and a shape of the same lengths
  fits_after : (s : State) → Fits s.book (length s.ring) (length bill.schedule) → is_accepted (taken_here bill s).verdict ≡ true
      → Fits (taken_here bill s).book (length (taken_here bill s).ring) (length bill.schedule)
  fits_after s f t =
      let b = s.book in
      let x = Taking.blank b in
      let y = Taking.blank_table b in
      let p = both x y b s.ring bill.records s.at bill.schedule bill.region t in
      let k = taken_is x y b s.ring bill.records s.at bill.schedule bill.region t in
      let e = entered-is b s.ring (read b s.ring bill.records s.at bill.schedule bill.region f).interval.number
      (entry b s.ring bill.records s.at bill.schedule bill.region f) y p.1 in
      let r : (taken_here bill s).ring ≡ ring_after b s.ring (entry b s.ring bill.records s.at bill.schedule bill.region f).offer =
      ap (λ (o : Taking.Outcome). o.ring) p.2 ∙ ap (λ (o : Entering.Outcome). o.ring) e.1 in
      let l : length (taken_here bill s).ring ≡ length s.ring =
      ap length r ∙ ring-length b s.ring (entry b s.ring bill.records s.at bill.schedule bill.region f).offer in
      record {
        ring-size = l ∙ f.ring-size ∙ (λ i. ring_size (sym k.regions i) (sym k.services i) (sym k.window i));
        schedule-size = f.schedule-size ∙ (λ i. table_size (sym k.regions i) (sym k.services i) * 2 * sym k.halves i);
      }

  -- "an entry's 11 never occurs", nor a reading's
  pub day-no-11 : (n : ℕ) (s : State) → Fits s.book (length s.ring) (length bill.schedule) → (runs n bill s).verdict.number ≡ 11 → ⊥
  day-no-11 =
      every bill (λ v. v.number ≡ 11 → ⊥) (λ s. Fits s.book (length s.ring) (length bill.schedule))
      (λ e. absurd (omega arith))
      (λ s f r. by-test (valid s.book)
      (λ v. is-not 11 (omega arith) (omega arith) (step_from s.book s.ring bill.records s.at bill.schedule bill.region f v))
      (λ v e. absurd (omega (arith, ap (λ (x : Verdict). x.number) (step-10 s.book s.ring bill.records s.at bill.schedule bill.region f v)))))
      (λ s f t. fits_after s f t)

  -- with a ring whose counted prices are in range and whose totals are the sums, as 22 asks, 10 never occurs either
  pub record Sound (s : State) : Type 0 where
    pub kept : Kept s.book s.ring
    pub schedule-size : length bill.schedule ≡ table_size s.book.regions s.book.services * 2 * s.book.halves

  fits-of : (s : State) → Sound s → Fits s.book (length s.ring) (length bill.schedule)
  fits-of s h = record { ring-size = h.kept.ring-size; schedule-size = h.schedule-size }

  sound-after : (s : State) → Sound s → is_accepted (taken_here bill s).verdict ≡ true → Sound (after s (taken_here bill s))
  sound-after s h t =
      let b = s.book in
      let f = fits-of s h in
      let p = both (Taking.blank b) (Taking.blank_table b) b s.ring bill.records s.at bill.schedule bill.region t in
      let k = entered-kept b s.ring (read b s.ring bill.records s.at bill.schedule bill.region f).interval.number
      (entry b s.ring bill.records s.at bill.schedule bill.region f) (Taking.blank_table b) h.kept.prices p.1 in
      record {
        kept = subst (λ (o : Taking.Outcome). Kept o.book o.ring) (sym p.2) k;
        schedule-size = (fits_after s f t).schedule-size;
      }

  pub day-sound : (n : ℕ) (s : State) → Sound s → From 12 (runs n bill s).verdict
  day-sound =
      every bill (From 12) Sound (yes 12)
      (λ s h r. step_from s.book s.ring bill.records s.at bill.schedule bill.region (fits-of s h) h.kept.accepted)
      sound-after

-- ---- the call: once 10, 11 and 21 pass
module _ (b : Book) (ring work : List ℤ) (bill : Bill) (e : is_accepted (lent_verdict b (lengths_of ring work bill) bill.region) ≡ true) where
  abbrev ok : LentOk b (lengths_of ring work bill) bill.region
  ok = lent_is b (lengths_of ring work bill) bill.region e

  -- the day has no 11
  pub bill-no-11 : (day_of b ring bill).verdict.number ≡ 11 → ⊥
  bill-no-11 =
      day-no-11 bill (length bill.records) (begins b ring) (record { ring-size = ok.ring; schedule-size = ok.schedule })

  -- and no 10 over a ring whose counted prices are the sums
  pub bill-no-10 : prices_ok b ring ≡ true → (day_of b ring bill).verdict.number ≡ 10 → ⊥
  bill-no-10 p =
      is-not 10 (omega arith) (omega arith)
      (day-sound bill (length bill.records) (begins b ring)
      (record { kept = record { accepted = ok.valid; ring-size = ok.ring; prices = p }; schedule-size = ok.schedule }))
