-- What an interval that was accepted says: its records stand whole, its entry was accepted, and the book has the shape that it had. Assumes nothing.
use mathlib.Core.Path.{◌≡◌, refl, ap, ◌∙◌}
use mathlib.Core.Bool.{Bool, true, false, not}
use mathlib.Core.List.{List}
use Prim.Native.Nat.{ℕ, ◌+◌, ◌≤◌}
use native.Mathlib.Omega.{arith}
use lib.IntN.{ℤ}
use lib.ListN.{length}
use Rattle.laws.specs.Base.{pick}
use Rattle.laws.proofs.Tests.{by-test, never}
use Rattle.book.specs.declared.record.Book.{Book}
use Rattle.book.specs.Record.{markets_of, has_link, is_accepted}
use Rattle.book.specs.Validity.{valid}
use Rattle.book.proofs.Passes.{passes-not}
use Rattle.entries.specs.Entering as Entering
use Rattle.entries.specs.Working.{acceptance}
use Rattle.entries.proofs.Unmoved.{entered-is}
use Rattle.publishing.specs.Entry.{Entry, entry_of}
use Rattle.interval_records.specs.Layout.{Interval, length_for}
use Rattle.intervals.specs.Lent.{slices_ok}
use Rattle.intervals.specs.Reading as Reading
use Rattle.intervals.proofs.Ways.{all_room}
use Rattle.interval_entry.specs.Taking.{Outcome, entered_from, stopped, gone, taken_into}

-- ---- a reading that was accepted: the place after it is within the records
module _ (b : Book) (records : List ℕ) (at : ℕ) (lent : Interval) (e : is_accepted (Reading.read_interval b records at lent).verdict ≡ true) where
  read-accepted : is_accepted (Reading.read_verdict b lent records at) ≡ true
  unfolding Reading.read_interval
  read-accepted = by-test (is_accepted (Reading.read_verdict b lent records at)) (λ t. t) (λ t. rw t at e)

  read_next : (Reading.read_interval b records at lent).next ≡ at + length_for b
  unfolding Reading.read_interval
  read_next = rw read-accepted refl

  read-room : at + length_for b ≤ length records
  unfolding Reading.read_verdict
  read-room =
      let v = passes-not (valid b) _ _ refl read-accepted in
      let l = passes-not (slices_ok b lent) _ _ refl v.1 in
      all_room (has_link b) b.regions (markets_of b.services) records at l.1

-- ---- an interval that was accepted
pub record Taken (b : Book) (records : List ℕ) (at : ℕ) (o : Outcome) : Type 0 where
  pub next : o.next ≡ at + length_for b
  pub room : o.next ≤ length records
  pub regions : o.book.regions ≡ b.regions
  pub services : o.book.services ≡ b.services
  pub window : o.book.window ≡ b.window
  pub halves : o.book.halves ≡ b.halves

module _ (lent : Interval) (table : List ℤ) (b : Book) (ring : List ℤ) (records : List ℕ) (at : ℕ) (schedule : List ℤ) (region : ℕ) where
  abbrev read : Reading.Outcome
  read = Reading.read_interval b records at lent

  abbrev entry : Entry
  entry = let v = read.interval in entry_of v.kind v.prices v.marked v.flows v.factors schedule

  abbrev entered : Entering.Outcome
  entered = entered_from b ring schedule table read.interval

  abbrev all : Outcome
  all = taken_into lent table b ring records at schedule region

  -- the reader's refusal, then the entry's, by what was accepted
  abbrev tests : Bool → Bool → Outcome
  tests r e =
      pick (not r) (stopped read.verdict b ring)
      (pick (not e) (stopped entered.verdict b ring)
      (gone b region read entered))

  all-by : all ≡ tests (is_accepted read.verdict) (is_accepted entered.verdict)
  unfolding taken_into
  all-by = refl

  -- both were accepted, and the outcome is theirs
  pub both : is_accepted all.verdict ≡ true → (is_accepted read.verdict ≡ true) × (is_accepted entered.verdict ≡ true) × (all ≡ gone b region read entered)
  both e =
      let a : is_accepted (tests (is_accepted read.verdict) (is_accepted entered.verdict)).verdict ≡ true = rw (← all-by) e in
      by-test (is_accepted read.verdict)
      (λ r. by-test (is_accepted entered.verdict) (λ t. (r, t, rw (all-by, r, t) refl)) (λ t. never _ (rw (r, t) at a) t))
      (λ r. never _ (rw r at a) r)

  -- refused: book and ring are as they were
  pub taken_not : is_accepted all.verdict ≡ false → (all.book ≡ b) × (all.ring ≡ ring)
  taken_not e =
      by-test (is_accepted read.verdict)
      (λ r.
      by-test (is_accepted entered.verdict)
      (λ t. never (is_accepted all.verdict) (rw (all-by, r, t) refl) e)
      (λ t. (rw (all-by, r, t) refl, rw (all-by, r, t) refl)))
      (λ r. (rw (all-by, r) refl, rw (all-by, r) refl))

  pub taken_is : is_accepted all.verdict ≡ true → Taken b records at all
  taken_is e =
      let p = both e in
      let q = entered-is b ring read.interval.number entry table p.1 in
      let k : all.book ≡ (acceptance b ring entry).book = ap (λ (o : Outcome). o.book) p.2 ∙ ap (λ (o : Entering.Outcome). o.book) q.1 in
      let n : all.next ≡ at + length_for b = ap (λ (o : Outcome). o.next) p.2 ∙ read_next b records at lent p.0 in
      record {
        next = n;
        room = omega (arith, n, read-room b records at lent p.0);
        regions = ap (λ (x : Book). x.regions) k;
        services = ap (λ (x : Book). x.services) k;
        window = ap (λ (x : Book). x.window) k;
        halves = ap (λ (x : Book). x.halves) k;
      }
