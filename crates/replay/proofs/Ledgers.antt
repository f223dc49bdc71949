-- A replay after an accepted opening: each call is answered as the ledger machine does. Assumes nothing.
use mathlib.Core.Path.{◌≡◌, refl, sym, ap, ap₂, ◌∙◌, subst}
use mathlib.Core.Bool.{Bool, true, false, not, ◌&&◌}
use mathlib.Core.List.{List, ◌++◌, append-nil}
use Prim.Native.Nat.{ℕ, ◌+◌, ◌-◌, ◌*◌}
use native.Mathlib.Omega.{arith}
use borrow.Author.Tests.{eqb-true, eqb-false, eq-eqb, not-false}
use lib.Dec.{eqb, ltb}
use lib.IntN.{ℤ, pos}
use lib.ListN.{length, take, drop, replicate, length-replicate, length-append, length-drop, take-append-drop}
use lib.Seq.{sets, length-sets, length-take-le, take_all, drop-length}
use Rattle.laws.specs.Base.{pick}
use Rattle.laws.proofs.Tests.{by-test, and_right, never}
use Rattle.laws.proofs.Lists.{length_run}
use Rattle.pricing.specs.Verdict.{accepted, refused}
use Rattle.book.specs.declared.record.Book.{Book}
use Rattle.book.specs.declared.record.Settings.{Settings}
use Rattle.book.specs.Record.{table_size, ring_size, is_accepted, link_count}
use Rattle.book.specs.Validity.{valid}
use Rattle.publishing.specs.Entry.{Entry}
use Rattle.entries.specs.Checking.{lengths_ok, entry_verdict}
use Rattle.entries.specs.Entering.{enter_verdict}
use Rattle.book.proofs.Passes.{passes}
use Rattle.ledger.proofs.Checks.{entered-accepted, entered-refused, enter-passed}
use Rattle.book_calls.specs.Setting as Setting
use Rattle.book_calls.specs.Report as Report
use Rattle.entries.specs.Entering as Entering
use Rattle.head.specs.Layout.{length_of, image_of}
use Rattle.image.specs.Storing as Storing
use Rattle.image.specs.Loading as Loading
use Rattle.image.proofs.Typed.{Typed}
use Rattle.image.proofs.Lengths.{head-length, length-image}
use Rattle.image.proofs.Verdicts.{loaded-ok, ok-loaded, stored_ok, ok_stored}
use Rattle.ledger.specs.Calls as Calls
use Rattle.ledger.specs.Calls.{Call, Answer, Step}
use Rattle.ledger.specs.Ledger as Ledger
use Rattle.ledger.specs.Ledger.{Ledger}
use Rattle.ledger.specs.Book as Book
use Rattle.ledger.specs.Book.{Held, is_own}
use Rattle.ledger.proofs.Agrees.{Agree}
use Rattle.ledger.proofs.Theorem.{keeps, settings-play}
use Rattle.records.specs.Reading.{kind_at, lengths_at, entry_at, entry_number, signed_at, factors_at, table_at, call_size, answer_size, goes, fits}
use Rattle.records.specs.Writing.{plain_record, report_record}
use Rattle.records.proofs.Written.{length-head, length-entry, length-report}
use Rattle.playing.specs.Playing.{State, room_of, threshold_in, cap_in, floor_in, region_in, market_in, threshold, limits, report, entered_at, entered_record, entry, reload, restart_verdict, swapped, reloaded, restart}
use Rattle.playing.specs.Fed.{Lengths, call_at}
use Rattle.replay.specs.Promise.{record_of}
use Rattle.playing.proofs.Goes.{goes-fits, fits-table, fits-ring}
use Rattle.replay.proofs.Simulating.{Stepped}
use Rattle.playing.proofs.ByKind.{Kind, is-entry, is-threshold, is-limits, is-report, is-restart, kind-of, Says, entry-says, threshold-says, limits-says, report-says, restart-says}

abbrev pub held_of : State → Held
held_of s = record { book = s.book; ring = s.ring }

-- what is lent has these lengths
pub record Fits (m : Lengths) (s : State) : Type 0 where
  pub ring : length s.ring ≡ m.room.ring
  pub numbers : length s.numbers ≡ m.room.numbers
  pub factors : length s.factors ≡ m.room.factors
  pub table : length s.table ≡ m.room.table
  pub other : length s.other ≡ m.other
  pub image : length s.image ≡ m.image

pub fits-room : (m : Lengths) (s : State) → Fits m s → room_of s ≡ m.room
fits-room m s f = λ i. record { ring = f.ring i; numbers = f.numbers i; factors = f.factors i; table = f.table i }

pub record Good (m : Lengths) (s : State) (p : Ledger) : Type 0 where
  pub agree : Agree (held_of s) p
  pub lent : Fits m s

-- a ring's length is its ledger's
ring-length : (s : Held) (p : Ledger) → Agree s p → length s.ring ≡ ring_size p.settings.regions p.settings.services p.settings.window
ring-length s p a = rw (a.regions, a.services, a.window) a.holds.ring-size

-- an entry leaves the table's length
module _ (b : Book) (ring : List ℤ) (number : ℕ) (e : Entry) (table : List ℤ) where
  table-size : is_accepted (enter_verdict b (length ring) number e (length table)) ≡ true → length table ≡ table_size b.regions b.services
  unfolding entry_verdict
  table-size h =
      let v = passes (not (valid b)) (refused 10) (entry_verdict (Entering.shape_of b) b.entries (length ring) number e (length table)) refl h in
      let l = passes (not (lengths_ok (Entering.shape_of b) (length ring) e (length table))) (refused 11) _ refl v.1 in
      eqb-true (length table) (table_size b.regions b.services) (last (not-false (lengths_ok (Entering.shape_of b) (length ring) e (length table)) l.0))
    where
      last : lengths_ok (Entering.shape_of b) (length ring) e (length table) ≡ true → eqb (length table) (table_size b.regions b.services) ≡ true
      last h =
          and_right
          (eqb (length ring) (ring_size b.regions b.services b.window)
          && eqb (length e.offer.prices) (table_size b.regions b.services)
          && eqb (length e.offer.marked) b.regions
          && eqb (length e.flows) (link_count b)
          && eqb (length e.factors) (link_count b)
          && eqb (length e.offer.schedule) (table_size b.regions b.services * 2 * b.halves))
          (eqb (length table) (table_size b.regions b.services)) h

  table_kept : length (Entering.entered b ring number e table).table ≡ length table
  table_kept =
      by-test (is_accepted (enter_verdict b (length ring) number e (length table)))
      (λ t. ap (λ (x : Entering.Outcome). length x.table) (entered-accepted b ring number e table t) ∙ length_run _ (table_size b.regions b.services) 0 ∙ sym (table-size t))
      (λ t. ap (λ (x : Entering.Outcome). length x.table) (entered-refused b ring number e table t))

-- ---- a restart's two ways to say the same: what is then held, and what is answered
module _ (b : Book) (ring other : List ℤ) (o : Storing.Outcome) (l : Loading.Outcome) (handed : o.book ≡ b) where
  held_by : (v w : Bool) → is_accepted o.verdict ≡ v → is_accepted l.verdict ≡ w
      → ◌≡◌ {A = Held} (record {
        book = pick (is_accepted (pick v l.verdict o.verdict)) l.book b;
        ring = pick (is_accepted (pick v l.verdict o.verdict)) (pick v l.ring other) ring;
      })
      (pick {A = Step Held} v (pick w (record { state = record { book = l.book; ring = l.ring }; answer = Calls.restarted accepted }) (record { state = record { book = o.book; ring = ring }; answer = Calls.restarted l.verdict }))
      (record { state = record { book = o.book; ring = ring }; answer = Calls.restarted o.verdict })).state
  held_by true true p q = rw q
  held_by true false p q = rw q (λ i. record { book = sym handed i; ring = ring })
  held_by false w p q = rw p (λ i. record { book = sym handed i; ring = ring })

module _ (b : Book) (ring : List ℤ) (o : Storing.Outcome) (l : Loading.Outcome) (is : is_accepted l.verdict ≡ true → l.verdict ≡ accepted) where
  abbrev answered : Bool → Bool → Answer
  answered v w =
      (pick {A = Step Held} v (pick w (record { state = record { book = l.book; ring = l.ring }; answer = Calls.restarted accepted }) (record { state = record { book = o.book; ring = ring }; answer = Calls.restarted l.verdict }))
      (record { state = record { book = o.book; ring = ring }; answer = Calls.restarted o.verdict })).answer

  answer-by : (v w : Bool) → is_accepted l.verdict ≡ w → answered v w ≡ Calls.restarted (pick v l.verdict o.verdict)
  answer-by true true q = ap Calls.restarted (sym (is q))
  answer-by true false q = refl
  answer-by false w q = refl

module _ (l : List ℕ) (ring : List ℤ) where
  accepted-is : is_accepted (Loading.loaded l ring).verdict ≡ true → (Loading.loaded l ring).verdict ≡ accepted
  accepted-is e = ap (λ (x : Loading.Outcome). x.verdict) (ok-loaded l ring (loaded-ok l ring e))

  loaded-not : is_accepted (Loading.loaded l ring).verdict ≡ false → (Loading.loaded l ring).ring ≡ ring
  unfolding Loading.loaded
  loaded-not e = by-test (is_accepted (Loading.load_verdict l (length ring))) (λ t. never true refl (rw t at e)) (λ t. rw t)

stored-not : (b : Book) (ring : List ℤ) (buffer : List ℕ) → is_accepted (Storing.stored false b ring buffer).verdict ≡ false → (Storing.stored false b ring buffer).buffer ≡ buffer
unfolding Storing.stored
stored-not b ring buffer e = by-test (is_accepted (Storing.store_verdict false b ring (length buffer))) (λ t. never true refl (rw t at e)) (λ t. rw t)

buffer-kept : (b : Book) (ring : List ℤ) (buffer : List ℕ) → Typed b → length (Storing.stored false b ring buffer).buffer ≡ length buffer
buffer-kept b ring buffer t =
    by-test (is_accepted (Storing.stored false b ring buffer).verdict)
    (λ e. let ok = stored_ok false b ring buffer e in
    ap (λ (x : Storing.Outcome). length x.buffer) (ok_stored false b ring buffer ok) ∙ length-append (image_of false b ring) (drop (length_of false b) buffer)
    ∙ omega (arith, length-image false b ring ok.book (head-length (length_of false b) 1 b t), length-drop (length_of false b) buffer, ok.room))
    (λ e. ap length (stored-not b ring buffer e))

right-ring : (p : Ledger) (buffer ring : ℕ) → is_accepted (Ledger.restart_verdict false p buffer ring) ≡ true → ring ≡ ring_size p.settings.regions p.settings.services p.settings.window
unfolding Ledger.restart_verdict
right-ring p buffer ring e =
    let k = passes (not (Ledger.allowed false p)) (refused 47) _ refl e in
    let a = passes (ltb buffer (Ledger.image_length false p)) (refused 23) _ refl k.1 in
    let b = passes (not (eqb ring (ring_size p.settings.regions p.settings.services p.settings.window))) (refused 11) accepted refl a.1 in
    eqb-true ring (ring_size p.settings.regions p.settings.services p.settings.window) (not-false (eqb ring (ring_size p.settings.regions p.settings.services p.settings.window)) b.0)

module _ (c : List ℕ) (m : Lengths) (s : State) (p : Ledger) (g : Good m s p) where
  abbrev h : Held
  h = held_of s

  -- a call of the book's, and the call that P is fed, to which it answers alike
  module _ (own fed : Call) (alike : Ledger.play p own ≡ Ledger.play p fed) (written : (a : Answer) → record_of own a ≡ record_of fed a) (after : State) (size : ℕ) (says : Says m c s fed after size) where
    pub stepped : (r : List ℕ) → record_of own (Book.play h own).answer ≡ r → length r ≡ size
        → after.at ≡ s.at + call_size c s.at → after.out ≡ s.out + answer_size c s.at → after.answers ≡ sets s.answers s.out r
        → held_of after ≡ (Book.play h own).state → Fits m after → Stepped Ledger.play c m (Good m) s p (call_at m c s.at)
    stepped r e n at out answers held f =
        let k = keeps h p own g.agree in
        let said : record_of fed (Ledger.play p fed).answer ≡ r =
        ap (λ (x : Step Ledger). record_of fed x.answer) (sym alike) ∙ sym (written (Ledger.play p own).answer) ∙ ap (record_of own) (sym k.0) ∙ e in
        let q : Agree (held_of after) (Ledger.play p fed).state =
        subst (λ (x : Step Ledger). Agree (held_of after) x.state) alike (subst (λ (x : Held). Agree x (Ledger.play p own).state) (sym held) k.1) in
        subst (λ (x : Call). Stepped Ledger.play c m (Good m) s p x) (sym says.call-is)
        (record {
          at = ap (λ (x : State). x.at) says.after_is ∙ at;
          out = ap (λ (x : State). x.out) says.after_is ∙ out;
          size = ap length said ∙ n ∙ sym says.size_is;
          answers = ap (λ (x : State). x.answers) says.after_is ∙ answers ∙ ap (sets s.answers s.out) (sym said);
          good = subst (λ (x : State). Good m x (Ledger.play p fed).state) (sym says.after_is) (record { agree = q; lent = f });
        })

  -- ---- settings and reports: nothing that is lent is touched
  kept : (b : Book) (r : List ℕ) → Fits m (record { book = b; ring = s.ring; other = s.other; image = s.image; numbers = s.numbers; factors = s.factors; table = s.table; at = s.at + call_size c s.at; out = s.out + answer_size c s.at; answers = sets s.answers s.out r })
  kept b r = let f = g.lent in record { ring = f.ring; numbers = f.numbers; factors = f.factors; table = f.table; other = f.other; image = f.image }

  threshold-steps : kind_at c s.at ≡ 66 → Stepped Ledger.play c m (Good m) s p (call_at m c s.at)
  unfolding Book.play
  threshold-steps k =
      let o = Setting.set_threshold s.book (threshold_in c s.at) in
      let x = Calls.threshold (threshold_in c s.at) in
      stepped x x refl (λ a. refl) (threshold c s) 14 (threshold-says m c s k) (plain_record 66 o.verdict) refl (length-head 14 66 o.verdict) refl refl refl refl (kept o.book (plain_record 66 o.verdict))

  limits-steps : kind_at c s.at ≡ 67 → Stepped Ledger.play c m (Good m) s p (call_at m c s.at)
  unfolding Book.play
  limits-steps k =
      let o = Setting.set_limits s.book (cap_in c s.at) (floor_in c s.at) in
      let x = Calls.limits (cap_in c s.at) (floor_in c s.at) in
      stepped x x refl (λ a. refl) (limits c s) 14 (limits-says m c s k) (plain_record 67 o.verdict) refl (length-head 14 67 o.verdict) refl refl refl refl (kept o.book (plain_record 67 o.verdict))

  report-steps : kind_at c s.at ≡ 68 → Stepped Ledger.play c m (Good m) s p (call_at m c s.at)
  unfolding Book.play
  report-steps k =
      let x = Calls.report (region_in c s.at) (market_in c s.at) in
      let n = Report.report_of s.book (region_in c s.at) (market_in c s.at) in
      stepped x x refl (λ a. refl) (report c s) 34 (report-says m c s k) (report_record n) refl (length-report n) refl refl refl refl (kept s.book (report_record n))

  -- a book's ring keeps its length
  ring-kept : (own : Call) (after : State) → held_of after ≡ (Book.play h own).state → length after.ring ≡ m.room.ring
  ring-kept own after held =
      let k = keeps h p own g.agree in
      ap (λ (x : Held). length x.ring) held ∙ ring-length (Book.play h own).state (Ledger.play p own).state k.1
      ∙ ap (λ (x : Settings). ring_size x.regions x.services x.window) (settings-play p own) ∙ sym (ring-length h p g.agree) ∙ g.lent.ring

  -- ---- an entry
  module _ (t : goes m.room c s.at (length s.answers - s.out) ≡ true) (k : kind_at c s.at ≡ 65) where
    abbrev places : ℕ
    places = (lengths_at c s.at).ring

    abbrev lent : List ℤ
    lent = take places s.ring

    abbrev own : Call
    own = Calls.entry lent (entry_number c s.at) (entry_at c s.at) (table_at c s.at)

    abbrev o : Entering.Outcome
    o = entered_at c s.at s.book s.ring

    fitting : fits m.room (lengths_at c s.at) ≡ true
    fitting = goes-fits m.room c s.at (length s.answers - s.out) t (eq-eqb (kind_at c s.at) 65 k)

    lent_length : length lent ≡ places
    lent_length = length-take-le places s.ring (omega (arith, fits-ring m.room (lengths_at c s.at) fitting, g.lent.ring))

    all-of-it : is_own s.book lent ≡ true → places ≡ length s.ring
    all-of-it q = sym lent_length ∙ eqb-true (length lent) (ring_size s.book.regions s.book.services s.book.window) q ∙ sym g.agree.holds.ring-size

    lent_is : pick (is_own s.book lent) s.ring lent ≡ lent
    lent_is =
        by-test (is_own s.book lent) (λ q. rw q (sym (take_all places s.ring (omega (arith, all-of-it q))))) (λ q. rw q)

    -- a ring of another length is refused, and left as it was
    left_alone : is_own s.book lent ≡ false → o.ring ≡ lent
    left_alone q =
        by-test (is_accepted (enter_verdict s.book (length lent) (entry_number c s.at) (entry_at c s.at) (length (table_at c s.at))))
        (λ u. absurd (eqb-false (length lent) (ring_size s.book.regions s.book.services s.book.window) q
        (enter-passed s.book lent (entry_number c s.at) (entry_at c s.at) (table_at c s.at) u).ring-size))
        (λ u. ap (λ (x : Entering.Outcome). x.ring) (entered-refused s.book lent (entry_number c s.at) (entry_at c s.at) (table_at c s.at) u))

    ring-is : o.ring ++ drop places s.ring ≡ pick (is_own s.book lent) o.ring s.ring
    ring-is =
        by-test (is_own s.book lent)
        (λ q. rw q (ap (λ (n : ℕ). o.ring ++ drop n s.ring) (all-of-it q) ∙ ap (λ (l : List ℤ). o.ring ++ l) (drop-length s.ring) ∙ append-nil o.ring))
        (λ q. rw q (ap (λ (l : List ℤ). l ++ drop places s.ring) (left_alone q) ∙ take-append-drop places s.ring))

    entry-held : held_of (entry c s) ≡ (Book.play h own).state
    unfolding Book.play
    entry-held =
        let e : List ℤ → Entering.Outcome = λ x. Entering.entered s.book x (entry_number c s.at) (entry_at c s.at) (table_at c s.at) in
        λ i. record { book = (e (sym lent_is i)).book; ring = (ring-is ∙ ap (λ (x : List ℤ). pick (is_own s.book lent) (e x).ring s.ring) (sym lent_is)) i }

    entry-said : record_of own (Book.play h own).answer ≡ entered_record o
    unfolding Book.play
    entry-said = ap (λ (x : List ℤ). entered_record (Entering.entered s.book x (entry_number c s.at) (entry_at c s.at) (table_at c s.at))) lent_is

    entry-alike : Ledger.play p own ≡ Ledger.play p (Calls.entry (replicate places (pos 0)) (entry_number c s.at) (entry_at c s.at) (table_at c s.at))
    unfolding Ledger.play
    entry-alike = ap (λ (n : ℕ). Ledger.play_entry p n (entry_number c s.at) (entry_at c s.at) (table_at c s.at)) (lent_length ∙ sym (length-replicate places (pos 0)))

    table-length : length o.table ≡ (lengths_at c s.at).table
    table-length =
        table_kept s.book lent (entry_number c s.at) (entry_at c s.at) (table_at c s.at) ∙ length_run _ (lengths_at c s.at).table 0

    entry-fits : Fits m (entry c s)
    entry-fits =
        let f = g.lent in
        record {
          ring = ring-kept own (entry c s) entry-held;
          numbers = length-sets s.numbers 0 (signed_at c s.at) ∙ f.numbers;
          factors = length-sets s.factors 0 (factors_at c s.at) ∙ f.factors;
          table =
              length-append o.table (drop (lengths_at c s.at).table s.table)
              ∙ omega (arith, table-length, length-drop (lengths_at c s.at).table s.table, fits-table m.room (lengths_at c s.at) fitting, f.table);
          other = f.other;
          image = f.image;
        }

    entry-steps : Stepped Ledger.play c m (Good m) s p (call_at m c s.at)
    entry-steps =
        stepped own (Calls.entry (replicate places (pos 0)) (entry_number c s.at) (entry_at c s.at) (table_at c s.at)) entry-alike (λ a. same-record a) (entry c s)
        (18 + 4 * (lengths_at c s.at).table) (entry-says m c s k) (entered_record o) entry-said
        (length-entry o.verdict o.count o.table ∙ ap (λ (n : ℕ). 18 + 4 * n) table-length) refl refl refl entry-held entry-fits
      where
        same-record : (a : Answer) → record_of own a ≡ record_of (Calls.entry (replicate places (pos 0)) (entry_number c s.at) (entry_at c s.at) (table_at c s.at)) a
        same-record (Calls.entered v count table) = refl
        same-record (Calls.set v) = refl
        same-record (Calls.reported numbers) = refl
        same-record (Calls.restarted v) = refl

  -- ---- a restart
  module _ (e₅ : eqb (kind_at c s.at) 65 ≡ false) (e₆ : eqb (kind_at c s.at) 66 ≡ false) (e₇ : eqb (kind_at c s.at) 67 ≡ false) (e₈ : eqb (kind_at c s.at) 68 ≡ false) where
    abbrev again : Call
    again = Calls.restart false s.image s.other

    abbrev fresh : Call
    fresh = Calls.restart false (replicate m.image 0) (replicate m.other (pos 0))

    abbrev kept-image : Storing.Outcome
    kept-image = Storing.stored false s.book s.ring s.image

    abbrev back : Loading.Outcome
    back = reload kept-image s.other

    handed : kept-image.book ≡ s.book
    unfolding Storing.stored
    handed =
        by-test (is_accepted (Storing.store_verdict false s.book s.ring (length s.image))) (λ t. rw t) (λ t. rw t)

    restart-held : held_of (restart c s) ≡ (Book.play h again).state
    unfolding Book.play
    restart-held = held_by s.book s.ring s.other kept-image back handed (is_accepted kept-image.verdict) (is_accepted back.verdict) refl refl

    restart-answer : (Book.play h again).answer ≡ Calls.restarted (restart_verdict kept-image s.other)
    unfolding Book.play
    restart-answer =
        answer-by s.book s.ring kept-image back (accepted-is (take kept-image.length kept-image.buffer) s.other) (is_accepted kept-image.verdict) (is_accepted back.verdict) refl

    restart-said : record_of again (Book.play h again).answer ≡ plain_record 69 (restart_verdict kept-image s.other)
    restart-said = ap (record_of again) restart-answer

    restart-alike : Ledger.play p again ≡ Ledger.play p fresh
    unfolding Ledger.play
    restart-alike =
        ap₂ (λ (i j : ℕ). record { state = p; answer = Calls.restarted (Ledger.restart_verdict false p i j) })
        (g.lent.image ∙ sym (length-replicate m.image 0)) (g.lent.other ∙ sym (length-replicate m.other (pos 0)))

    verdict-is : Calls.verdict_in (Ledger.play p again).answer ≡ Ledger.restart_verdict false p (length s.image) (length s.other)
    unfolding Ledger.play
    verdict-is = refl

    -- where the rings change places they are as long
    as_long : swapped kept-image s.other ≡ true → length s.ring ≡ m.other
    as_long t =
        let k = (keeps h p again g.agree).0 in
        let e : restart_verdict kept-image s.other ≡ Ledger.restart_verdict false p (length s.image) (length s.other) = ap Calls.verdict_in (sym restart-answer ∙ k) ∙ verdict-is in
        ring-length h p g.agree ∙ sym (right-ring p (length s.image) (length s.other) (ap is_accepted (sym e) ∙ t)) ∙ g.lent.other

    other-kept : swapped kept-image s.other ≡ false → length (reloaded kept-image s.other) ≡ length s.other
    other-kept t =
        by-test (is_accepted kept-image.verdict)
        (λ v. rw v (ap length (loaded-not (take kept-image.length kept-image.buffer) s.other (rw v at t))))
        (λ v. rw v)

    image-kept : length kept-image.buffer ≡ length s.image
    image-kept = buffer-kept s.book s.ring s.image (record { parents = g.agree.eight; counts = g.agree.sized.counts; sums = g.agree.sized.sums; marks = g.agree.sized.marks })

    restart-fits : Fits m (restart c s)
    restart-fits =
        let f = g.lent in
        record {
          ring = ring-kept again (restart c s) restart-held;
          numbers = f.numbers;
          factors = f.factors;
          table = f.table;
          other = by-test (swapped kept-image s.other) (λ t. rw t (as_long t)) (λ t. rw t (other-kept t ∙ f.other));
          image = image-kept ∙ f.image;
        }

    restart-steps : Stepped Ledger.play c m (Good m) s p (call_at m c s.at)
    restart-steps =
        stepped again fresh restart-alike (λ a. same-record a) (restart c s) 14 (restart-says m c s e₅ e₆ e₇ e₈) (plain_record 69 (restart_verdict kept-image s.other)) restart-said
        (length-head 14 69 (restart_verdict kept-image s.other)) refl refl refl restart-held restart-fits
      where
        same-record : (a : Answer) → record_of again a ≡ record_of fresh a
        same-record (Calls.entered v count table) = refl
        same-record (Calls.set v) = refl
        same-record (Calls.reported numbers) = refl
        same-record (Calls.restarted v) = refl

  -- ---- any call
  pub ledger-steps : goes m.room c s.at (length s.answers - s.out) ≡ true → Stepped Ledger.play c m (Good m) s p (call_at m c s.at)
  ledger-steps t = by_kind (kind_at c s.at) refl (kind-of (kind_at c s.at))
    where
      by_kind : (k : ℕ) → kind_at c s.at ≡ k → Kind k → Stepped Ledger.play c m (Good m) s p (call_at m c s.at)
      by_kind k e is-entry = entry-steps t e
      by_kind k e is-threshold = threshold-steps e
      by_kind k e is-limits = limits-steps e
      by_kind k e is-report = report-steps e
      by_kind k e (is-restart a b d f) =
          restart-steps (ap (λ (n : ℕ). eqb n 65) e ∙ a) (ap (λ (n : ℕ). eqb n 66) e ∙ b) (ap (λ (n : ℕ). eqb n 67) e ∙ d) (ap (λ (n : ℕ). eqb n 68) e ∙ f)
