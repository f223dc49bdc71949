-- A replay after a refused opening: the book is closed, and each call is refused by 10. Assumes nothing.
use mathlib.Core.Path.{◌≡◌, refl, sym, ap, ◌∙◌, subst}
use mathlib.Core.Bool.{true, false}
use mathlib.Core.List.{List, [], ◌∷◌}
use Prim.Native.Nat.{ℕ, ◌+◌, ◌-◌, ◌*◌}
use native.Mathlib.Omega.{arith}
use borrow.Author.Tests.{eq-eqb}
use lib.Dec.{eqb}
use lib.IntN.{ℤ, pos}
use lib.ListN.{length, take, drop, replicate, length-append, length-drop, take-append-drop}
use lib.Seq.{sets, length-sets}
use Rattle.laws.proofs.Lists.{length_run}
use Rattle.pricing.specs.Verdict.{refused}
use Rattle.book.specs.declared.record.Book.{Book}
use Rattle.book.specs.Record.{closed}
use Rattle.book.specs.Validity.{valid}
use Rattle.book_calls.specs.Setting as Setting
use Rattle.book_calls.specs.Report as Report
use Rattle.publishing.specs.Entry.{Entry}
use Rattle.book_calls.proofs.Kept.{closed-invalid}
use Rattle.entries.specs.Entering as Entering
use Rattle.image.specs.Storing as Storing
use Rattle.ledger.specs.Calls as Calls
use Rattle.ledger.specs.Calls.{Call, Step, answers, refused_answer}
use Rattle.records.specs.Reading.{kind_at, lengths_at, entry_at, entry_number, signed_at, factors_at, table_at, call_size, answer_size, goes}
use Rattle.records.specs.Writing.{plain_record, report_record}
use Rattle.records.proofs.Written.{length-head, length-entry, length-report}
use Rattle.playing.specs.Playing.{State, threshold_in, cap_in, floor_in, region_in, market_in, threshold, limits, report, enters, entry, restarts, restart}
use Rattle.playing.specs.Fed.{Lengths, call_at}
use Rattle.replay.specs.Promise.{record_of, refusals}
use Rattle.playing.proofs.Goes.{goes-fits, fits-table}
use Rattle.replay.proofs.Simulating.{Stepped}
use Rattle.playing.proofs.ByKind.{Kind, is-entry, is-threshold, is-limits, is-report, is-restart, kind-of, Says, entry-says, threshold-says, limits-says, report-says, restart-says}
use Rattle.replay.proofs.Ledgers.{Fits}

-- the machine that refuses every call
abbrev pub refuse : Unit {0} → Call → Step (Unit {0})
refuse u c = record { state = u; answer = refused_answer c (refused 10) }

pub refuses : (u : Unit {0}) (L : List Call) → answers refuse u L ≡ refusals L
unfolding answers refusals
refuses u [] = refl
refuses u (c ∷ L) = ap (λ (l : List Calls.Answer). refused_answer c (refused 10) ∷ l) (refuses u L)

pub record Closed (m : Lengths) (s : State) (u : Unit {0}) : Type 0 where
  pub book : s.book ≡ closed
  pub lent : Fits m s

-- ---- what the calls make of a book that isn't valid
module _ (b : Book) (v : valid b ≡ false) where
  no-threshold : (x : ℤ) → Setting.set_threshold b x ≡ record { verdict = refused 10; book = b }
  unfolding Setting.set_threshold
  no-threshold x = rw v

  no-limits : (c f : ℤ) → Setting.set_limits b c f ≡ record { verdict = refused 10; book = b }
  unfolding Setting.set_limits
  no-limits c f = rw v

  no-report : (r m : ℕ) → Report.report_of b r m ≡ Report.nothing (refused 10)
  unfolding Report.report_of
  no-report r m = rw v

  no_store : (ring : List ℤ) (image : List ℕ) → Storing.stored false b ring image ≡ record { verdict = refused 10; length = 0; book = b; buffer = image }
  unfolding Storing.stored Storing.store_verdict
  no_store ring image = rw v

  no-entry : (ring : List ℤ) (number : ℕ) (e : Entry) (table : List ℤ) → Entering.entered b ring number e table ≡ record { verdict = refused 10; count = 0; book = b; ring = ring; table = table }
  unfolding Entering.entered
  no-entry ring number e table = rw v

module _ (c : List ℕ) (m : Lengths) (s : State) (u : Unit {0}) (g : Closed m s u) where
  invalid : valid s.book ≡ false
  invalid = ap valid g.book ∙ closed-invalid

  module _ (call : Call) (after : State) (size : ℕ) (says : Says m c s call after size) where
    stepped : length (record_of call (refused_answer call (refused 10))) ≡ size
        → after.at ≡ s.at + call_size c s.at → after.out ≡ s.out + answer_size c s.at → after.answers ≡ sets s.answers s.out (record_of call (refused_answer call (refused 10)))
        → after.book ≡ s.book → Fits m after → Stepped refuse c m (Closed m) s u (call_at m c s.at)
    stepped n at out answers book f =
        subst (λ (x : Call). Stepped refuse c m (Closed m) s u x) (sym says.call-is)
        (record {
          at = ap (λ (x : State). x.at) says.after_is ∙ at;
          out = ap (λ (x : State). x.out) says.after_is ∙ out;
          size = n ∙ sym says.size_is;
          answers = ap (λ (x : State). x.answers) says.after_is ∙ answers;
          good = subst (λ (x : State). Closed m x u) (sym says.after_is) (record { book = book ∙ g.book; lent = f });
        })

  kept : (b : Book) (r : List ℕ) → Fits m (record { book = b; ring = s.ring; other = s.other; image = s.image; numbers = s.numbers; factors = s.factors; table = s.table; at = s.at + call_size c s.at; out = s.out + answer_size c s.at; answers = sets s.answers s.out r })
  kept b r = let f = g.lent in record { ring = f.ring; numbers = f.numbers; factors = f.factors; table = f.table; other = f.other; image = f.image }

  threshold-steps : kind_at c s.at ≡ 66 → Stepped refuse c m (Closed m) s u (call_at m c s.at)
  threshold-steps k =
      let o = Setting.set_threshold s.book (threshold_in c s.at) in
      let e = no-threshold s.book invalid (threshold_in c s.at) in
      stepped (Calls.threshold (threshold_in c s.at)) (threshold c s) 14 (threshold-says m c s k) (length-head 14 66 (refused 10)) refl refl
      (ap (λ (x : Setting.Outcome). sets s.answers s.out (plain_record 66 x.verdict)) e) (ap (λ (x : Setting.Outcome). x.book) e) (kept o.book (plain_record 66 o.verdict))

  limits-steps : kind_at c s.at ≡ 67 → Stepped refuse c m (Closed m) s u (call_at m c s.at)
  limits-steps k =
      let o = Setting.set_limits s.book (cap_in c s.at) (floor_in c s.at) in
      let e = no-limits s.book invalid (cap_in c s.at) (floor_in c s.at) in
      stepped (Calls.limits (cap_in c s.at) (floor_in c s.at)) (limits c s) 14 (limits-says m c s k) (length-head 14 67 (refused 10)) refl refl
      (ap (λ (x : Setting.Outcome). sets s.answers s.out (plain_record 67 x.verdict)) e) (ap (λ (x : Setting.Outcome). x.book) e) (kept o.book (plain_record 67 o.verdict))

  report-steps : kind_at c s.at ≡ 68 → Stepped refuse c m (Closed m) s u (call_at m c s.at)
  report-steps k =
      let n = Report.report_of s.book (region_in c s.at) (market_in c s.at) in
      let e = no-report s.book invalid (region_in c s.at) (market_in c s.at) in
      stepped (Calls.report (region_in c s.at) (market_in c s.at)) (report c s) 34 (report-says m c s k) (length-report (Report.nothing (refused 10))) refl refl
      (ap (λ (x : Report.Numbers). sets s.answers s.out (report_record x)) e) refl (kept s.book (report_record n))

  restart-steps : eqb (kind_at c s.at) 65 ≡ false → eqb (kind_at c s.at) 66 ≡ false → eqb (kind_at c s.at) 67 ≡ false → eqb (kind_at c s.at) 68 ≡ false
      → Stepped refuse c m (Closed m) s u (call_at m c s.at)
  restart-steps a b d f =
      let e = no_store s.book invalid s.ring s.image in
      stepped (Calls.restart false (replicate m.image 0) (replicate m.other (pos 0))) (restart c s) 14 (restart-says m c s a b d f) (length-head 14 69 (refused 10)) refl refl
      (ap (λ (x : Storing.Outcome). (restarts c s x).answers) e) (ap (λ (x : Storing.Outcome). (restarts c s x).book) e)
      (subst (λ (x : Storing.Outcome). Fits m (restarts c s x)) (sym e) (let f = g.lent in record { ring = f.ring; numbers = f.numbers; factors = f.factors; table = f.table; other = f.other; image = f.image }))

  entry-steps : goes m.room c s.at (length s.answers - s.out) ≡ true → kind_at c s.at ≡ 65 → Stepped refuse c m (Closed m) s u (call_at m c s.at)
  entry-steps t k =
      let l = lengths_at c s.at in
      let e = no-entry s.book invalid (take l.ring s.ring) (entry_number c s.at) (entry_at c s.at) (table_at c s.at) in
      let n : length (table_at c s.at) ≡ l.table = length_run _ l.table 0 in
      let fitting = fits-table m.room l (goes-fits m.room c s.at (length s.answers - s.out) t (eq-eqb (kind_at c s.at) 65 k)) in
      let f = g.lent in
      stepped (Calls.entry (replicate l.ring (pos 0)) (entry_number c s.at) (entry_at c s.at) (table_at c s.at)) (entry c s) (18 + 4 * l.table) (entry-says m c s k)
      (length-entry (refused 10) 0 (table_at c s.at) ∙ ap (λ (i : ℕ). 18 + 4 * i) n) refl refl
      (ap (λ (x : Entering.Outcome). (enters c s x).answers) e) (ap (λ (x : Entering.Outcome). (enters c s x).book) e)
      (subst (λ (x : Entering.Outcome). Fits m (enters c s x)) (sym e)
      (record {
        ring = ap length (take-append-drop l.ring s.ring) ∙ f.ring;
        numbers = length-sets s.numbers 0 (signed_at c s.at) ∙ f.numbers;
        factors = length-sets s.factors 0 (factors_at c s.at) ∙ f.factors;
        table = length-append (table_at c s.at) (drop l.table s.table) ∙ omega (arith, n, length-drop l.table s.table, fitting, f.table);
        other = f.other;
        image = f.image;
      }))

  -- ---- any call
  pub refusing-steps : goes m.room c s.at (length s.answers - s.out) ≡ true → Stepped refuse c m (Closed m) s u (call_at m c s.at)
  refusing-steps t = by_kind (kind_at c s.at) refl (kind-of (kind_at c s.at))
    where
      by_kind : (k : ℕ) → kind_at c s.at ≡ k → Kind k → Stepped refuse c m (Closed m) s u (call_at m c s.at)
      by_kind k e is-entry = entry-steps t e
      by_kind k e is-threshold = threshold-steps e
      by_kind k e is-limits = limits-steps e
      by_kind k e is-report = report-steps e
      by_kind k e (is-restart a b d f) =
          restart-steps (ap (λ (n : ℕ). eqb n 65) e ∙ a) (ap (λ (n : ℕ). eqb n 66) e ∙ b) (ap (λ (n : ℕ). eqb n 67) e ∙ d) (ap (λ (n : ℕ). eqb n 68) e ∙ f)
