-- DEMAND 3: the book answers every list of calls as the ledger machine does (the statement is in specs/Demand). Assumes nothing.
use mathlib.Core.Path.{◌≡◌, refl, sym, ap, ap₂, ◌∙◌, subst}
use mathlib.Core.Bool.{Bool, true, false}
use mathlib.Core.List.{List, [], ◌∷◌}
use Prim.Native.Nat.{ℕ, ◌≤◌, ◌<◌}
use native.Mathlib.Omega.{arith}
use borrow.Author.Tests.{eqb-true, eqb-false}
use lib.IntN.{ℤ}
use lib.ListN.{length, get_or}
use Rattle.laws.specs.Base.{pick}
use Rattle.laws.proofs.Tests.{by-test}
use Rattle.pricing.specs.Verdict.{Verdict, accepted}
use Rattle.pricing.specs.Holding.{limits_ok}
use Rattle.book.specs.declared.record.Settings.{Settings}
use Rattle.book.specs.Record.{markets_of, place_of, ring_size, is_accepted}
use Rattle.book_calls.specs.Setting.{threshold_verdict, limits_verdict, set_threshold, set_limits}
use Rattle.book.proofs.Validities.{valid-is}
use Rattle.book_calls.proofs.Kept.{threshold-is, threshold-accepted, setting-valid}
use Rattle.publishing.specs.declared.Terms.{Terms}
use Rattle.publishing.specs.Entry.{Entry}
use Rattle.publishing.specs.Published.{table_of, count_of}
use Rattle.entries.specs.Checking.{Shape, entry_verdict}
use Rattle.entries.specs.Entering as Entering
use Rattle.entries.specs.Entering.{book_after, terms_of, enter_verdict}
use Rattle.ledger.specs.Calls.{Call, entry, threshold, limits, report, restart, entered, reported, Step, answers, after}
use Rattle.ledger.specs.Ledger as Ledger
use Rattle.ledger.specs.Ledger.{Ledger, interval, threshold-set, limits-set, entries_of, taken, marks_at, terms_at, kept}
use Rattle.ledger.specs.Book as Book
use Rattle.ledger.specs.Book.{Held, is_own}
use Rattle.ledger.proofs.Histories.{administered-is, is-administered}
use Rattle.ledger.proofs.Checks.{Passed, passed, entered-accepted, entered-refused}
use Rattle.ledger.proofs.Agrees.{Agree, shape-agrees, terms-agree, entry-agrees, setting-agrees}
use Rattle.ledger.proofs.Reports.{mark-agrees, report-agrees}
use Rattle.ledger.proofs.Restarts.{restart-alike}
use Rattle.ledger.proofs.Begins.{start-agrees}
use Rattle.ledger.specs.Demand.{held, settings, AnswersAlike, Demand3}

-- what a call comes to: it is answered alike, and what is then held agrees
abbrev pub Alike : Step Held → Step Ledger → Type 0
Alike x y = (x.answer ≡ y.answer) × Agree x.state y.state

module _ (s : Held) (p : Ledger) (a : Agree s p) where
  -- ---- the settings
  threshold-alike : (x : ℤ) → Alike (Book.play s (threshold x)) (Ledger.play p (threshold x))
  unfolding Book.play Ledger.play set_threshold entries_of
  threshold-alike x =
      by-test (is_accepted (threshold_verdict x))
      (λ t. rw (a.holds.accepted, threshold-accepted x t) (
        refl,
        setting-agrees s p a (threshold-set x) refl x s.book.cap s.book.floor refl refl refl
            (setting-valid s.book x s.book.cap s.book.floor a.holds.accepted (threshold-is x t).0
            (valid-is s.book a.holds.accepted).limits),
      ))
      (λ t. rw (a.holds.accepted, t) (refl, a))

  limits-alike : (c f : ℤ) → Alike (Book.play s (limits c f)) (Ledger.play p (limits c f))
  unfolding Book.play Ledger.play set_limits limits_verdict entries_of
  limits-alike c f =
      by-test (limits_ok c f)
      (λ t. rw (a.holds.accepted, t) (
        refl,
        setting-agrees s p a (limits-set c f) refl s.book.threshold c f refl refl refl
            (setting-valid s.book s.book.threshold c f a.holds.accepted (valid-is s.book a.holds.accepted).threshold t),
      ))
      (λ t. rw (a.holds.accepted, t) (refl, a))

  -- ---- a report
  report-alike : (r m : ℕ) → Alike (Book.play s (report r m)) (Ledger.play p (report r m))
  unfolding Book.play Ledger.play
  report-alike r m = (ap reported (report-agrees s p a r m), a)

  -- ---- an entry, lent a ring of n places
  module _ (number : ℕ) (e : Entry) (table : List ℤ) where
    -- P's verdict, and the book's, which rule 10 precedes
    abbrev says : ℕ → Verdict
    says n = entry_verdict (Ledger.shape_of p.settings) (taken p) n number e (length table)

    verdict-agrees : (n : ℕ) → enter_verdict s.book n number e (length table) ≡ says n
    verdict-agrees n =
        rw a.holds.accepted
        (ap₂ (λ (x : Shape) (k : ℕ). entry_verdict x k n number e (length table)) (shape-agrees s p a) a.entries)

    -- what the book makes of an outcome with its own ring, and with another
    abbrev own : Entering.Outcome → Step Held
    own o = record { state = record { book = o.book; ring = o.ring }; answer = entered o.verdict o.count o.table }

    abbrev other : Entering.Outcome → Step Held
    other o = record { state = record { book = o.book; ring = s.ring }; answer = entered o.verdict o.count o.table }

    passes : (n : ℕ) → is_accepted (says n) ≡ true → Passed (Entering.shape_of s.book) s.book.entries n number e
    passes n t =
        passed (Entering.shape_of s.book) s.book.entries n number e (length table)
        (subst (λ (v : Verdict). is_accepted v ≡ true) (sym (ap₂ (λ (x : Shape) (k : ℕ). entry_verdict x k n number e (length table)) (shape-agrees s p a) a.entries)) t)

    accepted-alike : is_accepted (says (length s.ring)) ≡ true → Alike (own (Entering.entered s.book s.ring number e table)) (Ledger.play_entry p (length s.ring) number e table)
    accepted-alike t =
        let ok : is_accepted (enter_verdict s.book (length s.ring) number e (length table)) ≡ true = rw (verdict-agrees (length s.ring)) t in
        let q = passes (length s.ring) t in
        rw (entered-accepted s.book s.ring number e table ok, t) (
          ap₂ (λ (x : Terms) (m : List ℕ). entered accepted (count_of x m e) (table_of x m e)) (terms-agree s p a) a.marks,
          entry-agrees s p a e q.room q.price,
        )

    refused-alike : is_accepted (says (length s.ring)) ≡ false → Alike (own (Entering.entered s.book s.ring number e table)) (Ledger.play_entry p (length s.ring) number e table)
    refused-alike t =
        let no : is_accepted (enter_verdict s.book (length s.ring) number e (length table)) ≡ false = rw (verdict-agrees (length s.ring)) t in
        rw (entered-refused s.book s.ring number e table no, t) (ap (λ (v : Verdict). entered v 0 table) (verdict-agrees (length s.ring)), a)

    foreign-alike : (g : List ℤ) → is_accepted (says (length g)) ≡ false → Alike (other (Entering.entered s.book g number e table)) (Ledger.play_entry p (length g) number e table)
    foreign-alike g t =
        let no : is_accepted (enter_verdict s.book (length g) number e (length table)) ≡ false = rw (verdict-agrees (length g)) t in
        rw (entered-refused s.book g number e table no, t) (ap (λ (v : Verdict). entered v 0 table) (verdict-agrees (length g)), a)

    never-foreign : (g : List ℤ) → is_own s.book g ≡ false → is_accepted (says (length g)) ≡ true → ⊥
    never-foreign g q t =
        eqb-false (length g) (ring_size s.book.regions s.book.services s.book.window) q (passes (length g) t).ring-size

    entry-alike : (g : List ℤ) → Alike (Book.play s (entry g number e table)) (Ledger.play p (entry g number e table))
    unfolding Book.play Ledger.play
    entry-alike g =
        by-test (is_own s.book g)
        (λ q. let n : length g ≡ length s.ring = eqb-true (length g) (ring_size s.book.regions s.book.services s.book.window) q ∙ sym a.holds.ring-size in
        rw (q, n) (by-test (is_accepted (says (length s.ring))) (λ t. accepted-alike t) (λ t. refused-alike t)))
        (λ q. rw q (by-test (is_accepted (says (length g))) (λ t. absurd (never-foreign g q t)) (λ t. foreign-alike g t)))

-- ---- any call
pub keeps : (s : Held) (p : Ledger) (c : Call) → Agree s p → Alike (Book.play s c) (Ledger.play p c)
keeps s p (entry g number e table) a = entry-alike s p a number e table g
keeps s p (threshold x) a = threshold-alike s p a x
keeps s p (limits c f) a = limits-alike s p a c f
keeps s p (report r m) a = report-alike s p a r m
keeps s p (restart second buffer g) a = restart-alike s p a second buffer g

-- ---- any list of calls, from a start that agrees
pub plays : (L : List Call) (s : Held) (p : Ledger) → Agree s p → (answers Book.play s L ≡ answers Ledger.play p L) × Agree (after Book.play s L) (after Ledger.play p L)
unfolding answers after
plays [] s p a = (refl, a)
plays (c ∷ L) s p a =
    let k = keeps s p c a in
    let r = plays L (Book.play s c).state (Ledger.play p c).state k.1 in
    (ap₂ ◌∷◌ k.0 r.0, r.1)

-- the settings of a ledger never change
pub settings-play : (p : Ledger) (c : Call) → (Ledger.play p c).state.settings ≡ p.settings
unfolding Ledger.play
settings-play p (entry g number e table) =
    by-test (is_accepted (entry_verdict (Ledger.shape_of p.settings) (taken p) (length g) number e (length table))) (λ t. rw t) (λ t. rw t)
settings-play p (threshold x) = go (is_accepted (threshold_verdict x))
  where
    go : (t : Bool) → (pick t (kept p (threshold-set x)) p).settings ≡ p.settings
    go true = refl
    go false = refl
settings-play p (limits c f) = go (is_accepted (limits_verdict c f))
  where
    go : (t : Bool) → (pick t (kept p (limits-set c f)) p).settings ≡ p.settings
    go true = refl
    go false = refl
settings-play p (report r m) = refl
settings-play p (restart second buffer g) = refl

pub settings-after : (L : List Call) (p : Ledger) → (after Ledger.play p L).settings ≡ p.settings
unfolding after
settings-after [] p = refl
settings-after (c ∷ L) p = settings-after L (Ledger.play p c).state ∙ settings-play p c

one-is : (t : Bool) → ◌≡◌ {A = ℕ} (pick t 1 0) 1 → t ≡ true
one-is true e = refl
one-is false e = let z : ⊥ = omega arith in absurd z

-- THE THEOREM from a start that agrees
pub alike : (L : List Call) (s : Held) (p : Ledger) → Agree s p → AnswersAlike s p L
alike L s p a =
    let r = plays L s p a in
    let q = after Ledger.play p L in
    let b = after Book.play s L in
    record {
      during = r.0;
      reports = λ region market. report-agrees b q r.1 region market;
      administered = λ region market h l e.
          administered-is q region market (taken q) (one-is _ (sym (mark region market h l) ∙ e));
      marked = λ region market h l w. mark region market h l ∙ rw (is-administered q region market (taken q) w);
    }
  where
    mark : (region market : ℕ) → region < p.settings.regions → market ≤ p.settings.services
        → get_or (after Book.play s L).book.marks (place_of region market) 0 ≡ pick (Ledger.administered_at (after Ledger.play p L) region market (taken (after Ledger.play p L))) 1 0
    mark region market h l =
        let w = (plays L s p a).1 in
        let i : region < (after Book.play s L).book.regions = omega (arith, w.regions, ap (λ (t : Settings). t.regions) (settings-after L p)) in
        let j : market < markets_of (after Book.play s L).book.services = omega (arith, w.services, ap (λ (t : Settings). t.services) (settings-after L p)) in
        mark-agrees (after Book.play s L) (after Ledger.play p L) w region market i j

-- and from every start that P's list may begin with: DEMAND 3
pub demand-3 : Demand3
unfolding Demand3
demand-3 start L b = alike L (held start) (Ledger.begin (settings start)) (start-agrees start b)
