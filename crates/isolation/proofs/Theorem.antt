-- ISOLATION (the statement is in specs/Isolation): what a list of calls tells a region is all that P's history then holds of it, so that
-- two lists which tell it the same leave P, and by DEMAND 3 the book, with the same reports of it. Assumes nothing.
use mathlib.Core.Path.{◌≡◌, refl, sym, ap, ◌∙◌, subst}
use mathlib.Core.Bool.{Bool, true, false}
use mathlib.Core.List.{List, [], ◌∷◌, ◌++◌, append_assoc, append-nil}
use Prim.Native.Nat.{ℕ, zero, suc, ◌≤◌, ◌<◌}
use lib.ListN.{length, take}
use Rattle.laws.specs.Base.{pick}
use Rattle.laws.specs.Lists.{tabulate}
use Rattle.laws.proofs.Tests.{by-test}
use Rattle.book.specs.declared.record.Settings.{Settings}
use Rattle.book.specs.Record.{markets_of, is_accepted}
use Rattle.book_calls.specs.Setting.{threshold_verdict, limits_verdict}
use Rattle.book_calls.specs.Report.{Numbers}
use Rattle.publishing.specs.Entry.{Entry}
use Rattle.entries.specs.Checking.{entry_verdict}
use Rattle.ledger.specs.Calls.{Call, entry, threshold, limits, report, restart, Answer, answers, after, verdict_in}
use Rattle.ledger.specs.Ledger as Ledger
use Rattle.ledger.specs.Ledger.{Item, interval, threshold-set, limits-set, Ledger, taken, is_unmarked, entry_price}
use Rattle.ledger.specs.Book as Book
use Rattle.ledger.specs.Book.{Held}
use Rattle.ledger.specs.Demand.{held, settings}
use Rattle.ledger.proofs.Agrees.{Agree}
use Rattle.ledger.proofs.Reports.{report-agrees}
use Rattle.ledger.proofs.Begins.{start-agrees}
use Rattle.ledger.proofs.Theorem.{plays, settings-after}
use Rattle.isolation.specs.Isolation.{Told, of-refusal, of-prices, of-suspension, of-threshold, of-limits, of-report, of-restart}
use Rattle.isolation.specs.Isolation.{told_by, told, heard, OpenedAlike, ReportedAlike, Isolation}
use Rattle.isolation.proofs.Parts.{Part, priced, suspended, threshold-of, part_of, parts, reports-same, report-answered}

-- ---- what lasts of what a region is told: entries and thresholds
abbrev lasts : Told → List Part
lasts of-refusal = []
lasts (of-prices p) = priced p ∷ []
lasts of-suspension = suspended ∷ []
lasts (of-threshold x) = threshold-of x ∷ []
lasts of-limits = []
lasts of-report = []
lasts of-restart = []

unfoldable lasting : List Told → List Part
lasting [] = []
lasting (t ∷ l) = lasts t ++ lasting l

parts-append : (M r : ℕ) (h k : List Item) → parts M r (h ++ k) ≡ parts M r h ++ parts M r k
unfolding parts
parts-append M r [] k = refl
parts-append M r (interval e ∷ h) k = ap (λ (l : List Part). part_of M r e ∷ l) (parts-append M r h k)
parts-append M r (threshold-set x ∷ h) k = ap (λ (l : List Part). threshold-of x ∷ l) (parts-append M r h k)
parts-append M r (limits-set c f ∷ h) k = parts-append M r h k

module _ (M r : ℕ) where
  -- of one call
  abbrev hears : Ledger → Call → Told
  hears p c = pick (is_accepted (verdict_in (Ledger.play p c).answer)) (told M r c) of-refusal

  -- of an accepted entry, by the region's own mark
  entry-lasts : (e : Entry) → part_of M r e ∷ [] ≡ lasts (told_by M r e)
  entry-lasts e = by (is_unmarked e r)
    where
      by : (t : Bool) → pick t (priced (tabulate M (entry_price M e r))) suspended ∷ []
          ≡ lasts (pick t (of-prices (tabulate M (entry_price M e r))) of-suspension)
      by true = refl
      by false = refl

  -- an item that joins the history
  joins : (p : Ledger) (i : Item) (t : Told) → parts M r (i ∷ []) ≡ lasts t
      → parts M r (p.items ++ i ∷ []) ≡ parts M r p.items ++ lasts t
  joins p i t e = parts-append M r p.items (i ∷ []) ∙ ap (λ (l : List Part). parts M r p.items ++ l) e

  nothing-joins : (p : Ledger) → parts M r p.items ≡ parts M r p.items ++ []
  nothing-joins p = sym (append-nil (parts M r p.items))

  play-parts : (p : Ledger) (c : Call) → parts M r (Ledger.play p c).state.items ≡ parts M r p.items ++ lasts (hears p c)
  unfolding Ledger.play parts
  play-parts p (entry g number e table) =
      by-test (is_accepted (entry_verdict (Ledger.shape_of p.settings) (taken p) (length g) number e (length table)))
      (λ t. rw t (joins p (interval e) (told_by M r e) (entry-lasts e)))
      (λ t. rw t (rw t (nothing-joins p)))
  play-parts p (threshold x) =
      by-test (is_accepted (threshold_verdict x)) (λ t. rw t (joins p (threshold-set x) (of-threshold x) refl)) (λ t. rw t (nothing-joins p))
  play-parts p (limits c f) =
      by-test (is_accepted (limits_verdict c f)) (λ t. rw t (joins p (limits-set c f) of-limits refl)) (λ t. rw t (nothing-joins p))
  play-parts p (report a b) =
      by-test (is_accepted (verdict_in (Ledger.play p (report a b)).answer)) (λ t. rw t (nothing-joins p)) (λ t. rw t (nothing-joins p))
  play-parts p (restart second a b) =
      by-test (is_accepted (verdict_in (Ledger.play p (restart second a b)).answer)) (λ t. rw t (nothing-joins p)) (λ t. rw t (nothing-joins p))

  -- of a list of calls
  after-parts : (L : List Call) (p : Ledger)
      → parts M r (after Ledger.play p L).items ≡ parts M r p.items ++ lasting (heard M r L (answers Ledger.play p L))
  unfolding after answers heard lasting
  after-parts [] p = nothing-joins p
  after-parts (c ∷ L) p =
      let rest = lasting (heard M r L (answers Ledger.play (Ledger.play p c).state L)) in
      after-parts L (Ledger.play p c).state
      ∙ ap (λ (l : List Part). l ++ rest) (play-parts p c)
      ∙ append_assoc (parts M r p.items) (lasts (hears p c)) rest

  heard-take : (n : ℕ) (L : List Call) (p : Ledger)
      → heard M r (take n L) (answers Ledger.play p (take n L)) ≡ take n (heard M r L (answers Ledger.play p L))
  unfolding answers heard
  heard-take zero L p = refl
  heard-take (suc n) [] p = refl
  heard-take (suc n) (c ∷ L) p = ap (λ (l : List Told). hears p c ∷ l) (heard-take n L (Ledger.play p c).state)

-- ---- two books, each of which agrees with a ledger that begins
module _ (s t : Held) (x y : Settings) (a : Agree s (Ledger.begin x)) (b : Agree t (Ledger.begin y)) (alike : OpenedAlike x y) (r : ℕ)
    (in-x : r < x.regions) (in-y : r < y.regions) (L K : List Call)
    (same : heard (markets_of x.services) r L (answers Book.play s L) ≡ heard (markets_of x.services) r K (answers Book.play t K)) where
  abbrev N : ℕ
  N = markets_of x.services

  -- the two ledgers after n calls
  abbrev p : ℕ → Ledger
  p n = after Ledger.play (Ledger.begin x) (take n L)

  abbrev q : ℕ → Ledger
  q n = after Ledger.play (Ledger.begin y) (take n K)

  -- the ledgers' answers are the books', so that they tell the region the same
  told_same : (n : ℕ) → heard N r (take n L) (answers Ledger.play (Ledger.begin x) (take n L))
      ≡ heard N r (take n K) (answers Ledger.play (Ledger.begin y) (take n K))
  told_same n =
      heard-take N r n L (Ledger.begin x)
      ∙ ap (λ (l : List Answer). take n (heard N r L l)) (sym (plays L s (Ledger.begin x) a).0)
      ∙ ap (take n) same
      ∙ ap (λ (l : List Answer). take n (heard N r K l)) (plays K t (Ledger.begin y) b).0
      ∙ sym (heard-take N r n K (Ledger.begin y))

  parts_same : (n : ℕ) → parts N r (p n).items ≡ parts N r (q n).items
  parts_same n =
      after-parts N r (take n L) (Ledger.begin x)
      ∙ ap (λ (l : List Told). parts N r [] ++ lasting l) (told_same n)
      ∙ sym (after-parts N r (take n K) (Ledger.begin y))

  -- the ledgers keep the settings of their openings
  from-x : (n : ℕ) → (p n).settings ≡ x
  from-x n = settings-after (take n L) (Ledger.begin x)

  from-y : (n : ℕ) → (q n).settings ≡ y
  from-y n = settings-after (take n K) (Ledger.begin y)

  ledgers-alike : (n m : ℕ) → Ledger.report_of (p n) r m ≡ Ledger.report_of (q n) r m
  ledgers-alike n m =
      let z : OpenedAlike (p n).settings (q n).settings =
      subst (λ (u : Settings). OpenedAlike u (q n).settings) (sym (from-x n))
      (subst (λ (v : Settings). OpenedAlike x v) (sym (from-y n)) alike) in
      let i : parts (markets_of (p n).settings.services) r (p n).items ≡ parts (markets_of (p n).settings.services) r (q n).items =
      subst (λ (u : Settings). parts (markets_of u.services) r (p n).items ≡ parts (markets_of u.services) r (q n).items)
      (sym (from-x n)) (parts_same n) in
      reports-same (p n) (q n) z r i
      (subst (λ (u : Settings). r < u.regions) (sym (from-x n)) in-x)
      (subst (λ (u : Settings). r < u.regions) (sym (from-y n)) in-y) m

  pub apart : (n m : ℕ) → ReportedAlike (after Book.play s (take n L)).book (after Book.play t (take n K)).book x.services r m
  apart n m =
      let f = report-agrees (after Book.play s (take n L)) (p n) (plays (take n L) s (Ledger.begin x) a).1 r m in
      let g = report-agrees (after Book.play t (take n K)) (q n) (plays (take n K) t (Ledger.begin y) b).1 r m in
      record {
        same = f ∙ ledgers-alike n m ∙ sym g;
        answered = λ l. ap (λ (v : Numbers). v.verdict) f
            ∙ report-answered (p n) r m
            (subst (λ (u : Settings). r < u.regions) (sym (from-x n)) in-x)
            (subst (λ (u : Settings). m ≤ u.services) (sym (from-x n)) l);
      }

-- THE THEOREM
pub isolation : Isolation
isolation s t L K r a b alike in-s in-t same n m =
    apart (held s) (held t) (settings s) (settings t) (start-agrees s a) (start-agrees t b) alike r in-s in-t L K same n m
