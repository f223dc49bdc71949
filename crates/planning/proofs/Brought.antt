-- What calls bring a market's window, and the theorem of specs/Meaning. Assumes nothing.
use mathlib.Core.Path.{◌≡◌, refl, sym, ap, ap₂, ◌∙◌, subst}
use mathlib.Core.Bool.{Bool, true, false, not, ◌&&◌}
use mathlib.Core.List.{List, [], ◌∷◌, ◌++◌, append-nil, append_assoc}
use Prim.Native.Nat.{ℕ, suc, ◌+◌, ◌-◌, ◌≤◌, ◌<◌}
use native.Mathlib.Nat.{le_refl}
use native.Mathlib.Omega.{arith}
use borrow.Author.Tests.{eq-eqb, lt-ltb, le-leb, ltb-true, leb-true}
use lib.Dec.{leb, ltb}
use lib.IntN.{ℤ}
use lib.Signed.{lt_z}
use lib.ListN.{length, take, drop, replicate, length-append, length-drop}
use lib.Seq.{take_all, drop-drop, drop-append-le}
use Rattle.laws.specs.Base.{pick}
use Rattle.laws.specs.Lists.{total, last_n}
use Rattle.laws.proofs.Tests.{never, by-test, and_left, and_right}
use Rattle.pricing.specs.Holding.{is_energy, in_range}
use Rattle.pricing.specs.Verdict.{accepted, refused}
use Rattle.book.specs.declared.record.Settings.{Settings}
use Rattle.book.specs.Record.{markets_of, is_accepted}
use Rattle.book.proofs.Passes.{passes-not}
use Rattle.book_calls.specs.Setting.{threshold_verdict, limits_verdict}
use Rattle.book_calls.specs.Report as Report
use Rattle.book_calls.specs.Report.{report_verdict}
use Rattle.publishing.specs.Entry.{Entry}
use Rattle.entries.specs.Checking.{entry_verdict}
use Rattle.ledger.specs.Calls.{Call, entry, threshold, limits, report, restart, Answer, answers, after, verdict_in}
use Rattle.ledger.specs.Ledger as Ledger
use Rattle.ledger.specs.Ledger.{interval, threshold-set, limits-set, Ledger, entries_of, taken, unmarked_prices, last_prices}
use Rattle.ledger.specs.Book as Book
use Rattle.ledger.specs.Book.{Held}
use Rattle.ledger.specs.Demand.{Start, held, settings, Begins}
use Rattle.ledger.proofs.Histories.{entries-append, unmarked-append}
use Rattle.ledger.proofs.Agrees.{Agree}
use Rattle.ledger.proofs.Reports.{report-agrees}
use Rattle.ledger.proofs.Begins.{start-agrees}
use Rattle.ledger.proofs.Theorem.{plays, settings-after}
use Rattle.planning.specs.Left.{exceeds, Least, left_verdict, window_in, market_left, intervals_left}
use Rattle.planning.specs.Meaning.{accepted_in, brought, above_after, asked, Foretells, asked_verdict, Answered, Foretold}
use Rattle.planning.proofs.Least.{least-is, none_is}
use Rattle.planning.proofs.Ways.{verdict-tests}

-- ---- the last W of the last W and more
last_n-again : (W : ℕ) (u v : List ℤ) → last_n W (last_n W u ++ v) ≡ last_n W (u ++ v)
unfolding last_n
last_n-again W u v =
    let a = length u - W in
    let k : a ≤ length u = omega arith in
    let d : length (drop a u) ≡ length u - a = length-drop a u in
    let z : a + (length (drop a u) + length v - W) ≡ length (u ++ v) - W = omega (arith, length-append u v) in
    ap (λ (n : ℕ). drop (n - W) (drop a u ++ v)) (length-append (drop a u) v)
    ∙ ap (drop (length (drop a u) + length v - W)) (sym (drop-append-le a u v k))
    ∙ drop-drop (length (drop a u) + length v - W) a (u ++ v)
    ∙ ap (λ (n : ℕ). drop n (u ++ v)) z

-- ---- the entries that P has taken after a list of calls
abbrev one : Ledger → Call → List Entry
one p c = accepted_in (c ∷ []) ((Ledger.play p c).answer ∷ [])

entries-play : (p : Ledger) (c : Call) → entries_of (Ledger.play p c).state.items ≡ entries_of p.items ++ one p c
unfolding Ledger.play accepted_in entries_of
entries-play p (entry g number e table) =
    by-test (is_accepted (entry_verdict (Ledger.shape_of p.settings) (taken p) (length g) number e (length table)))
    (λ t. rw t (entries-append p.items (interval e ∷ [])))
    (λ t. rw t (rw t (sym (append-nil (entries_of p.items)))))
entries-play p (threshold x) =
    by-test (is_accepted (threshold_verdict x)) (λ t. rw t (entries-append p.items (threshold-set x ∷ []))) (λ t. rw t (sym (append-nil (entries_of p.items))))
entries-play p (limits c f) =
    by-test (is_accepted (limits_verdict c f)) (λ t. rw t (entries-append p.items (limits-set c f ∷ []))) (λ t. rw t (sym (append-nil (entries_of p.items))))
entries-play p (report r m) = sym (append-nil (entries_of p.items))
entries-play p (restart second buffer g) = sym (append-nil (entries_of p.items))

accepted-first : (c : Call) (K : List Call) (a : Answer) (l : List Answer) → accepted_in (c ∷ []) (a ∷ []) ++ accepted_in K l ≡ accepted_in (c ∷ K) (a ∷ l)
unfolding accepted_in
accepted-first (entry g number e table) K a l = by-test (is_accepted (verdict_in a)) (λ t. rw t) (λ t. rw t)
accepted-first (threshold x) K a l = refl
accepted-first (limits c f) K a l = refl
accepted-first (report r m) K a l = refl
accepted-first (restart second buffer g) K a l = refl

entries-after : (K : List Call) (p : Ledger) → entries_of (after Ledger.play p K).items ≡ entries_of p.items ++ accepted_in K (answers Ledger.play p K)
unfolding after answers accepted_in
entries-after [] p = sym (append-nil (entries_of p.items))
entries-after (c ∷ K) p =
    let rest = accepted_in K (answers Ledger.play (Ledger.play p c).state K) in
    entries-after K (Ledger.play p c).state
    ∙ ap (λ (l : List Entry). l ++ rest) (entries-play p c)
    ∙ append_assoc (entries_of p.items) (one p c) rest
    ∙ ap (λ (l : List Entry). entries_of p.items ++ l) (accepted-first c K (Ledger.play p c).answer (answers Ledger.play (Ledger.play p c).state K))

-- ---- a market's last prices after them
now-all : (p : Ledger) → take (taken p) (entries_of p.items) ≡ entries_of p.items
now-all p = take_all (taken p) (entries_of p.items) (le_refl (taken p))

prices-after : (K : List Call) (p : Ledger) (r m : ℕ)
    → last_prices (after Ledger.play p K) r m (taken (after Ledger.play p K))
    ≡ last_n p.settings.window (last_prices p r m (taken p) ++ unmarked_prices (markets_of p.settings.services) r m (accepted_in K (answers Ledger.play p K)))
prices-after K p r m =
    let q = after Ledger.play p K in
    let M = markets_of p.settings.services in
    let W = p.settings.window in
    let es = entries_of p.items in
    let fs = accepted_in K (answers Ledger.play p K) in
    ap (λ (t : Settings). last_n t.window (unmarked_prices (markets_of t.services) r m (take (taken q) (entries_of q.items)))) (settings-after K p)
    ∙ ap (λ (l : List Entry). last_n W (unmarked_prices M r m l)) (now-all q ∙ entries-after K p)
    ∙ ap (last_n W) (unmarked-append M r m es fs)
    ∙ sym (last_n-again W (unmarked_prices M r m es) (unmarked_prices M r m fs))
    ∙ ap (λ (l : List Entry). last_n W (last_n W (unmarked_prices M r m l) ++ unmarked_prices M r m fs)) (sym (now-all p))

-- ---- the sum that a report then gives
module _ (s : Held) (p : Ledger) (a : Agree s p) (r m : ℕ) (h : r < s.book.regions) (l : m ≤ s.book.services) where
  report-sum : (q : Ledger) → r < q.settings.regions → m ≤ q.settings.services → (Ledger.report_of q r m).sum ≡ total (last_prices q r m (taken q))
  unfolding Ledger.report_of report_verdict
  report-sum q x y = rw (lt-ltb r q.settings.regions x, le-leb m q.settings.services y)

  pub sum-after : (K : List Call) → (Report.report_of (after Book.play s K).book r m).sum
      ≡ total (last_n s.book.window (window_in s.book s.ring r m ++ unmarked_prices (markets_of s.book.services) r m (accepted_in K (answers Book.play s K))))
  sum-after K =
      let q = after Ledger.play p K in
      let w = plays K s p a in
      let e : q.settings ≡ p.settings = settings-after K p in
      let x : r < q.settings.regions = subst (λ (t : Settings). r < t.regions) (sym e) (omega (arith, a.regions)) in
      let y : m ≤ q.settings.services = subst (λ (t : Settings). m ≤ t.services) (sym e) (omega (arith, a.services)) in
      ap (λ (n : Report.Numbers). n.sum) (report-agrees (after Book.play s K) q w.1 r m)
      ∙ report-sum q x y
      ∙ ap total (prices-after K p r m)
      ∙ ap total (λ i. last_n (a.window i) (sym (a.windows r m h (omega arith)) i ++ unmarked_prices (markets_of (a.services i)) r m (accepted_in K (sym w.0 i))))

-- ---- 21, 43, or an answer
is-accepted : (t u : Bool) → let v = pick (not t) (refused 21) (pick (not u) (refused 43) accepted) in is_accepted v ≡ true → v ≡ accepted
is-accepted true true e = refl
is-accepted true false e = never (is_accepted (refused 43)) e refl
is-accepted false u e = never (is_accepted (refused 21)) e refl

market-is : (R S r m : ℕ) → is_accepted (report_verdict R S r m) ≡ true → (r < R) × (m ≤ S)
unfolding report_verdict
market-is R S r m e =
    let t = (passes-not (ltb r R && leb m S) (refused 21) accepted refl e).0 in
    (ltb-true r R (and_left (ltb r R) (leb m S) t), leb-true m S (and_right (ltb r R) (leb m S) t))

-- ---- the theorem, of a book with its ring that agrees with P
module _ (s : Held) (p : Ledger) (a : Agree s p) where
  pub verdict-is : (r m : ℕ) (x : ℤ) → left_verdict s.book s.ring r m x ≡ asked_verdict s.book.regions s.book.services r m x
  verdict-is r m x =
      sym (verdict-tests s.book s.ring r m x) ∙ rw (a.holds.accepted, eq-eqb _ _ a.holds.ring-size, a.holds.prices) refl

  asked_is : (r m : ℕ) (x : ℤ) → (asked s r m x).verdict ≡ left_verdict s.book s.ring r m x
  unfolding intervals_left
  asked_is r m x =
      by-test (is_accepted (left_verdict s.book s.ring r m x))
      (λ t. rw t (sym (verdict-is r m x
      ∙ is-accepted (is_accepted (report_verdict s.book.regions s.book.services r m)) (in_range (is_energy m) x)
      (rw (verdict-is r m x) at t))))
      (λ t. rw t refl)

  module _ (r m : ℕ) (x : ℤ) (ok : asked_verdict s.book.regions s.book.services r m x ≡ accepted) where
    within : (r < s.book.regions) × (m ≤ s.book.services)
    within =
        let e : is_accepted (asked_verdict s.book.regions s.book.services r m x) ≡ true = ap is_accepted ok in
        market-is s.book.regions s.book.services r m
        (passes-not (is_accepted (report_verdict s.book.regions s.book.services r m)) (refused 21) _ refl e).0

    number_is : (asked s r m x).intervals ≡ market_left s.book s.ring r m x
    unfolding intervals_left
    number_is = rw (verdict-is r m x, ok) refl

    abbrev window : List ℤ
    window = window_in s.book s.ring r m

    tests : (K : List Call) (k : ℕ) (t : Bool) → brought s K r m ≡ replicate k x
        → exceeds s.book.window window x s.book.threshold k ≡ t → above_after s K r m s.book.threshold ≡ t
    tests K k t q z =
        ap (lt_z s.book.threshold)
        (sum-after s p a r m within.0 within.1 K ∙ ap (λ (u : List ℤ). total (last_n s.book.window (window ++ u))) q)
        ∙ z

    least : (n : ℕ) → (asked s r m x).intervals ≡ suc n → Least s.book.window window x s.book.threshold (suc n)
    least n q = least-is s.book.window window x s.book.threshold n (sym number_is ∙ q)

    pub foretells : Foretells s r m x
    foretells =
        let n = (asked s r m x).intervals in
        record {
          enough = λ K some w. let z : n ≡ suc (n - 1) = omega arith in
              tests K n true w
              (subst (λ (k : ℕ). exceeds s.book.window window x s.book.threshold k ≡ true) (sym z) (least (n - 1) z).above);
          fewer = λ K k some few w. let z : n ≡ suc (n - 1) = omega arith in
              tests K k false w ((least (n - 1) z).fewer k some (omega arith));
          none = λ K k q some most w.
              tests K k false w (none_is s.book.window window x s.book.threshold (sym number_is ∙ q) k some most);
        }

-- ---- and after any list of calls from a start that P's list may begin with
module _ (start : Start) (b : Begins start) (L : List Call) where
  abbrev now : Held
  now = after Book.play (held start) L

  abbrev ledger : Ledger
  ledger = after Ledger.play (Ledger.begin (settings start)) L

  agrees : Agree now ledger
  agrees = (plays L (held start) (Ledger.begin (settings start)) (start-agrees start b)).1

  verdict-of : (r m : ℕ) (x : ℤ)
      → asked_verdict now.book.regions now.book.services r m x ≡ asked_verdict (settings start).regions (settings start).services r m x
  verdict-of r m x =
      let t : ledger.settings ≡ settings start = settings-after L (Ledger.begin (settings start)) in
      let R : now.book.regions ≡ (settings start).regions = sym agrees.regions ∙ ap (λ (u : Settings). u.regions) t in
      let S : now.book.services ≡ (settings start).services = sym agrees.services ∙ ap (λ (u : Settings). u.services) t in
      ap₂ (λ (i j : ℕ). asked_verdict i j r m x) R S

pub answered : Answered
unfolding Answered
answered start L r m x b =
    let a = agrees start b L in
    asked_is _ _ a r m x ∙ verdict-is _ _ a r m x ∙ verdict-of start b L r m x

pub foretold : Foretold
unfolding Foretold
foretold start L r m x b ok = foretells _ _ (agrees start b L) r m x (verdict-of start b L r m x ∙ ok)
