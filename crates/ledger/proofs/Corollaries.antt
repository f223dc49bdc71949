-- What follows from DEMAND 3 and P's definitions: over every list of calls 10 and 22 never occur, a refused call answers zeros and
-- changes nothing, restarts make no difference, and at every point a restart is accepted. Assumes nothing.
use mathlib.Core.Path.{◌≡◌, refl, sym, ap, ap₂, ◌∙◌, subst}
use mathlib.Core.Bool.{Bool, true, false, not, ◌&&◌, ◌||◌}
use mathlib.Core.List.{List, [], ◌∷◌, ◌++◌}
use Prim.Native.Nat.{ℕ, zero, suc, ◌+◌, ◌*◌, ◌≤◌}
use native.Mathlib.Nat.{mul_assoc, mul_comm, mul-le-mul_left, suc-mul}
use native.Mathlib.Omega.{arith}
use borrow.Author.Tests.{le-ltb, eq-eqb}
use lib.Dec.{T, eqb, leb, ltb}
use lib.IntN.{ℤ}
use lib.ListN.{length, get_or, take, drop}
use Rattle.laws.specs.Base.{pick}
use Rattle.laws.proofs.Tests.{by-test, true-is}
use Rattle.laws.proofs.Lists.{length_run, last_n-length}
use Rattle.pricing.specs.Verdict.{Verdict, accepted, refused_at}
use Rattle.pricing.specs.Holding.{limits_ok}
use Rattle.book.specs.declared.record.Book.{Book}
use Rattle.book.specs.declared.record.Settings.{Settings}
use Rattle.book.specs.Record.{markets_of, table_size, ring_size, is_linked, links_with, is_accepted}
use Rattle.book.specs.Validity.{threshold_ok, valid}
use Rattle.book_calls.specs.Setting.{in_hundreds, threshold_verdict, limits_verdict, with_settings, changed, set_threshold, set_limits}
use Rattle.book_calls.specs.Report.{report_verdict}
use Rattle.book_calls.specs.Opening as Opening
use Rattle.publishing.specs.Entry.{Entry}
use Rattle.entries.specs.Checking.{Shape, lengths_ok, first_mark, first_price, first_factor, entry_verdict}
use Rattle.entries.specs.Entering as Entering
use Rattle.entries.specs.Entering.{enter_verdict}
use Rattle.image.specs.Storing as Storing
use Rattle.image.specs.Storing.{store_verdict, stored}
use Rattle.image.specs.Loading as Loading
use Rattle.image.specs.Loading.{loaded}
use Rattle.ledger.specs.Calls.{Call, entry, threshold, limits, report, restart, Answer, set, reported, answers, verdict_in, Never, refused_answer, Zeros, without_restarts, drop_restarts}
use Rattle.ledger.specs.Calls.{restarted, Step, after}
use Rattle.ledger.specs.Ledger as Ledger
use Rattle.ledger.specs.Ledger.{Ledger, interval, taken, unmarked_prices, entries_of, counts_to, image_length, allowed, report_of, restart_verdict}
use Rattle.ledger.specs.Book as Book
use Rattle.ledger.specs.Book.{Held, is_own}
use Rattle.ledger.specs.Demand.{Start, opens, held, settings, Begins, settings_of, AnswersAlike, Demand3}
use Rattle.ledger.proofs.Checks.{entered-accepted, entered-refused}
use Rattle.ledger.proofs.Theorem.{settings-after, demand-3}

-- ---- 10 and 22
-- a verdict by neither number
record Other (v : Verdict) : Type 0 where
  not-10 : v.number ≡ 10 → ⊥
  not-22 : v.number ≡ 22 → ⊥

by-other : (n place : ℕ) → T (not (eqb n 10)) → T (not (eqb n 22)) → Other (refused_at n place)
by-other n place a b =
    record { not-10 = λ e. subst (λ (k : ℕ). T (not (eqb k 10))) e a; not-22 = λ e. subst (λ (k : ℕ). T (not (eqb k 22))) e b }

other_pick : (t : Bool) {x y : Verdict} → Other x → Other y → Other (pick t x y)
other_pick true a b = a
other_pick false a b = b

entry_other : (s : Shape) (taken ring number : ℕ) (e : Entry) (table : ℕ) → Other (entry_verdict s taken ring number e table)
unfolding entry_verdict
entry_other s taken ring number e table =
    let mark = first_mark s.regions e.offer.marked in
    let price = first_price s.regions (markets_of s.services) e.offer.prices e.offer.marked in
    let factor = first_factor (links_with s.regions s.from) s.regions s.parents e.factors in
    other_pick (not (lengths_ok s ring e table)) (by-other 11 0 tt tt)
    (other_pick (leb 10000000 taken) (by-other 12 0 tt tt)
    (other_pick (not (eqb number taken)) (by-other 13 0 tt tt)
    (other_pick (not (leb e.offer.kind 1)) (by-other 14 0 tt tt)
    (other_pick (ltb mark s.regions) (by-other 15 mark tt tt)
    (other_pick (ltb price (table_size s.regions s.services)) (by-other 16 price tt tt)
    (other_pick (ltb factor (links_with s.regions s.from)) (by-other 17 factor tt tt) (by-other 0 0 tt tt)))))))

threshold-other : (x : ℤ) → Other (threshold_verdict x)
unfolding threshold_verdict
threshold-other x =
    other_pick (not (threshold_ok x)) (by-other 18 0 tt tt)
    (other_pick (not (in_hundreds x)) (by-other 44 0 tt tt) (by-other 0 0 tt tt))

limits-other : (c f : ℤ) → Other (limits_verdict c f)
unfolding limits_verdict
limits-other c f = other_pick (not (limits_ok c f)) (by-other 19 0 tt tt) (by-other 0 0 tt tt)

report-other : (R S r m : ℕ) → Other (report_verdict R S r m)
unfolding report_verdict
report-other R S r m = other_pick (not (ltb r R && leb m S)) (by-other 21 0 tt tt) (by-other 0 0 tt tt)

restart-other : (second : Bool) (p : Ledger) (buffer ring : ℕ) → Other (restart_verdict second p buffer ring)
unfolding restart_verdict
restart-other second p buffer ring =
    other_pick (not (allowed second p)) (by-other 47 0 tt tt)
    (other_pick (ltb buffer (image_length second p)) (by-other 23 0 tt tt)
    (other_pick (not (eqb ring (ring_size p.settings.regions p.settings.services p.settings.window))) (by-other 11 0 tt tt)
    (by-other 0 0 tt tt)))

-- any answer of P
answer-other : (p : Ledger) (c : Call) → Other (verdict_in (Ledger.play p c).answer)
unfolding Ledger.play report_of
answer-other p (entry ring number e table) =
    by-test (is_accepted (entry_verdict (Ledger.shape_of p.settings) (taken p) (length ring) number e (length table)))
    (λ t. rw t (by-other 0 0 tt tt))
    (λ t. rw t (entry_other (Ledger.shape_of p.settings) (taken p) (length ring) number e (length table)))
answer-other p (threshold x) = threshold-other x
answer-other p (limits c f) = limits-other c f
answer-other p (report r m) =
    by-test (is_accepted (report_verdict p.settings.regions p.settings.services r m))
    (λ t. rw t (by-other 0 0 tt tt)) (λ t. rw t (report-other p.settings.regions p.settings.services r m))
answer-other p (restart second buffer ring) = restart-other second p (length buffer) (length ring)

never-p : (L : List Call) (p : Ledger) → Never 10 (answers Ledger.play p L) × Never 22 (answers Ledger.play p L)
unfolding answers
never-p [] p = (tt, tt)
never-p (c ∷ L) p =
    let o = answer-other p c in
    let r = never-p L (Ledger.play p c).state in
    ((o.not-10, r.0), (o.not-22, r.1))

-- ---- refused calls
-- "a refused call leaves P and the lent table as they were and answers zeros beside number and place"
pub refused-p : (p : Ledger) (c : Call) → is_accepted (verdict_in (Ledger.play p c).answer) ≡ false
    → ((Ledger.play p c).state ≡ p) × ((Ledger.play p c).answer ≡ refused_answer c (verdict_in (Ledger.play p c).answer))
unfolding Ledger.play report_of
refused-p p (entry ring number e table) h =
    let v = entry_verdict (Ledger.shape_of p.settings) (taken p) (length ring) number e (length table) in
    by-test (is_accepted v) (λ t. absurd (true-is (sym (rw t at h)))) (λ t. rw t (refl, refl))
refused-p p (threshold x) h = (rw h, refl)
refused-p p (limits c f) h = (rw h, refl)
refused-p p (report r m) h =
    by-test (is_accepted (report_verdict p.settings.regions p.settings.services r m))
    (λ t. absurd (true-is (sym (rw t at h)))) (λ t. rw t (refl, refl))
refused-p p (restart second buffer ring) h = (refl, refl)

zeros-p : (L : List Call) (p : Ledger) → Zeros L (answers Ledger.play p L)
unfolding answers
zeros-p [] p = tt
zeros-p (c ∷ L) p = (λ h. (refused-p p c h).1, zeros-p L (Ledger.play p c).state)

-- ---- restarts
restarts-p : (L : List Call) (p : Ledger) → drop_restarts (answers Ledger.play p L) ≡ answers Ledger.play p (without_restarts L)
unfolding answers drop_restarts without_restarts Ledger.play
restarts-p [] p = refl
restarts-p (entry ring number e table ∷ L) p =
    by-test (is_accepted (entry_verdict (Ledger.shape_of p.settings) (taken p) (length ring) number e (length table)))
    (λ t. rw t (ap₂ ◌∷◌ refl (restarts-p L (Ledger.kept p (interval e)))))
    (λ t. rw t (ap₂ ◌∷◌ refl (restarts-p L p)))
restarts-p (threshold x ∷ L) p = ap (λ (l : List Answer). set (threshold_verdict x) ∷ l) (restarts-p L (Ledger.play p (threshold x)).state)
restarts-p (limits c f ∷ L) p = ap (λ (l : List Answer). set (limits_verdict c f) ∷ l) (restarts-p L (Ledger.play p (limits c f)).state)
restarts-p (report r m ∷ L) p = ap (λ (l : List Answer). reported (report_of p r m) ∷ l) (restarts-p L p)
restarts-p (restart second buffer ring ∷ L) p = restarts-p L p

-- no region counts more than W prices, so that an image is at most 148 (of kind 2 156) + 4 × R × M × W bytes long
counts-most : (p : Ledger) (n : ℕ) → counts_to p n ≤ n * p.settings.window
unfolding counts_to
counts-most p zero = omega arith
counts-most p (suc n) =
    let W = p.settings.window in
    let prices = unmarked_prices (markets_of p.settings.services) n 0 (take (taken p) (entries_of p.items)) in
    omega (arith, counts-most p n, last_n-length W prices, suc-mul n W)

abbrev pub places_of : Settings → ℕ
places_of t = ring_size t.regions t.services t.window

abbrev pub most_bytes : Bool → Settings → ℕ
most_bytes second t = pick second 156 148 + 4 * places_of t

image-most : (second : Bool) (p : Ledger) → image_length second p ≤ most_bytes second p.settings
image-most second p =
    let R = p.settings.regions in
    let M = markets_of p.settings.services in
    let W = p.settings.window in
    let h : M * counts_to p R ≤ M * (R * W) = mul-le-mul_left M (counts-most p R) in
    let e : M * (R * W) ≡ R * M * W = sym (mul_assoc M R W) ∙ ap (λ (k : ℕ). k * W) (mul_comm M R) in
    omega arith

-- "P accepts both calls and does nothing"
restart-p : (kind : Bool) (p : Ledger) (buffer : List ℕ) (ring : List ℤ) → allowed kind p ≡ true → length ring ≡ places_of p.settings
    → image_length kind p ≤ length buffer → Ledger.play p (restart kind buffer ring) ≡ record { state = p; answer = restarted accepted }
unfolding Ledger.play restart_verdict
restart-p kind p buffer ring k e h =
    rw (k, le-ltb (length buffer) (image_length kind p) h, eq-eqb (length ring) (places_of p.settings) e)

-- two machines that answer a list of calls alike answer its last call alike
last-alike : {S T : Type 0} (f : S → Call → Step S) (g : T → Call → Step T) (L : List Call) (c : Call) (s : S) (t : T)
    → answers f s (L ++ c ∷ []) ≡ answers g t (L ++ c ∷ []) → (f (after f s L) c).answer ≡ (g (after g t L) c).answer
unfolding answers after
last-alike f g [] c s t e = ap (λ (l : List Answer). get_or l 0 (set accepted)) e
last-alike f g (d ∷ L) c s t e = last-alike f g L c (f s d).state (g t d).state (ap (λ (l : List Answer). drop 1 l) e)

-- and a refused call leaves the book and its ring as they were: from the book's definitions
refused-entry : (s : Held) (g : List ℤ) (number : ℕ) (e : Entry) (table : List ℤ)
    → is_accepted (Entering.entered s.book (pick (is_own s.book g) s.ring g) number e table).verdict ≡ false
    → (Book.enters s g (Entering.entered s.book (pick (is_own s.book g) s.ring g) number e table)).state ≡ s
refused-entry s g number e table h =
    let lent = pick (is_own s.book g) s.ring g in
    by-test (is_accepted (enter_verdict s.book (length lent) number e (length table)))
    (λ t. absurd (true-is (sym (rw (entered-accepted s.book lent number e table t) at h))))
    (λ t. rw (entered-refused s.book lent number e table t) (by-test (is_own s.book g) (λ q. rw q) (λ q. rw q)))

refused-setting : (s : Held) (v : Verdict) (after : Book) → is_accepted (changed s.book v after).verdict ≡ false
    → (Book.sets s (changed s.book v after)).state ≡ s
refused-setting s v after h =
    by-test (valid s.book)
    (λ a. by-test (is_accepted v) (λ t. absurd (true-is (sym (rw (a, t) at h)))) (λ t. rw (a, t)))
    (λ a. rw a)

-- a store hands the book back
handed : (second : Bool) (b : Book) (ring : List ℤ) (buffer : List ℕ) → (stored second b ring buffer).book ≡ b
unfolding stored
handed second b ring buffer = by-test (is_accepted (store_verdict second b ring (length buffer))) (λ t. rw t) (λ t. rw t)

refused-load : (s : Held) (o : Loading.Outcome) → is_accepted (verdict_in (Book.loads s o).answer) ≡ false → (Book.loads s o).state ≡ s
refused-load s o h = by-test (is_accepted o.verdict) (λ t. absurd (true-is (sym (rw t at h)))) (λ t. rw t)

refused-restart : (s : Held) (o : Storing.Outcome) (ring : List ℤ) → o.book ≡ s.book
    → is_accepted (verdict_in (Book.restarts s o ring).answer) ≡ false → (Book.restarts s o ring).state ≡ s
refused-restart s o ring same h =
    let back : ◌≡◌ {A = Held} (record { book = o.book; ring = s.ring }) s = ap (λ (b : Book). record { book = b; ring = s.ring }) same in
    by-test (is_accepted o.verdict)
    (λ t. rw t (refused-load (record { book = o.book; ring = s.ring }) (loaded (take o.length o.buffer) ring) (rw t at h) ∙ back))
    (λ t. rw t back)

pub refused-b : (s : Held) (c : Call) → is_accepted (verdict_in (Book.play s c).answer) ≡ false → (Book.play s c).state ≡ s
unfolding Book.play set_threshold set_limits
refused-b s (entry g number e table) h = refused-entry s g number e table h
refused-b s (threshold x) h = refused-setting s (threshold_verdict x) (with_settings s.book x s.book.cap s.book.floor) h
refused-b s (limits c f) h = refused-setting s (limits_verdict c f) (with_settings s.book s.book.threshold c f) h
refused-b s (report r m) h = refl
refused-b s (restart second buffer g) h =
    refused-restart s (stored second s.book s.ring buffer) g (handed second s.book s.ring buffer) h

-- ---- the base's form: from an opening, whose own accepted answer is all that is asked
pub from-opening : (regions services window halves first : ℕ) (parents : ℕ → ℕ) (from to : ℕ) (θ cap floor : ℤ) (ring : List ℤ) (L : List Call)
    → (Opening.opened (settings_of regions services window halves first parents from to θ cap floor) ring).verdict.number ≡ 0
    → AnswersAlike (held (opens (settings_of regions services window halves first parents from to θ cap floor) ring))
    (Ledger.begin (settings_of regions services window halves first parents from to θ cap floor)) L
unfolding Demand3
from-opening regions services window halves first parents from to θ cap floor ring L e =
    demand-3 (opens (settings_of regions services window halves first parents from to θ cap floor) ring) L
    (record { accepted = e; fit = length_run parents 8 0 })

-- ---- over every list of calls, from every start that P's list may begin with
module _ (start : Start) (b : Begins start) where
  abbrev pub beginning : Ledger
  beginning = Ledger.begin (settings start)

  same : (L : List Call) → answers Book.play (held start) L ≡ answers Ledger.play beginning L
  unfolding Demand3
  same L = (demand-3 start L b).during

  -- "10 and 22 never occur over L"
  pub never-10-22 : (L : List Call) → Never 10 (answers Book.play (held start) L) × Never 22 (answers Book.play (held start) L)
  never-10-22 L = rw (same L) (never-p L beginning)

  -- a refused call "leaves .. the lent table as [it was] and answers zeros beside number and place"
  pub refused-zeros : (L : List Call) → Zeros L (answers Book.play (held start) L)
  refused-zeros L = rw (same L) (zeros-p L beginning)

  -- restarts make no difference: the other calls are answered as if none had been made
  pub restarts-alike : (L : List Call) → drop_restarts (answers Book.play (held start) L) ≡ answers Book.play (held start) (without_restarts L)
  restarts-alike L = ap drop_restarts (same L) ∙ restarts-p L beginning ∙ sym (same (without_restarts L))

  -- "A restart is an image stored into a long enough buffer and loaded, from exactly its bytes, into another ring of the right length,
  -- with which L goes on; P accepts both calls and does nothing": at every point of every L, whatever buffer and ring hold. Long enough
  -- is the length of the image that is stored there; the kind is one that 47 allows
  pub restart-accepted : (kind : Bool) (L : List Call) (buffer : List ℕ) (other : List ℤ) → allowed kind beginning ≡ true
      → length other ≡ places_of (settings start) → image_length kind (after Ledger.play beginning L) ≤ length buffer
      → ((Book.play (after Book.play (held start) L) (restart kind buffer other)).answer ≡ restarted accepted)
      × (Ledger.play (after Ledger.play beginning L) (restart kind buffer other)
      ≡ record { state = after Ledger.play beginning L; answer = restarted accepted })
  restart-accepted kind L buffer other k e h =
      let q = after Ledger.play beginning L in
      let same-settings : q.settings ≡ settings start = settings-after L beginning in
      let size : length other ≡ places_of q.settings = e ∙ ap places_of (sym same-settings) in
      let tells : allowed kind q ≡ true = ap (λ (t : Settings). kind || not (is_linked t.from)) same-settings ∙ k in
      let p = restart-p kind q buffer other tells size h in (
        last-alike Book.play Ledger.play L (restart kind buffer other) (held start) beginning (same (L ++ restart kind buffer other ∷ []))
            ∙ ap (λ (x : Step Ledger). x.answer) p,
        p,
      )

  -- and 148 (of kind 2 156) + 4 × R × M × W bytes are long enough at every point
  pub restart-always : (kind : Bool) (L : List Call) (buffer : List ℕ) (other : List ℤ) → allowed kind beginning ≡ true
      → length other ≡ places_of (settings start) → most_bytes kind (settings start) ≤ length buffer
      → ((Book.play (after Book.play (held start) L) (restart kind buffer other)).answer ≡ restarted accepted)
      × (Ledger.play (after Ledger.play beginning L) (restart kind buffer other)
      ≡ record { state = after Ledger.play beginning L; answer = restarted accepted })
  restart-always kind L buffer other k e h =
      restart-accepted kind L buffer other k e
      (omega (arith, image-most kind (after Ledger.play beginning L), ap (most_bytes kind) (settings-after L beginning)))
