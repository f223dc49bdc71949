-- DEMAND 3 over sequences of C calls: what each function's contract says is the book's own step (specs/Session says it). Assumes nothing.
use mathlib.Core.Path.{◌≡◌, refl, sym, ap, ap₂, ◌∙◌, subst}
use mathlib.Core.Bool.{true, ◌&&◌}
use mathlib.Core.List.{List, [], ◌∷◌}
use Prim.Native.Nat.{ℕ}
use borrow.Author.Tests.{eqb-true}
use lib.Dec.{eqb}
use lib.IntN.{ℤ}
use lib.ListN.{length, take}
use Rattle.laws.specs.Base.{pick}
use Rattle.laws.proofs.Tests.{by-test, never}
use Rattle.pricing.specs.Verdict.{accepted}
use Rattle.book.specs.Record.{is_accepted}
use Rattle.book_calls.specs.Opening as Opening
use Rattle.book_calls.specs.Setting as Setting
use Rattle.image.specs.Storing as Storing
use Rattle.image.specs.Loading as Loading
use Rattle.image.specs.Loading.{loaded, load_verdict}
use Rattle.entries.specs.Entering as Entering
use Rattle.ledger.specs.Calls.{entered, set, reported, restarted, answers, Never}
use Rattle.ledger.specs.Book as Book
use Rattle.ledger.specs.Book.{Held, is_own}
use Rattle.ledger.specs.Demand as Demand
use Rattle.ledger.specs.Demand.{Start, opens, loads, verdict, held, Fit, Begins}
use Rattle.ledger.proofs.Theorem.{demand-3}
use Rattle.ledger.proofs.Corollaries.{never-10-22}
use Rattle.face.specs.declared.Kept.{Kept}
use Rattle.face.specs.declared.Written.{Written}
use Rattle.face.specs.Face.{verdict_by, stored_of, loaded_of}
use Rattle.session.specs.Session.{Made, made-entry, made-threshold, made-limits, made-report, made-restart}
use Rattle.session.specs.Session.{called, Meets, next, said, all_called, all_said, Session, Began, Demand3}

-- a load that answers 0 is an acceptance, and its place is 0
load-accepted : (bytes : List ℕ) (ring : List ℤ) → eqb (loaded bytes ring).verdict.number 0 ≡ true
    → (loaded bytes ring).verdict ≡ accepted
unfolding loaded
load-accepted bytes ring =
    by-test (is_accepted (load_verdict bytes (length ring)))
    (λ t. rw t (λ _. refl))
    (λ t. rw t (λ e. never (is_accepted (load_verdict bytes (length ring))) e t))

-- what a call comes to in the host's hands is the book's own step
abbrev pub Same : Held → Made → Type 0
Same s m = (said m ≡ (Book.play s (called m)).answer) × (next s m ≡ (Book.play s (called m)).state)

module _ (s : Held) (ring : List ℤ) (w : Written) (buffer' : List ℕ) (k : Kept) (ring' : List ℤ) where
  -- a load that was made
  abbrev Loads : Loading.Outcome → Type 0
  Loads o =
      (restarted (verdict_by k.number k.place) ≡ (Book.loads s o).answer)
      × (pick (eqb k.number 0) (record { book = k.book; ring = ring' }) s ≡ (Book.loads s o).state)

  load_same : (o : Loading.Outcome) → (eqb o.verdict.number 0 ≡ true → o.verdict ≡ accepted) → loaded_of k ring' ≡ o → Loads o
  load_same o zero e =
      subst (λ (x : Loading.Outcome). (eqb x.verdict.number 0 ≡ true → x.verdict ≡ accepted) → Loads x) e
      (λ z. by-test (eqb k.number 0) (λ t. rw t (ap restarted (z t), refl)) (λ t. rw t (refl, refl)))
      zero

  -- a store, and the load after it
  abbrev Restarts : Storing.Outcome → Type 0
  Restarts o =
      (restarted (pick (eqb w.number 0) (verdict_by k.number k.place) (verdict_by w.number 0))
      ≡ (Book.restarts s o ring).answer)
      × (pick (eqb w.number 0 && eqb k.number 0) (record { book = k.book; ring = ring' }) s ≡ (Book.restarts s o ring).state)

  restart-same : (o : Storing.Outcome) → stored_of w s.book buffer' ≡ o
      → (w.number ≡ 0 → loaded_of k ring' ≡ loaded (take w.length buffer') ring) → Restarts o
  restart-same o e h =
      subst Restarts e
      (by-test (eqb w.number 0)
      (λ t. rw t (load_same (loaded (take w.length buffer') ring) (load-accepted (take w.length buffer') ring)
      (h (eqb-true w.number 0 t))))
      (λ t. rw t (refl, refl)))

-- any call
pub same : (s : Held) (m : Made) → Meets s m → Same s m
unfolding Meets next said called Book.play
same s (made-entry ring number e table r ring' table') h = (
  ap (λ (o : Entering.Outcome). entered o.verdict o.count o.table) h,
  ap (λ (o : Entering.Outcome). record { book = o.book; ring = pick (is_own s.book ring) o.ring s.ring }) h,
)
same s (made-threshold x r) h =
    (ap (λ (o : Setting.Outcome). set o.verdict) h, ap (λ (o : Setting.Outcome). record { book = o.book; ring = s.ring }) h)
same s (made-limits c f r) h =
    (ap (λ (o : Setting.Outcome). set o.verdict) h, ap (λ (o : Setting.Outcome). record { book = o.book; ring = s.ring }) h)
same s (made-report region market r) h = (ap reported h, refl)
same s (made-restart second buffer ring w buffer' k ring') h = restart-same s ring w buffer' k ring' _ h.0 h.1

-- a whole session
pub sessions : (l : List Made) (s : Held) → Session s l → all_said l ≡ answers Book.play s (all_called l)
unfolding Session all_said all_called answers
sessions [] s h = refl
sessions (m ∷ l) s h =
    let e = same s m h.0 in
    ap₂ ◌∷◌ e.0 (sessions l (next s m) h.1 ∙ ap (λ (t : Held). answers Book.play t (all_called l)) e.1)

-- ---- from a start that P's list may begin with
-- what the host then holds is what demand 3 begins with, and its answer is that start's
start-same : (start : Start) (k : Kept) (ring' : List ℤ) → Began start k ring' → record { book = k.book; ring = ring' } ≡ held start
unfolding Began
start-same (opens s ring) k ring' e = ap (λ (o : Opening.Outcome). record { book = o.book; ring = o.ring }) e
start-same (loads image ring) k ring' e = ap (λ (o : Loading.Outcome). record { book = o.book; ring = o.ring }) e

start-number : (start : Start) (k : Kept) (ring' : List ℤ) → Began start k ring' → (verdict start).number ≡ k.number
unfolding Began
start-number (opens s ring) k ring' e = sym (ap (λ (o : Opening.Outcome). o.verdict.number) e)
start-number (loads image ring) k ring' e = sym (ap (λ (o : Loading.Outcome). o.verdict.number) e)

module _ (start : Start) (k : Kept) (ring' : List ℤ) (l : List Made) (e : Began start k ring') (z : k.number ≡ 0) (f : Fit start)
    (h : Session (record { book = k.book; ring = ring' }) l) where
  begins : Begins start
  begins = record { accepted = start-number start k ring' e ∙ z; fit = f }

  by-the-book : all_said l ≡ answers Book.play (held start) (all_called l)
  by-the-book =
      sessions l (record { book = k.book; ring = ring' }) h
      ∙ ap (λ (x : Held). answers Book.play x (all_called l)) (start-same start k ring' e)

  -- "10 and 22 never occur"
  pub never-10-22-in-C : Never 10 (all_said l) × Never 22 (all_said l)
  never-10-22-in-C = rw by-the-book (never-10-22 start begins (all_called l))

-- THE THEOREM
pub demand-3-in-C : Demand3
unfolding Demand3 Demand.Demand3
demand-3-in-C start k ring' l e z f h =
    by-the-book start k ring' l e z f h ∙ (demand-3 start (all_called l) (begins start k ring' l e z f h)).during
