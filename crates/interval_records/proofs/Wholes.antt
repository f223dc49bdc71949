-- A record that stands whole, and the first refusal of several. Assumes nothing.
use mathlib.Core.Path.{◌≡◌, refl, sym, ap, ◌∙◌}
use mathlib.Core.Bool.{Bool, true, false, not, ◌&&◌, ◌||◌}
use mathlib.Core.List.{List}
use mathlib.Core.Logic.{⊎_elim}
use Prim.Native.Nat.{ℕ, zero, suc, ◌+◌, ◌-◌, ◌<◌, ◌≤◌}
use native.Mathlib.Omega.{arith}
use borrow.Author.Tests.{eq-eqb, ne_eqb, eqb-true, le-leb, leb-true}
use lib.Dec.{eqb, leb}
use lib.ListN.{length}
use Rattle.laws.specs.Base.{pick}
use Rattle.laws.specs.Bytes.{number_at}
use Rattle.laws.proofs.Tests.{by-test, never, and_left, and_right, lt-or-ge, true-is}
use Rattle.pricing.specs.Verdict.{Verdict, accepted, refused}
use Rattle.book.specs.Record.{is_accepted}
use Rattle.interval_records.specs.Layout.{link_length}
use Rattle.interval_records.specs.Record.{length_at, kind_at, known_length, whole, due_verdict, link_verdict, first_refusal}

-- ---- one record: it is accepted exactly where it is there and has its kind's length
pub record Due (due markets : ℕ) (bytes : List ℕ) (p : ℕ) : Type 0 where
  pub room : p + known_length markets due ≤ length bytes
  pub size : number_at bytes p 4 ≡ known_length markets due
  pub kind : number_at bytes (p + 4) 2 ≡ due

pub whole_is : (markets : ℕ) (bytes : List ℕ) (p : ℕ) → whole markets bytes p ≡ true
    → (6 ≤ length bytes - p) × (length_at bytes p ≤ length bytes - p) × ((eqb (known_length markets (kind_at bytes p)) 0 || eqb (length_at bytes p) (known_length markets (kind_at bytes p))) ≡ true)
unfolding whole
whole_is markets bytes p e =
    let a = leb 6 (length bytes - p) in
    let b = leb 6 (length_at bytes p) in
    let c = leb (length_at bytes p) (length bytes - p) in
    let d = eqb (known_length markets (kind_at bytes p)) 0 || eqb (length_at bytes p) (known_length markets (kind_at bytes p)) in
    let f = and_right a (b && c && d) e in (
      leb-true 6 (length bytes - p) (and_left a (b && c && d) e),
      leb-true (length_at bytes p) (length bytes - p) (and_right b c (and_left (b && c) d f)),
      and_right (b && c) d f,
    )

module _ (kind markets : ℕ) (known : 6 ≤ known_length markets kind) (bytes : List ℕ) (p : ℕ) where
  pub due-accepted : Due kind markets bytes p → due_verdict kind markets bytes p ≡ accepted
  unfolding due_verdict whole
  due-accepted d =
      rw (le-leb 6 (length bytes - p) (omega (arith, d.room)), d.size, d.kind, le-leb 6 (known_length markets kind) known, le-leb (known_length markets kind) (length bytes - p) (omega (arith, d.room)), eq-eqb (known_length markets kind) (known_length markets kind) refl, eq-eqb kind kind refl)
      (either (eqb (known_length markets kind) 0))
    where
      either : (x : Bool) → pick (not (x || true)) (refused 40) accepted ≡ accepted
      either true = refl
      either false = refl

  pub accepted-due : is_accepted (due_verdict kind markets bytes p) ≡ true → Due kind markets bytes p
  unfolding due_verdict whole
  accepted-due e =
      by-test (whole markets bytes p)
      (λ w. by-test (eqb (kind_at bytes p) kind)
      (λ q. from w (eqb-true (kind_at bytes p) kind q))
      (λ q. absurd (true-is (rw (w, q) at e))))
      (λ w. absurd (true-is (rw w at e)))
    where
      from : whole markets bytes p ≡ true → kind_at bytes p ≡ kind → Due kind markets bytes p
      from w q =
          let g = whole_is markets bytes p w in
          let k : known_length markets (kind_at bytes p) ≡ known_length markets kind = ap (λ (x : ℕ). known_length markets x) q in
          let z : eqb (known_length markets kind) 0 ≡ false = ne_eqb (known_length markets kind) 0 (λ r. omega arith) in
          let y : length_at bytes p ≡ known_length markets kind = eqb-true _ _ (rw (k, z) at g.2) in
          record { room = omega (arith, g.0, g.1); size = y; kind = q }

-- ---- the additional link's record
pub record LinkDue (bytes : List ℕ) (p : ℕ) : Type 0 where
  pub room : p + link_length ≤ length bytes
  pub size : number_at bytes p 4 ≡ link_length
  pub kind : number_at bytes (p + 4) 2 ≡ 18

link-length : (markets : ℕ) → known_length markets 18 ≡ link_length
link-length markets = refl

module _ (linked : Bool) (markets : ℕ) (bytes : List ℕ) (p : ℕ) where
  pub link-is : is_accepted (link_verdict linked markets bytes p) ≡ true → linked ≡ true → LinkDue bytes p
  unfolding link_verdict
  link-is e l =
      let n = link-length markets in
      let d = accepted-due 18 markets (omega (arith, n)) bytes p (rw l at e) in
      record { room = omega (arith, n, d.room); size = d.size ∙ n; kind = d.kind }

  pub is-link : (linked ≡ true → LinkDue bytes p) → link_verdict linked markets bytes p ≡ accepted
  unfolding link_verdict
  is-link d =
      by-test linked
      (λ l. rw l (from (link-length markets) (d l)))
      (λ l. rw l refl)
    where
      from : known_length markets 18 ≡ link_length → LinkDue bytes p → due_verdict 18 markets bytes p ≡ accepted
      from n d = due-accepted 18 markets (omega (arith, n)) bytes p (record { room = omega (arith, n, d.room); size = d.size ∙ sym n; kind = d.kind })

-- ---- several records
pub all-accepted : (n k : ℕ) (f : ℕ → Verdict) → ((j : ℕ) → k ≤ j → j < k + n → f j ≡ accepted) → first_refusal n k f ≡ accepted
unfolding first_refusal
all-accepted zero k f h = refl
all-accepted (suc n) k f h = rw (h k (omega arith) (omega arith)) (all-accepted n (suc k) f (λ j a b. h j (omega arith) (omega arith)))

pub accepted-all : (n k : ℕ) (f : ℕ → Verdict) → is_accepted (first_refusal n k f) ≡ true → (j : ℕ) → k ≤ j → j < k + n → is_accepted (f j) ≡ true
unfolding first_refusal
accepted-all zero k f e j a b = absurd (omega arith)
accepted-all (suc n) k f e j a b =
    by-test (is_accepted (f k))
    (λ t. ⊎_elim (λ (l : j < suc k). let q : j ≡ k = omega arith in rw q t) (λ (l : suc k ≤ j). accepted-all n (suc k) f (rw t at e) j l (omega arith)) (lt-or-ge j (suc k)))
    (λ t. never (is_accepted (f k)) (rw t at e) t)
