-- A list that is rewritten row by row: after r rows the places of the rows below r are as they are to be, the others as they
-- were. Assumes nothing.
use mathlib.Core.Path.{◌≡◌, refl, sym, ◌∙◌}
use mathlib.Core.List.{List}
use mathlib.Core.Logic.{⊎_elim}
use Prim.Native.Nat.{ℕ, ◌+◌, ◌<◌, ◌≤◌}
use native.Mathlib.Omega.{arith}
use borrow.Author.Tests.{lt-ltb, le-ltb}
use lib.Dec.{ltb}
use lib.ListN.{length, get_or}
use lib.Seq.{ext_get_or}
use Rattle.laws.specs.Base.{pick}
use Rattle.laws.specs.Lists.{tabulate}
use Rattle.laws.proofs.Tests.{lt-or-ge}
use Rattle.laws.proofs.Lists.{length_run, get_or-tabulate, tabulate-same}

-- `row k` is the row of place k, `d` what is read past the end
module _ {A : Type 0} (d : A) (N : ℕ) (row : ℕ → ℕ) (after old : ℕ → A) where
  abbrev pub staged : ℕ → List A
  staged r = tabulate N (λ k. pick (ltb (row k) r) (after k) (old k))

  -- at a place that is still as it was, and at one that is not
  pub staged-old : (r k : ℕ) → k < N → r ≤ row k → get_or (staged r) k d ≡ old k
  staged-old r k h l = get_or-tabulate _ N k d h ∙ rw (le-ltb (row k) r l)

  staged-new : (r k : ℕ) → k < N → row k < r → get_or (staged r) k d ≡ after k
  staged-new r k h l = get_or-tabulate _ N k d h ∙ rw (lt-ltb (row k) r l)

  pub staged-none : (l : List A) → length l ≡ N → ((k : ℕ) → k < N → get_or l k d ≡ old k) → l ≡ staged 0
  staged-none l n e =
      ext_get_or d l (staged 0) (n ∙ sym (length_run _ N 0)) (λ k h. e k (omega arith) ∙ sym (staged-old 0 k (omega arith) (omega arith)))

  -- a list in which row r was rewritten
  pub staged-step : (r : ℕ) (l : List A) → length l ≡ N → ((k : ℕ) → k < N → row k ≡ r → get_or l k d ≡ after k)
      → ((k : ℕ) → k < N → (row k ≡ r → ⊥) → get_or l k d ≡ get_or (staged r) k d) → l ≡ staged (r + 1)
  staged-step r l n here there =
      ext_get_or d l (staged (r + 1)) (n ∙ sym (length_run _ N 0))
      (λ k h. let p : k < N = omega arith in
      ⊎_elim
      (λ x. there k p (λ e. omega arith) ∙ staged-new r k p x ∙ sym (staged-new (r + 1) k p (omega arith)))
      (λ y. ⊎_elim
      (λ x. let e : row k ≡ r = omega arith in here k p e ∙ sym (staged-new (r + 1) k p x))
      (λ x. there k p (λ e. omega arith) ∙ staged-old r k p y ∙ sym (staged-old (r + 1) k p x))
      (lt-or-ge (row k) (r + 1)))
      (lt-or-ge (row k) r))

  -- a row that stays
  pub staged-skip : (r : ℕ) → ((k : ℕ) → k < N → row k ≡ r → after k ≡ old k) → staged r ≡ staged (r + 1)
  staged-skip r same =
      staged-step r (staged r) (length_run _ N 0) (λ k h e. staged-old r k h (omega arith) ∙ sym (same k h e)) (λ k h e. refl)

  pub staged_done : (R : ℕ) → ((k : ℕ) → k < N → R ≤ row k → after k ≡ old k) → staged R ≡ tabulate N after
  staged_done R same =
      tabulate-same N _ _ (λ k h. ⊎_elim (λ x. rw (lt-ltb (row k) R x)) (λ x. rw (le-ltb (row k) R x) (sym (same k h x))) (lt-or-ge (row k) R))
