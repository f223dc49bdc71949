-- R different numbers below R are all of them. Assumes nothing.
use mathlib.Core.Path.{◌≡◌, refl, sym, ◌∙◌}
use mathlib.Core.Bool.{Bool, true, false, ◌||◌}
use mathlib.Core.Logic.{⊎_elim}
use Prim.Native.Nat.{ℕ, zero, suc, ◌+◌, ◌<◌, ◌≤◌}
use native.Mathlib.Nat.{not-suc-le-zero}
use native.Mathlib.Omega.{arith}
use borrow.Author.Tests.{eq-eqb, ne_eqb}
use lib.Dec.{eqb}
use Rattle.laws.specs.Base.{pick}
use Rattle.laws.specs.Lists.{count_below, any_below, first_below}
use Rattle.laws.proofs.Tests.{by-test, lt-or-ge}
use Rattle.laws.proofs.Lists.{count_below-most, count_below-same, any_at}

-- one more number that passes
count-more : (n z : ℕ) (t u : ℕ → Bool) → z < n → t z ≡ false → u z ≡ true → ((k : ℕ) → (k ≡ z → ⊥) → u k ≡ t k) → count_below n u ≡ count_below n t + 1
unfolding count_below
count-more zero z t u h a b e = absurd (not-suc-le-zero h)
count-more (suc n) z t u h a b e =
    ⊎_elim
    (λ (l : z < n). rw (e n (λ q. omega arith)) (omega (arith, count-more n z t u l a b e)))
    (λ (l : n ≤ z).
    let q : n ≡ z = omega arith in
    let s : count_below n u ≡ count_below n t = count_below-same n u t (λ k m. e k (λ r. omega arith)) in
    rw (q, a, b, ← q, s) (omega arith))
    (lt-or-ge z n)

-- if all are counted, each passes
count-all : (n : ℕ) (t : ℕ → Bool) → count_below n t ≡ n → (k : ℕ) → k < n → t k ≡ true
unfolding count_below
count-all zero t e k h = absurd (not-suc-le-zero h)
count-all (suc n) t e k h =
    by-test (t n)
    (λ a. ⊎_elim (λ (l : k < n). count-all n t (let p : ◌≡◌ {A = ℕ} (pick (t n) 1 0) 1 = rw a in let e' : count_below n t + pick (t n) 1 0 ≡ suc n = e in omega arith) k l) (λ (l : n ≤ k). let q : k ≡ n = omega arith in rw q a) (lt-or-ge k n))
    (λ a. absurd (let p : ◌≡◌ {A = ℕ} (pick (t n) 1 0) 0 = rw a in let e' : count_below n t + pick (t n) 1 0 ≡ suc n = e in omega (arith, count_below-most n t)))

count_no : (n : ℕ) → count_below n (λ _. false) ≡ 0
unfolding count_below
count_no zero = refl
count_no (suc n) = omega (arith, count_no n)

-- the first that passes is below n where one does
first_below-lt : (n : ℕ) (t : ℕ → Bool) (k : ℕ) → k < n → t k ≡ true → first_below n t < n
unfolding first_below
first_below-lt zero t k h e = absurd (not-suc-le-zero h)
first_below-lt (suc n) t zero h e = rw e (omega arith)
first_below-lt (suc n) t (suc k) h e =
    by-test (t zero) (λ a. rw a (omega arith)) (λ a. rw a (omega (arith, first_below-lt n (λ j. t (suc j)) k (omega arith) e)))

module _ (R : ℕ) (f : ℕ → ℕ) (below : (k : ℕ) → k < R → f k < R) (new : (k : ℕ) → k < R → any_below k (λ j. eqb (f j) (f k)) ≡ false) where
  -- whether one of the first k is r
  abbrev given : ℕ → ℕ → Bool
  given k r = any_below k (λ j. eqb (f j) r)

  given-next : (k r : ℕ) → given (suc k) r ≡ (given k r || eqb (f k) r)
  unfolding any_below
  given-next k r = refl

  given-first : (r : ℕ) → given 0 r ≡ false
  unfolding any_below
  given-first r = refl

  given-none : count_below R (given 0) ≡ 0
  given-none = count_below-same R (given 0) (λ _. false) (λ k h. given-first k) ∙ count_no R

  given-count : (k : ℕ) → k ≤ R → count_below R (given k) ≡ k
  given-count zero h = given-none
  given-count (suc k) h =
      count-more R (f k) (given k) (given (suc k)) (below k (omega arith)) (new k (omega arith))
      (rw (given-next k (f k), eq-eqb (f k) (f k) refl) (or-true (given k (f k))))
      (λ r q. rw (given-next k r, ne_eqb (f k) r (λ p. q (sym p))) (or-false (given k r)))
      ∙ omega (arith, given-count k (omega arith))
    where
      or-true : (x : Bool) → (x || true) ≡ true
      or-true true = refl
      or-true false = refl

      or-false : (x : Bool) → (x || false) ≡ x
      or-false true = refl
      or-false false = refl

  -- every number below R is one of them
  pub found : (r : ℕ) → r < R → first_below R (λ k. eqb (f k) r) < R
  found r h =
      let a = any_at R (λ j. eqb (f j) r) (count-all R (given R) (given-count R (omega arith)) r h) in
      first_below-lt R (λ k. eqb (f k) r) a.0 a.1 a.2
