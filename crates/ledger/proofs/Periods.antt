-- The period mark over any two tests `trig` and `rel`: administered at t + 1 from administered at t, and what the bounded tests say in logical form. Assumes nothing.
use mathlib.Core.Path.{◌≡◌, refl, ap, ap₂, ◌∙◌}
use mathlib.Core.Bool.{Bool, true, false, not, ◌&&◌, ◌||◌}
use Prim.Native.Nat.{ℕ, zero, suc, ◌≤◌, ◌<◌}
use native.Mathlib.Nat.{le_refl}
use native.Mathlib.Omega.{arith}
use lib.Dec.{leb}
use borrow.Author.Tests.{le-leb, lt-leb, leb-true}
use Rattle.laws.specs.Base.{pick}
use Rattle.laws.specs.Lists.{all_below, any_below}
use Rattle.laws.proofs.Tests.{and_left, and_right, by-test}
use Rattle.laws.proofs.Lists.{all-at, at_all, any_at, at-any, any_same}

-- ---- the period
share : (x y b : Bool) → (x && b) || (y && b) ≡ (x || y) && b
share true true true = refl
share true true false = refl
share true false true = refl
share true false false = refl
share false true b = refl
share false false b = refl

any-and : (n : ℕ) (f : ℕ → Bool) (b : Bool) → any_below n (λ j. f j && b) ≡ any_below n f && b
unfolding any_below
any-and zero f b = refl
any-and (suc n) f b = ap (λ (x : Bool). x || (f n && b)) (any-and n f b) ∙ share (any_below n f) (f n) b

module _ (trig rel : ℕ → Bool) where
  -- no i with j ≤ i < t
  abbrev pub Calm : ℕ → ℕ → Bool
  Calm t j = all_below t (λ i. not (leb j i && rel i))

  abbrev pub Adm : ℕ → Bool
  Adm t = any_below t (λ j. trig j && Calm t j)

  calm-suc : (t j : ℕ) → j ≤ t → Calm (suc t) j ≡ Calm t j && not (rel t)
  unfolding all_below
  calm-suc t j h = rw (le-leb j t h)

  calm-self : (t : ℕ) → Calm t t ≡ true
  calm-self t = at_all t (λ i. not (leb t i && rel i)) (λ k h. rw (lt-leb t k h))

  adm-suc : (t : ℕ) → Adm (suc t) ≡ (Adm t || trig t) && not (rel t)
  unfolding any_below
  adm-suc t =
      ap₂ ◌||◌
      (any_same t _ _ (λ j h. ap (λ (b : Bool). trig j && b) (calm-suc t j (omega arith)) ∙ assoc (trig j) (Calm t j) (not (rel t))) ∙ any-and t (λ j. trig j && Calm t j) (not (rel t)))
      (ap (λ (b : Bool). trig t && b) (calm-suc t t (le_refl t) ∙ ap (λ (b : Bool). b && not (rel t)) (calm-self t)))
      ∙ share (Adm t) (trig t) (not (rel t))
    where
      assoc : (x y z : Bool) → x && (y && z) ≡ (x && y) && z
      assoc true y z = refl
      assoc false y z = refl

  -- with `rel` as the ledger has it: triggered, then administered; else at the day's last position not; else as before
  pub adm-next : (t : ℕ) (last : Bool) → rel t ≡ last && not (trig t) → Adm (suc t) ≡ pick (trig t) true (pick last false (Adm t))
  adm-next t last e = adm-suc t ∙ ap (λ (b : Bool). (Adm t || trig t) && not b) e ∙ cases (Adm t) (trig t) last
    where
      cases : (a x l : Bool) → (a || x) && not (l && not x) ≡ pick x true (pick l false a)
      cases true true true = refl
      cases true true false = refl
      cases false true true = refl
      cases false true false = refl
      cases true false true = refl
      cases true false false = refl
      cases false false true = refl
      cases false false false = refl

  not-true : (a b : Bool) → not (a && b) ≡ true → a ≡ true → b ≡ false
  not-true true true e f = let z : ◌≡◌ {A = ℕ} 0 1 = cc in absurd (omega arith)
  not-true true false e f = refl
  not-true false b e f = let z : ◌≡◌ {A = ℕ} 0 1 = cc in absurd (omega arith)

  -- in logical form, both ways
  pub adm-out : (t : ℕ) → Adm t ≡ true → (j : ℕ) × (j < t) × (trig j ≡ true) × ((i : ℕ) → j ≤ i → i < t → rel i ≡ false)
  adm-out t a =
      let w = any_at t (λ j. trig j && Calm t j) a in
      let calm = and_right (trig w.0) (Calm t w.0) w.2 in (
        w.0,
        w.1,
        and_left (trig w.0) (Calm t w.0) w.2,
        λ i l m. not-true (leb w.0 i) (rel i) (all-at t (λ i. not (leb w.0 i && rel i)) calm i m) (le-leb w.0 i l),
      )

  pub adm-in : (t j : ℕ) → j < t → trig j ≡ true → ((i : ℕ) → j ≤ i → i < t → rel i ≡ false) → Adm t ≡ true
  adm-in t j h u f =
      at-any t (λ j. trig j && Calm t j) j h
      (rw u (at_all t (λ i. not (leb j i && rel i)) (λ i m. by-test (leb j i) (λ e. rw (e, f i (leb-true j i e) m)) (λ e. rw e))))
