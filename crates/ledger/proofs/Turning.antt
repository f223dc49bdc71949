-- A window of W places read round from its oldest price: what one more price at the next place makes of it. Assumes nothing.
use mathlib.Core.Path.{◌≡◌, refl, sym, ap, ap₂, ◌∙◌}
use mathlib.Core.List.{List, [], ◌∷◌, ◌++◌}
use mathlib.Core.Logic.{⊎_elim}
use Prim.Native.Nat.{ℕ, zero, suc, ◌+◌, ◌-◌, ◌≤◌, ◌<◌}
use native.Mathlib.Numerals.{add-one}
use native.Mathlib.Omega.{arith}
use borrow.Author.Tests.{lt-ltb, le-ltb, eq-eqb, ne_eqb, eqb-true, eqb-false}
use lib.Dec.{ltb, eqb}
use lib.IntN.{ℤ, pos}
use lib.ListN.{length, drop, get_or}
use Rattle.laws.specs.Base.{pick}
use Rattle.laws.specs.Lists.{run, tabulate}
use Rattle.laws.proofs.Lists.{length_run, get_or-tabulate, tabulate-next, tabulate-same}
use Rattle.laws.proofs.Tests.{by-test, lt-or-ge}
use Rattle.head.specs.Counted.{wrap}
use Rattle.counting.specs.Windows.{grown, following}
use Rattle.ledger.proofs.Pushes.{pushed}
use Rattle.ledger.proofs.Joining.{pushed-early, pushed-full}

-- ---- a place round the window
pub wrap-low : (W k : ℕ) → k < W → wrap W k ≡ k
wrap-low W k h = rw (lt-ltb k W h)

pub wrap-high : (W k : ℕ) → W ≤ k → wrap W k ≡ k - W
wrap-high W k h = rw (le-ltb k W h)

pub wrap-below : (W k : ℕ) → k < W + W → wrap W k < W
wrap-below W k h = ⊎_elim (λ l. rw (wrap-low W k l) l) (λ l. rw (wrap-high W k l) (omega arith)) (lt-or-ge k W)

-- ---- all but the first of a list that is tabulated
run-later : (n i : ℕ) (f : ℕ → ℤ) → run n (suc i) f ≡ run n i (λ k. f (suc k))
unfolding run
run-later zero i f = refl
run-later (suc n) i f = ap (λ (l : List ℤ). f (suc i) ∷ l) (run-later n (suc i) f)

pub drop-tabulate : (n : ℕ) (f : ℕ → ℤ) → drop 1 (tabulate (suc n) f) ≡ tabulate n (λ k. f (suc k))
unfolding run
drop-tabulate n f = run-later n 0 f

-- ---- a window's prices: `g` is what stands at each of its places, c of them are counted, n is the next place
abbrev pub oldest : ℕ → ℕ → ℕ → ℕ
oldest W c n = pick (ltb c W) 0 n

abbrev from : ℕ → (ℕ → ℤ) → ℕ → ℕ → List ℤ
from W g s c = tabulate c (λ i. g (wrap W (s + i)))

abbrev pub around : ℕ → (ℕ → ℤ) → ℕ → ℕ → List ℤ
around W g c n = from W g (oldest W c n) c

pub around-length : (W : ℕ) (g : ℕ → ℤ) (c n : ℕ) → length (around W g c n) ≡ c
around-length W g c n = length_run (λ i. g (wrap W (oldest W c n + i))) c 0

-- n is the next place of a window with c counted prices
pub record Placed (W c n : ℕ) : Type 0 where
  pub some : 1 ≤ W
  pub most : c ≤ W
  pub below : n < W
  pub early : c < W → n ≡ c

following-below : (W n : ℕ) → n < W → following W n < W
following-below W n l =
    by-test (eqb (n + 1) W) (λ e. rw e (omega arith)) (λ e. let q : n + 1 ≡ W → ⊥ = eqb-false (n + 1) W e in rw e (omega arith))

module _ (W c n : ℕ) (placed : Placed W c n) where
  -- fewer than W: the oldest stays at the first place
  module _ (l : c < W) where
    grown-more : grown W c ≡ c + 1
    grown-more = rw (lt-ltb c W l)

    oldest-first : oldest W c n ≡ 0
    oldest-first = rw (lt-ltb c W l)

    oldest-still : oldest W (c + 1) (following W n) ≡ 0
    oldest-still =
        let e : n ≡ c = placed.early l in
        ⊎_elim (λ (p : c + 1 < W). rw (lt-ltb (c + 1) W p))
        (λ (p : W ≤ c + 1). let q : n + 1 ≡ W = omega arith in rw (le-ltb (c + 1) W p, eq-eqb (n + 1) W q)) (lt-or-ge (c + 1) W)

  -- W: the oldest is at the next place
  module _ (l : W ≤ c) where
    count-is : c ≡ W
    count-is = let m : c ≤ W = placed.most in omega arith

    grown-same : grown W c ≡ c
    grown-same = rw (le-ltb c W l)

    oldest-next : (k : ℕ) → oldest W c k ≡ k
    oldest-next k = rw (le-ltb c W l)

  pub placed_on : Placed W (grown W c) (following W n)
  placed_on =
      ⊎_elim
      (λ (l : c < W). let g : grown W c ≡ c + 1 = grown-more l in let e : n ≡ c = placed.early l in record {
        some = placed.some;
        most = omega arith;
        below = following-below W n placed.below;
        early = λ h. let p : n + 1 ≡ W → ⊥ = λ q. omega arith in rw (ne_eqb (n + 1) W p) (omega arith);
      })
      (λ (l : W ≤ c). let g : grown W c ≡ c = grown-same l in let m : c ≤ W = placed.most in record {
        some = placed.some;
        most = omega arith;
        below = following-below W n placed.below;
        early = λ h. absurd (omega arith);
      })
      (lt-or-ge c W)

  -- one more price, at the next place
  module _ (g h : ℕ → ℤ) (miss : (j : ℕ) → j < W → (j ≡ n → ⊥) → h j ≡ g j) where
    grows : c < W → around W h (grown W c) (following W n) ≡ around W g c n ++ (h n ∷ [])
    grows l =
        let e : n ≡ c = placed.early l in
        let there : (i : ℕ) → i < c → h (wrap W (0 + i)) ≡ g (wrap W (0 + i)) = λ i p. rw (wrap-low W (0 + i) (omega arith)) (miss (0 + i) (omega arith) (λ q. omega arith)) in
        let last : wrap W (0 + c) ≡ n = wrap-low W (0 + c) (omega arith) ∙ omega arith in
        ap (λ (k : ℕ). around W h k (following W n)) (grown-more l)
        ∙ ap (λ (s : ℕ). from W h s (c + 1)) (oldest-still l)
        ∙ tabulate-next (λ i. h (wrap W (0 + i))) c
        ∙ ap₂ (λ (u : List ℤ) (x : ℤ). u ++ (x ∷ [])) (tabulate-same c _ _ there) (ap h last)
        ∙ ap (λ (s : ℕ). from W g s c ++ (h n ∷ [])) (sym (oldest-first l))

    -- the place i steps on from the following place is one further from this one
    turns : (i : ℕ) → i < W → wrap W (following W n + i) ≡ wrap W (n + suc i)
    turns i l =
        let b : n < W = placed.below in
        by-test (eqb (n + 1) W)
        (λ e. let q : n + 1 ≡ W = eqb-true (n + 1) W e in
        rw e (wrap-low W (0 + i) (omega arith) ∙ (omega arith) ∙ sym (wrap-high W (n + suc i) (omega arith))))
        (λ e. rw e (ap (wrap W) (omega arith)))

    slides : W ≤ c → around W h (grown W c) (following W n) ≡ drop 1 (around W g c n) ++ (h n ∷ [])
    slides l =
        let b : n < W = placed.below in
        let e : W ≡ suc (W - 1) = omega arith in
        let apart : (i : ℕ) → i < W - 1 → wrap W (n + suc i) ≡ n → ⊥ =
        λ i p q. ⊎_elim (λ (a : n + suc i < W). omega (arith, wrap-low W (n + suc i) a)) (λ (a : W ≤ n + suc i). omega (arith, wrap-high W (n + suc i) a)) (lt-or-ge (n + suc i) W) in
        let there : (i : ℕ) → i < W - 1 → h (wrap W (following W n + i)) ≡ g (wrap W (n + suc i)) =
        λ i p. ap h (turns i (omega arith)) ∙ miss (wrap W (n + suc i)) (wrap-below W (n + suc i) (omega arith)) (apart i p) in
        let last : wrap W (following W n + (W - 1)) ≡ n = turns (W - 1) (omega arith) ∙ wrap-high W (n + suc (W - 1)) (omega arith) ∙ omega arith in
        ap (λ (k : ℕ). around W h k (following W n)) (grown-same l)
        ∙ ap (λ (s : ℕ). from W h s c) (oldest-next l (following W n))
        ∙ ap (from W h (following W n)) (count-is l ∙ e ∙ sym (add-one (W - 1)))
        ∙ tabulate-next (λ i. h (wrap W (following W n + i))) (W - 1)
        ∙ ap₂ (λ (u : List ℤ) (x : ℤ). u ++ (x ∷ [])) (tabulate-same (W - 1) _ _ there) (ap h last)
        ∙ ap (λ (u : List ℤ). u ++ (h n ∷ []))
        (sym (drop-tabulate (W - 1) (λ i. g (wrap W (n + i))))
        ∙ ap (λ (k : ℕ). drop 1 (from W g n k)) (sym (count-is l ∙ e))
        ∙ ap (λ (s : ℕ). drop 1 (from W g s c)) (sym (oldest-next l n)))

    pub around-pushed : around W h (grown W c) (following W n) ≡ pushed W (around W g c n) (h n)
    around-pushed =
        ⊎_elim
        (λ (l : c < W). grows l ∙ sym (pushed-early W (around W g c n) (h n) (omega (arith, around-length W g c n))))
        (λ (l : W ≤ c). slides l ∙ sym (pushed-full W (around W g c n) (h n) (omega (arith, around-length W g c n))))
        (lt-or-ge c W)

  -- what stands at the next place is the oldest, once W are counted
  pub around-first : (g : ℕ → ℤ) → W ≤ c → get_or (around W g c n) 0 (pos 0) ≡ g n
  around-first g l =
      let b : n < W = placed.below in
      get_or-tabulate (λ i. g (wrap W (oldest W c n + i))) c 0 (pos 0) (omega arith)
      ∙ ap (λ (s : ℕ). g (wrap W (s + 0))) (oldest-next l n)
      ∙ ap g (wrap-low W (n + 0) (omega arith) ∙ omega arith)

  -- two rings that hold the same prices in the window
  pub around-same : (g h : ℕ → ℤ) → ((j : ℕ) → j < W → h j ≡ g j) → around W h c n ≡ around W g c n
  around-same g h same =
      let m : c ≤ W = placed.most in
      let b : n < W = placed.below in
      let o : oldest W c n ≤ n = by-test (ltb c W) (λ e. rw e (omega arith)) (λ e. rw e (omega arith)) in
      tabulate-same c _ _ (λ i p. same (wrap W (oldest W c n + i)) (wrap-below W (oldest W c n + i) (omega arith)))
