-- What one more price does to a window's prices: to their total, and to what every one of them is. Assumes nothing.
use mathlib.Core.Path.{◌≡◌, refl, sym, ap, ◌∙◌}
use mathlib.Core.List.{List, [], ◌∷◌, ◌++◌}
use mathlib.Core.Logic.{⊎_elim}
use Prim.Native.Nat.{ℕ, ◌+◌, ◌≤◌, ◌<◌}
use native.Mathlib.Omega.{arith}
use borrow.Author.Tests.{lt-ltb, le-ltb}
use lib.Dec.{ltb}
use lib.IntN.{ℤ, pos, ◌+ℤ◌, ◌-ℤ◌, +ℤ_idr}
use lib.ListN.{length, drop, get_or, length-append, length-drop, get_or-append}
use lib.Seq.{get_or-drop, get_or-append-add}
use Rattle.laws.specs.Base.{pick}
use Rattle.laws.specs.Lists.{total}
use Rattle.laws.proofs.Integers.{same, v, ◌⊕◌, ◌⊖◌, by_parts}
use Rattle.laws.proofs.Tests.{lt-or-ge}
use Rattle.laws.proofs.Totals.{total-snoc}
use Rattle.ledger.proofs.Pushes.{pushed}

-- every price of a list is so
abbrev pub Every : (ℤ → Type 0) → List ℤ → Type 0
Every P l = (k : ℕ) → k < length l → P (get_or l k (pos 0))

every_drop : (P : ℤ → Type 0) (l : List ℤ) → Every P l → Every P (drop 1 l)
every_drop P l all k h = rw (get_or-drop 1 l k (pos 0)) (all (1 + k) (omega (arith, length-drop 1 l)))

every-snoc : (P : ℤ → Type 0) (l : List ℤ) (x : ℤ) → Every P l → P x → Every P (l ++ (x ∷ []))
every-snoc P l x all p k h =
    ⊎_elim (λ (a : k < length l). rw (get_or-append l (x ∷ []) (pos 0) k a) (all k a))
    (λ (a : length l ≤ k). let e : k ≡ length l + 0 = omega (arith, length-append l (x ∷ [])) in rw (e, get_or-append-add l (x ∷ []) 0 (pos 0)) p)
    (lt-or-ge k (length l))

module _ (W : ℕ) (l : List ℤ) (x : ℤ) where
  -- fewer than W: all stay
  pub pushed-early : length l < W → pushed W l x ≡ l ++ (x ∷ [])
  unfolding pushed
  pushed-early h = rw (lt-ltb (length l) W h)

  -- W: the oldest leaves
  pub pushed-full : W ≤ length l → pushed W l x ≡ drop 1 l ++ (x ∷ [])
  unfolding pushed
  pushed-full h = rw (le-ltb (length l) W h)

  pub pushed-every : (P : ℤ → Type 0) → Every P l → P x → Every P (pushed W l x)
  pushed-every P all p =
      ⊎_elim (λ (h : length l < W). rw (pushed-early h) (every-snoc P l x all p))
      (λ (h : W ≤ length l). rw (pushed-full h) (every-snoc P (drop 1 l) x (every_drop P l all) p))
      (lt-or-ge (length l) W)

total_first : (l : List ℤ) → total l ≡ get_or l 0 (pos 0) +ℤ total (drop 1 l)
unfolding total
total_first [] = refl
total_first (x ∷ l) = refl

swap : (a r x : ℤ) → r +ℤ x ≡ (a +ℤ r) +ℤ (x -ℤ a)
swap a r x = same _ _ (omega (arith, by_parts (v r ⊕ v x), by_parts ((v a ⊕ v r) ⊕ (v x ⊖ v a))))

-- "sums .. move by price in less the price" that leaves
pub pushed-total : (W : ℕ) (l : List ℤ) (x : ℤ) → total (pushed W l x) ≡ total l +ℤ (x -ℤ pick (ltb (length l) W) (pos 0) (get_or l 0 (pos 0)))
pushed-total W l x =
    ⊎_elim
    (λ (h : length l < W). rw (pushed-early W l x h, lt-ltb (length l) W h, total-snoc) (ap (λ (z : ℤ). total l +ℤ z) (sym (+ℤ_idr x))))
    (λ (h : W ≤ length l). rw (pushed-full W l x h, le-ltb (length l) W h, total-snoc)
    (swap (get_or l 0 (pos 0)) (total (drop 1 l)) x ∙ ap (λ (t : ℤ). t +ℤ (x -ℤ get_or l 0 (pos 0))) (sym (total_first l))))
    (lt-or-ge (length l) W)
