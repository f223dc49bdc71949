-- One more price in a window: what the sum moves by. Assumes nothing.
use mathlib.Core.Path.{◌≡◌, refl, sym, ap, ◌∙◌}
use mathlib.Core.List.{List, [], ◌∷◌, ◌++◌, append-nil, append_assoc}
use mathlib.Core.Logic.{⊎_elim}
use Prim.Native.Nat.{ℕ, zero, suc, ◌+◌, ◌-◌, ◌≤◌, ◌<◌}
use native.Mathlib.Omega.{arith}
use borrow.Author.Tests.{lt-ltb, le-ltb, ltb-false}
use lib.Dec.{ltb}
use lib.IntN.{ℤ, pos, ◌+ℤ◌, ◌-ℤ◌}
use lib.ListN.{length, drop, get_or, replicate, length-append, length-drop, length-replicate, get_or-append}
use lib.Seq.{get_or-drop}
use Rattle.laws.specs.Base.{pick}
use Rattle.laws.specs.Lists.{total, last_n}
use Rattle.laws.proofs.Lists.{get_or-tabulate, length_run}
use Rattle.laws.proofs.Tests.{by-test, lt-or-ge}
use Rattle.head.specs.Counted.{wrap, window_of}
use Rattle.ledger.proofs.Joining.{pushed-total}
use Rattle.ledger.proofs.Histories.{last-pushed}
use Rattle.planning.specs.Left.{sum_with}
use Rattle.planning.specs.Working.{leaving}

replicate-snoc : (n : ℕ) (x : ℤ) → replicate (suc n) x ≡ replicate n x ++ x ∷ []
replicate-snoc zero x = refl
replicate-snoc (suc n) x = ap (λ (l : List ℤ). x ∷ l) (replicate-snoc n x)

module _ (W : ℕ) (w : List ℤ) (x : ℤ) (most : length w ≤ W) (n : ℕ) (h : n < W) where
  abbrev u : List ℤ
  u = w ++ replicate n x

  long : length u ≡ length w + n
  long = length-append w (replicate n x) ∙ ap (λ (k : ℕ). length w + k) (length-replicate n x)

  last-length : length (last_n W u) ≡ length u - (length u - W)
  unfolding last_n
  last-length = length-drop (length u - W) u

  first-is : W ≤ length w + n → get_or (last_n W u) 0 (pos 0) ≡ get_or w (length w + n - W) (pos 0)
  unfolding last_n
  first-is l =
      let z : length u - W + 0 ≡ length w + n - W = omega (arith, long) in
      get_or-drop (length u - W) u 0 (pos 0) ∙ ap (λ (k : ℕ). get_or u k (pos 0)) z ∙ get_or-append w (replicate n x) (pos 0) (length w + n - W) (omega arith)

  pub sum_step : sum_with W w x (suc n) ≡ sum_with W w x n +ℤ (x -ℤ pick (ltb (length w + n) W) (pos 0) (get_or w (length w + n - W) (pos 0)))
  sum_step =
      ap (λ (l : List ℤ). total (last_n W (w ++ l))) (replicate-snoc n x)
      ∙ ap (λ (l : List ℤ). total (last_n W l)) (sym (append_assoc w (replicate n x) (x ∷ [])))
      ∙ ap total (last-pushed W (omega arith) u x)
      ∙ pushed-total W (last_n W u) x
      ∙ ⊎_elim
      (λ (l : length w + n < W). let k : length (last_n W u) < W = omega (arith, last-length, long) in
      rw (lt-ltb (length (last_n W u)) W k, lt-ltb (length w + n) W l))
      (λ (l : W ≤ length w + n). let k : W ≤ length (last_n W u) = omega (arith, last-length, long) in
      rw (le-ltb (length (last_n W u)) W k, le-ltb (length w + n) W l, first-is l))
      (lt-or-ge (length w + n) W)

-- the same as the code reads the ring
pub sum-walk : (ring : List ℤ) (base W s c : ℕ) (x : ℤ) (n : ℕ) → c ≤ W → n < W
    → sum_with W (window_of ring base W s c) x (suc n) ≡ sum_with W (window_of ring base W s c) x n +ℤ (x -ℤ leaving ring base W s c n)
sum-walk ring base W s c x n most h =
    let w = window_of ring base W s c in
    let m : length w ≡ c = length_run (λ i. get_or ring (base + wrap W (s + i)) (pos 0)) c 0 in
    let old : pick (ltb (length w + n) W) (pos 0) (get_or w (length w + n - W) (pos 0)) ≡ leaving ring base W s c n =
    ap (λ (k : ℕ). pick (ltb (k + n) W) (pos 0) (get_or w (k + n - W) (pos 0))) m ∙ there in
    sum_step W w x (omega arith) n h ∙ ap (λ (z : ℤ). sum_with W w x n +ℤ (x -ℤ z)) old
  where
    there : pick (ltb (c + n) W) (pos 0) (get_or (window_of ring base W s c) (c + n - W) (pos 0)) ≡ leaving ring base W s c n
    there =
        by-test (ltb (c + n) W) (λ t. rw t)
        (λ t. rw t (get_or-tabulate (λ i. get_or ring (base + wrap W (s + i)) (pos 0)) c (c + n - W) (pos 0) (omega (arith, ltb-false (c + n) W t))))

-- before the first of them: the sum of the window as it is
pub sum-start : (ring : List ℤ) (base W s c : ℕ) (x : ℤ) → c ≤ W → sum_with W (window_of ring base W s c) x 0 ≡ total (window_of ring base W s c)
unfolding last_n
sum-start ring base W s c x most =
    let w = window_of ring base W s c in
    let m : length w ≡ c = length_run (λ i. get_or ring (base + wrap W (s + i)) (pos 0)) c 0 in
    let z : length w - W ≡ 0 = omega arith in
    ap (λ (l : List ℤ). total (drop (length l - W) l)) (append-nil w) ∙ ap (λ (k : ℕ). total (drop k w)) z
