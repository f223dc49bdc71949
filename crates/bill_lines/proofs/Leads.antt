-- How many of the first lines are right: after one more interval, and what it says of the first wrong line. Assumes nothing.
use mathlib.Core.Path.{◌≡◌, refl, ap, ◌∙◌}
use mathlib.Core.Bool.{Bool, true, false, not, ◌&&◌}
use mathlib.Core.Logic.{⊎_elim}
use mathlib.Core.List.{List, [], ◌∷◌, ◌++◌}
use Prim.Native.Nat.{ℕ, suc, ◌+◌, ◌-◌, ◌≤◌, ◌<◌}
use native.Mathlib.Omega.{arith}
use borrow.Author.Tests.{lt-ltb, le-ltb, ltb-true, eq-eqb, ne_eqb, not-false}
use lib.Dec.{leb, ltb, eqb}
use lib.IntN.{pos}
use lib.ListN.{length, get_or, length-append, get_or-append}
use lib.Seq.{get_or-append_seam}
use Rattle.laws.specs.Base.{pick}
use Rattle.laws.specs.Lists.{first_below}
use Rattle.laws.proofs.Tests.{by-test, never, lt-or-ge, and_left}
use Rattle.laws.proofs.Lists.{first_below-same, first_below-most, first_below-passed, first_below-split}
use Rattle.bill_lines.specs.Lines.{Lines, Shown, shown_as, right_at, agrees, how_long, first_wrong, most_energy}
use Rattle.bill_lines.specs.Working.{line_told, leading, leads_to}

abbrev none : Shown
none = shown_as 0 (pos 0)

-- the first below one number more
one_more : (n : ℕ) (t : ℕ → Bool) (f : ℕ) → first_below n t ≡ f → first_below (n + 1) t ≡ pick (eqb f n && not (t n)) (f + 1) f
unfolding first_below
one_more n t f e =
    ⊎_elim
    (λ (h : f < n). first_below-split n 1 t ∙ (rw (e, lt-ltb f n h, ne_eqb f n (λ q. absurd (omega arith))) refl))
    (λ (h : n ≤ f).
    let q : f ≡ n = omega (arith, first_below-most n t) in
    first_below-split n 1 t ∙ (rw (e, q, le-ltb n n (omega arith), eq-eqb n n refl) (last (t n) (t (n + 0)) (ap t (omega arith)))))
    (lt-or-ge f n)
  where
    last : (b c : Bool) → c ≡ b → n + pick c 0 1 ≡ pick (not b) (n + 1) n
    last b true e = rw (← e) (omega arith)
    last b false e = rw (← e) refl

-- ---- one more interval
module _ (l : Lines) (shown : List Shown) (s : Shown) where
  abbrev more : List Shown
  more = shown ++ (s ∷ [])

  pub length_more : length more ≡ length shown + 1
  length_more = length-append shown (s ∷ [])

  pub leading-more : leading l more ≡ leads_to l (leading l shown) (length shown) s
  leading-more =
      let n = length shown in
      let t : ℕ → Bool = λ i. not (line_told l i (get_or more i none)) in
      let u : ℕ → Bool = λ i. not (line_told l i (get_or shown i none)) in
      let e : first_below n t ≡ leading l shown = first_below-same n t u (λ k h. ap (λ (x : Shown). not (line_told l k x)) (get_or-append shown (s ∷ []) none k h)) in
      let g : line_told l n (get_or more n none) ≡ line_told l n s = ap (line_told l n) (get_or-append_seam shown s [] none) in
      ap (λ (k : ℕ). first_below k t) length_more ∙ one_more n t (leading l shown) e ∙ (rw g (twice (eqb (leading l shown) n) (line_told l n s)))
    where
      twice : (a b : Bool) → pick (a && not (not b)) (leading l shown + 1) (leading l shown) ≡ pick (a && b) (leading l shown + 1) (leading l shown)
      twice true true = refl
      twice true false = refl
      twice false b = refl

-- ---- the first wrong line, where no line is out of range
module _ (l : Lines) (shown : List Shown) (range : (i : ℕ) → i < length l.numbers → leb (get_or l.energy i 0) most_energy ≡ true) where
  abbrev n : ℕ
  n = length shown

  abbrev m : ℕ
  m = length l.numbers

  abbrev wrong : ℕ → Bool
  wrong i = not (agrees l shown i)

  told-agrees : (i : ℕ) → i < n → wrong i ≡ not (line_told l i (get_or shown i none))
  unfolding line_told
  told-agrees i h =
      by-test (ltb i m)
      (λ e. rw (e, lt-ltb i n h, range i (ltb-true i m e)) refl)
      (λ e. rw e refl)

  is_leading : first_below n wrong ≡ leading l shown
  is_leading = first_below-same n wrong (λ i. not (line_told l i (get_or shown i none))) told-agrees

  -- all intervals have their lines, if so many lines in front are right
  all_there : leading l shown ≡ n → n ≤ m
  all_there e =
      ⊎_elim
      (λ (h : m < n).
      let a : agrees l shown m ≡ true = not-false _ (first_below-passed n wrong m (omega (arith, is_leading))) in
      absurd (omega (arith, ltb-true m m (and_left (ltb m m) (ltb m n) (and_left (ltb m m && ltb m n) _ a)))))
      (λ (h : n ≤ m). h)
      (lt-or-ge m n)

  -- nothing is behind the intervals
  beyond : (k : ℕ) → n ≤ k → wrong k ≡ true
  beyond k h = rw (le-ltb k n h) (fails (ltb k m))
    where
      fails : (b : Bool) → not (b && false && right_at l k (get_or shown k none)) ≡ true
      fails true = refl
      fails false = refl

  whole : first_wrong l shown ≡ pick (ltb (leading l shown) n) (leading l shown) (n + first_below (how_long l shown - n) (λ k. wrong (n + k)))
  whole =
      let e : how_long l shown ≡ n + (how_long l shown - n) = omega arith in
      ap (λ (k : ℕ). first_below k wrong) e ∙ first_below-split n (how_long l shown - n) wrong ∙ (rw is_leading refl)

  -- every interval has its right line, and there is no other line: none is wrong
  pub none-wrong : leading l shown ≡ n → n ≡ m → first_wrong l shown ≡ how_long l shown
  unfolding first_below
  none-wrong e q =
      let z : how_long l shown - n ≡ 0 = omega arith in
      let w : how_long l shown ≡ n = omega arith in
      whole ∙ (rw (e, le-ltb n n (omega arith), z) (omega (arith, w)))

  -- otherwise it is the one after those that are right, be it missing, surplus or neither
  pub one-wrong : (eqb (leading l shown) n && eqb n m) ≡ false → (first_wrong l shown ≡ leading l shown) × (leading l shown < how_long l shown)
  unfolding first_below
  one-wrong f =
      ⊎_elim
      (λ (h : leading l shown < n). (whole ∙ (rw (lt-ltb _ _ h) refl), omega arith))
      (λ (h : n ≤ leading l shown).
      let e : leading l shown ≡ n = omega (arith, first_below-most n wrong, is_leading) in
      surplus e (all_there e))
      (lt-or-ge (leading l shown) n)
    where
      surplus : leading l shown ≡ n → n ≤ m → (first_wrong l shown ≡ leading l shown) × (leading l shown < how_long l shown)
      surplus e h =
          ⊎_elim
          (λ (g : n < m).
          let z : how_long l shown - n ≡ suc (how_long l shown - n - 1) = omega arith in
          let w : wrong (n + 0) ≡ true = beyond (n + 0) (omega arith) in
          (whole ∙ (rw (e, le-ltb n n (omega arith), z, w) (omega arith)), omega arith))
          (λ (g : m ≤ n).
          let q : n ≡ m = omega arith in
          never (eqb (leading l shown) n && eqb n m) (rw (eq-eqb _ _ e, eq-eqb _ _ q) refl) f)
          (lt-or-ge n m)
