-- The numbers that a load and an image check can answer. Assumes nothing.
use mathlib.Core.Path.{◌≡◌, refl, sym, ap, ◌∙◌}
use mathlib.Core.Bool.{Bool, true, false, not}
use mathlib.Core.List.{List, [], ◌∷◌}
use mathlib.Core.Logic.{◌⊎◌, inl, inr}
use Prim.Native.Nat.{ℕ}
use borrow.Author.Tests.{eq-eqb, eqb-true}
use lib.Dec.{ltb, eqb}
use lib.ListN.{length}
use Rattle.laws.specs.Base.{pick}
use Rattle.laws.specs.Bytes.{number_at}
use Rattle.laws.proofs.Tests.{by-test}
use Rattle.pricing.specs.Verdict.{Verdict, accepted, refused}
use Rattle.book.specs.Record.{is_accepted}
use Rattle.head.specs.Counted.{how_many}
use Rattle.head.specs.Layout.{length_of, is_second, head_from}
use Rattle.image.specs.Loading.{lacks_tail, kind_ok, fields_ok, head_verdict, first_bad, ring_of, load_verdict, checked}

-- a number of a list
abbrev pub OneOf : ℕ → List ℕ → Type 0
OneOf n [] = ⊥
OneOf n (m ∷ ms) = (n ≡ m) ⊎ OneOf n ms

-- what holds of both holds of the one that is picked
picked : (P : Verdict → Type 0) (t : Bool) (a b : Verdict) → P a → P b → P (pick t a b)
picked P true a b p q = p
picked P false a b p q = q

-- any property that the verdicts on heads have
head-has : (P : Verdict → Type 0) → P (refused 24) → P (refused 25) → P (refused 26) → P (refused 27) → P accepted → (l : List ℕ) → P (head_verdict l)
unfolding head_verdict
head-has P a b c d e l =
    picked P (ltb (length l) 148) _ _ a
    (picked P (not (eqb (number_at l 0 4) (length l))) _ _ a
    (picked P (lacks_tail l) _ _ a
    (picked P (not (kind_ok l)) _ _ b
    (picked P (not (fields_ok l)) _ _ c
    (picked P (not (eqb (length l) (length_of (is_second l) (head_from l)))) _ _ d e)))))

pub load-number : (l : List ℕ) (n : ℕ) → OneOf (load_verdict l n).number (24 ∷ 25 ∷ 26 ∷ 27 ∷ 11 ∷ 16 ∷ 0 ∷ [])
unfolding load_verdict
load-number l n =
    let P : Verdict → Type 0 = λ v. OneOf v.number (24 ∷ 25 ∷ 26 ∷ 27 ∷ 11 ∷ 16 ∷ 0 ∷ []) in
    picked P (not (is_accepted (head_verdict l))) _ _
    (head-has P (inl refl) (inr (inl refl)) (inr (inr (inl refl))) (inr (inr (inr (inl refl)))) (inr (inr (inr (inr (inr (inr (inl refl))))))) l)
    (picked P (not (eqb n (ring_of (head_from l)))) _ _ (inr (inr (inr (inr (inl refl)))))
    (picked P (ltb (first_bad l) (how_many (head_from l))) _ _ (inr (inr (inr (inr (inr (inl refl)))))) (inr (inr (inr (inr (inr (inr (inl refl)))))))))

pub check-is : (l : List ℕ) (n : ℕ) → n ≡ ring_of (head_from l) → checked l ≡ (load_verdict l n).number
unfolding checked
check-is l n e = rw e

-- with a ring of any length
refused-head : (l : List ℕ) (n : ℕ) → is_accepted (head_verdict l) ≡ false → load_verdict l n ≡ head_verdict l
unfolding load_verdict
refused-head l n h = rw h

refused-ring : (l : List ℕ) (n : ℕ) → is_accepted (head_verdict l) ≡ true → eqb n (ring_of (head_from l)) ≡ false → (load_verdict l n).number ≡ 11
unfolding load_verdict
refused-ring l n h e = rw (h, e)

pub check-or-11 : (l : List ℕ) (n : ℕ) → ((load_verdict l n).number ≡ checked l) ⊎ ((load_verdict l n).number ≡ 11)
check-or-11 l n =
    let R = ring_of (head_from l) in
    by-test (eqb n R)
    (λ e. inl (sym (check-is l n (eqb-true n R e))))
    (λ e. by-test (is_accepted (head_verdict l))
    (λ h. inr (refused-ring l n h e))
    (λ h. inl (ap (λ (v : Verdict). v.number) (refused-head l n h ∙ sym (refused-head l R h)) ∙ sym (check-is l R refl))))

pub check-number : (l : List ℕ) → OneOf (checked l) (24 ∷ 25 ∷ 26 ∷ 27 ∷ 16 ∷ 0 ∷ [])
unfolding checked load_verdict
check-number l =
    let P : Verdict → Type 0 = λ v. OneOf v.number (24 ∷ 25 ∷ 26 ∷ 27 ∷ 16 ∷ 0 ∷ []) in
    let o : eqb (ring_of (head_from l)) (ring_of (head_from l)) ≡ true = eq-eqb (ring_of (head_from l)) (ring_of (head_from l)) refl in
    picked P (not (is_accepted (head_verdict l))) _ _
    (head-has P (inl refl) (inr (inl refl)) (inr (inr (inl refl))) (inr (inr (inr (inl refl)))) (inr (inr (inr (inr (inr (inl refl)))))) l)
    (rw o (picked P (ltb (first_bad l) (how_many (head_from l))) _ _ (inr (inr (inr (inr (inl refl))))) (inr (inr (inr (inr (inr (inl refl))))))))
