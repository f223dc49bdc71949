-- Laws of the sum of a list. Assumes nothing.
use mathlib.Core.Path.{◌≡◌, refl, sym, ap, ◌∙◌}
use mathlib.Core.List.{List, [], ◌∷◌, ◌++◌}
use Prim.Native.Nat.{ℕ, suc, ◌+◌, ◌*◌, ◌<◌, ◌≤◌}
use native.Mathlib.Nat.{suc-mul}
use native.Mathlib.Omega.{arith}
use native.Mathlib.Numerals.{add-one}
use lib.ListN.{length, get_or, take}
use lib.Seq.{take-suc}
use lib.IntN.{ℤ, pos, nat_abs, ◌+ℤ◌, +ℤ_assoc, +ℤ_idl, +ℤ_idr}
use Rattle.laws.specs.Lists.{total}
use Rattle.laws.proofs.Integers.{abs-add}

pub total-append : (l m : List ℤ) → total (l ++ m) ≡ total l +ℤ total m
unfolding total
total-append [] m = sym (+ℤ_idl (total m))
total-append (x ∷ l) m = ap (λ (z : ℤ). x +ℤ z) (total-append l m) ∙ sym (+ℤ_assoc x (total l) (total m))

pub total-one : (x : ℤ) → total (x ∷ []) ≡ x
unfolding total
total-one x = +ℤ_idr x

pub total-snoc : (l : List ℤ) (x : ℤ) → total (l ++ x ∷ []) ≡ total l +ℤ x
total-snoc l x = total-append l (x ∷ []) ∙ ap (λ (z : ℤ). total l +ℤ z) (total-one x)

-- none of a list, and one more
pub total-none : (l : List ℤ) → pos 0 ≡ total (take 0 l)
unfolding total
total-none l = refl

pub total-next : (l : List ℤ) (i : ℕ) → i < length l → total (take (i + 1) l) ≡ total (take i l) +ℤ get_or l i (pos 0)
total-next l i h = rw (add-one, take-suc l i (pos 0)) (total-snoc (take i l) (get_or l i (pos 0)))

-- a bound on the total from one on each number
pub total_size : (b : ℕ) (l : List ℤ) → ((k : ℕ) → k < length l → nat_abs (get_or l k (pos 0)) ≤ b) → nat_abs (total l) ≤ length l * b
unfolding total
total_size b [] h = omega arith
total_size b (x ∷ l) h =
    omega (arith, abs-add x (total l), h 0 (omega arith), total_size b l (λ k p. h (suc k) (omega arith)), suc-mul (length l) b)
