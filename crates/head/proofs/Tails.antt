-- What an image of kind 2 has between its head and its prices: its length and the puts that write it. Assumes nothing.
use mathlib.Core.Path.{◌≡◌, refl, sym, ap, ◌∙◌}
use mathlib.Core.Bool.{Bool, true, false}
use mathlib.Core.List.{List, ◌++◌, append-nil}
use Prim.Native.Nat.{ℕ, ◌+◌, ◌≤◌}
use native.Mathlib.Omega.{arith}
use lib.ListN.{length}
use lib.Seq.{sets}
use Rattle.laws.specs.Bytes.{le, encode}
use Rattle.laws.proofs.Bytes.{sets-append}
use Rattle.book.specs.declared.record.Book.{Book}
use Rattle.head.specs.Layout.{widths, kind_of, head_size, tail_widths, tail, tail_of, values, front_of}

-- where the prices start
pub head-within : (second : Bool) → (148 ≤ head_size second) × (head_size second ≤ 156)
head-within true = (omega arith, omega arith)
head-within false = (omega arith, omega arith)

pub tail-length : (b : Book) → length (encode tail_widths (tail b)) ≡ 8
unfolding encode tail_widths tail le
tail-length b = refl

-- four puts one after the other
pub tail-puts : (b : Book) (d d₁ d₂ d₃ d₄ : List ℕ) (x y : ℕ) → x ≡ b.from → y ≡ b.to → d₁ ≡ sets d 148 (le 1 x) → d₂ ≡ sets d₁ 149 (le 1 y)
    → d₃ ≡ sets d₂ 150 (le 2 0) → d₄ ≡ sets d₃ 152 (le 4 4294967295) → d₄ ≡ sets d 148 (encode tail_widths (tail b))
unfolding encode tail_widths tail le
tail-puts b d d₁ d₂ d₃ d₄ x y p q e₁ e₂ e₃ e₄ = rw (e₄, e₃, e₂, e₁, p, q) refl

-- ---- the head and the tail one after the other
module _ (n : ℕ) (second : Bool) (b : Book) (d d₁ : List ℕ) where
  abbrev head : List ℕ
  head = encode widths (values n (kind_of second) b)

  pub front-second : (d₂ : List ℕ) → second ≡ true → length head ≡ 148 → d₁ ≡ sets d 0 head → d₂ ≡ sets d₁ 148 (encode tail_widths (tail b))
      → d₂ ≡ sets d 0 (front_of n second b)
  front-second d₂ s k e f =
      let t = encode tail_widths (tail b) in
      let z : 148 ≡ 0 + length head = omega arith in
      f ∙ ap (λ (x : List ℕ). sets x 148 t) e ∙ ap (λ (i : ℕ). sets (sets d 0 head) i t) z ∙ sym (sets-append d 0 head t)
      ∙ ap (λ (u : Bool). sets d 0 (head ++ tail_of u b)) (sym s)

  pub front-first : second ≡ false → d₁ ≡ sets d 0 head → d₁ ≡ sets d 0 (front_of n second b)
  front-first s e = e ∙ ap (sets d 0) (sym (append-nil head)) ∙ ap (λ (u : Bool). sets d 0 (head ++ tail_of u b)) (sym s)
