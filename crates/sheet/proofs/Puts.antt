-- Laws of texts put into a buffer one after the other, and how long the texts of a sheet are. Assumes nothing.
use mathlib.Core.Path.{◌≡◌, refl, sym, ap, ◌∙◌}
use mathlib.Core.Logic.{⊎_elim}
use mathlib.Core.List.{List, [], ◌∷◌, ◌++◌, append_assoc, append-nil}
use Prim.Native.Nat.{ℕ, zero, suc, ◌+◌, ◌-◌, ◌/◌, ◌^◌, ◌≤◌, ◌<◌}
use native.Mathlib.Nat.{add-zero}
use native.Mathlib.Omega.{arith}
use lib.IntN.{ℤ, pos, negsuc}
use lib.ListN.{length, take, drop, set, length-append, length-drop, drop_of_length-le, take-append-drop}
use lib.Seq.{drop-drop, take_all}
use mir.Syntax.{w64}
use mir.Val.{SFits}
use Rattle.laws.proofs.Tests.{lt-or-ge}
use Rattle.laws.proofs.Integers.{fits-abs}
use Rattle.amount.specs.Text.{decimal, amount_text, paste, count_in, written_in}
use Rattle.amount.proofs.Texts.{length-small, length-step, length-size, length-paste, paste-next, paste-paste, room}
use Rattle.sheet.specs.Put.{Put}
use Rattle.sheet.specs.Sheet.{line_of}

-- ---- how long
pub decimal-most : (k n : ℕ) → n < 10 ^ suc k → length (decimal n) ≤ suc k
decimal-most zero n h = omega (arith, length-small n (omega arith))
decimal-most (suc k) n h =
    ⊎_elim (λ s. omega (arith, length-small n s)) (λ l. omega (arith, length-step n l, decimal-most k (n / 10) (omega arith))) (lt-or-ge n 10)

pub ended-most : (k n v : ℕ) → n < 10 ^ suc k → length (decimal n ++ (v ∷ [])) ≤ suc (suc k)
ended-most k n v h = omega (arith, decimal-most k n h, length-append (decimal n) (v ∷ []))

pub amount-most : (z : ℤ) → SFits w64 z → length (amount_text z) ≤ 21
unfolding amount_text
amount-most (pos n) f = omega (arith, length-size n, decimal-most 16 (n / 100) (omega (arith, fits-abs w64 (pos n) f)))
amount-most (negsuc n) f =
    omega (arith, length-size (suc n), decimal-most 16 (suc n / 100) (omega (arith, fits-abs w64 (negsuc n) f)))

pub sum-most : (z : ℤ) → SFits w64 z → length (amount_text z ++ (44 ∷ [])) ≤ 22
sum-most z f = omega (arith, amount-most z f, length-append (amount_text z) (44 ∷ []))

-- ---- one after the other
pub put-none : (at : ℕ) (b : List ℕ) → Put [] at at b b
unfolding paste
put-none at b = record { ends = omega arith; bytes = sym (ap (λ (n : ℕ). take at b ++ drop n b) (add-zero at) ∙ take-append-drop at b) }

-- a byte after a text
pub put_byte : (t : List ℕ) (at r v : ℕ) (b l : List ℕ) → at + length t + 1 ≤ length b → Put t at r b l → Put (t ++ (v ∷ [])) at (r + 1) b (set l r v)
put_byte t at r v b l h p = record {
  ends = omega (arith, p.ends, length-append t (v ∷ []));
  bytes = rw (p.bytes, p.ends) (paste-next at t v b (omega arith));
}

-- a text after a text
pub put_then : {t u : List ℕ} {at r s : ℕ} {b l m : List ℕ} → at + length t ≤ length b → Put t at r b l → Put u r s l m → Put (t ++ u) at s b m
put_then {t} {u} {at} {r} {s} {b} {l} {m} h p q = record {
  ends = omega (arith, p.ends, q.ends, length-append t u);
  bytes = q.bytes ∙ rw (p.bytes, p.ends) (paste-paste at t u b h);
}

-- what a buffer has after a text
pub put-length : {t : List ℕ} {at r : ℕ} {b l : List ℕ} → at + length t ≤ length b → Put t at r b l → length l ≡ length b
put-length {t} {at} {r} {b} {l} h p = rw p.bytes (length-paste at t b h)

-- a text copied to a place
pub put-copied : (t b l : List ℕ) (at n : ℕ) → n ≡ length t → l ≡ t → Put t at (at + length t) b (take at b ++ (l ++ drop n (drop at b)))
unfolding paste
put-copied t b l at n e p = record { ends = refl; bytes = rw (p, e, drop-drop (length t) at b) refl }

-- a text written as the first bytes of the part from a place on
pub put-part : (t b l : List ℕ) (at r : ℕ) → at + length t ≤ length b → let k = length b - at in
    r ≡ count_in t (take k (drop at b)) → l ≡ written_in t (take k (drop at b)) → Put t at (at + r) b (take at b ++ (l ++ drop k (drop at b)))
unfolding paste
put-part t b l at r h p q =
    let k = length b - at in
    let d = length-drop at b in
    let whole : take k (drop at b) ≡ drop at b = take_all k (drop at b) (omega arith) in
    let none : drop k (drop at b) ≡ [] = drop_of_length-le (drop at b) {i = k} (omega arith) in
    let w = room t (drop at b) (length t) (paste 0 t (drop at b)) (omega arith) refl refl in
    let e : r ≡ length t = p ∙ rw whole (sym w.0) in
    let n : at + (0 + length t) ≡ at + length t = omega arith in
    let f : l ≡ t ++ drop (at + length t) b = q ∙ rw (whole, ← w.1, drop-drop (0 + length t) at b, n) in
    record { ends = ap (λ (n : ℕ). at + n) e; bytes = rw (none, f, append-nil) }

-- a line, field after field
module _ (region market counted : ℕ) (sum : ℤ) (mark at : ℕ) (b : List ℕ) where
  pub line-put : region < 256 → market < 256 → counted < 65536 → SFits w64 sum → mark < 256 → at + 40 ≤ length b →
      {i j k l r : ℕ} {c d e f g : List ℕ} → Put (decimal region ++ (44 ∷ [])) at i b c → Put (decimal market ++ (44 ∷ [])) i j c d →
      Put (decimal counted ++ (44 ∷ [])) j k d e → Put (amount_text sum ++ (44 ∷ [])) k l e f → Put (decimal mark ++ (10 ∷ [])) l r f g →
      Put (line_of region market counted sum mark) at r b g
  unfolding line_of
  line-put x y z u v h p q s t w =
      let a₁ = ended-most 2 region 44 (omega arith) in
      let a₂ = ended-most 2 market 44 (omega arith) in
      let a₃ = ended-most 4 counted 44 (omega arith) in
      let a₄ = sum-most sum u in
      let b₂ = length-append (decimal region ++ (44 ∷ [])) (decimal market ++ (44 ∷ [])) in
      let b₃ = length-append ((decimal region ++ (44 ∷ [])) ++ (decimal market ++ (44 ∷ []))) (decimal counted ++ (44 ∷ [])) in
      let b₄ = length-append (((decimal region ++ (44 ∷ [])) ++ (decimal market ++ (44 ∷ []))) ++ (decimal counted ++ (44 ∷ []))) (amount_text sum ++ (44 ∷ [])) in
      let whole = put_then (omega arith) (put_then (omega arith) (put_then (omega arith) (put_then (omega arith) p q) s) t) w in
      simp append_assoc at whole
