-- The day's definition plays at most as many intervals as there are bytes, and that is enough: with any number more it ends alike. Assumes nothing.
use mathlib.Core.Path.{◌≡◌, sym, ap, ◌∙◌}
use mathlib.Core.List.{List}
use mathlib.Core.Logic.{⊎_elim}
use Prim.Native.Nat.{ℕ, zero, suc, ◌+◌, ◌≤◌, ◌<◌}
use native.Mathlib.Omega.{arith}
use lib.IntN.{ℤ}
use lib.ListN.{length}
use Rattle.laws.proofs.Tests.{by-test, lt-or-ge}
use Rattle.book.specs.declared.record.Book.{Book}
use Rattle.book.specs.Record.{is_accepted}
use Rattle.billing.specs.Billing.{Bill, State, taken_here, after, runs, begins, day_of}
use Rattle.billing.proofs.Days.{runs-end, runs-next, runs-refused, here-is}

module _ (bill : Bill) (k : ℕ) where
  runs-more : (n : ℕ) (s : State) → length bill.records ≤ s.at + n → runs (n + k) bill s ≡ runs n bill s
  runs-more zero s h = runs-end bill s (zero + k) (omega arith) ∙ sym (runs-end bill s zero (omega arith))
  runs-more (suc n) s h =
      let e : suc n + k ≡ suc (n + k) = omega arith in
      ap (λ (m : ℕ). runs m bill s) e
      ∙ ⊎_elim
      (λ (l : s.at < length bill.records).
      by-test (is_accepted (taken_here bill s).verdict)
      (λ t.
      let next = (here-is bill s t).next in
      runs-next bill s (n + k) l t ∙ runs-more n (after s (taken_here bill s)) (omega (arith, next)) ∙ sym (runs-next bill s n l t))
      (λ t. runs-refused bill s (n + k) l t ∙ sym (runs-refused bill s n l t)))
      (λ (l : length bill.records ≤ s.at). runs-end bill s (suc (n + k)) l ∙ sym (runs-end bill s (suc n) l))
      (lt-or-ge s.at (length bill.records))

  pub runs-enough : (b : Book) (ring : List ℤ) → runs (length bill.records + k) bill (begins b ring) ≡ day_of b ring bill
  runs-enough b ring = runs-more (length bill.records) (begins b ring) (omega arith)
