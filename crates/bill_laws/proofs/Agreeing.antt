-- A line's test in logical form, both ways, and the first line that fails it. Assumes nothing.
use mathlib.Core.Path.{◌≡◌, refl}
use mathlib.Core.Bool.{Bool, true, not, ◌&&◌}
use mathlib.Core.List.{List}
use Prim.Native.Nat.{ℕ, ◌<◌}
use native.Mathlib.Omega.{arith}
use borrow.Author.Tests.{eqb-true, eq-eqb, ltb-true, lt-ltb, not-true, not-false}
use lib.Dec.{ltb, eqb}
use lib.IntN.{ℤ, pos, ◌*ℤ◌}
use lib.Signed.{le_z}
use lib.ListN.{length, get_or}
use Rattle.laws.proofs.Tests.{and_left, and_right, by-test, never}
use Rattle.laws.proofs.Integers as Integers
use Rattle.laws.proofs.Integers.{test-le, le_test}
use Rattle.laws.proofs.Lists.{first_below-found, first_below-hit, first_below-passed}
use Rattle.pricing.proofs.Roundings.{round-law, round-only}
use Rattle.bill_lines.specs.Lines.{Lines, Shown, same, amount_of, line_right, right_at, agrees, how_long, first_wrong}
use Rattle.bill_laws.specs.Meaning.{shown_at, LineIs, FirstWrong}

-- ---- two integers that are not apart
same-is : (x y : ℤ) → same x y ≡ true → x ≡ y
same-is x y e = Integers.same x y (omega (arith, test-le x y (and_left (le_z x y) (le_z y x) e), test-le y x (and_right (le_z x y) (le_z y x) e)))

is_same : (x y : ℤ) → x ≡ y → same x y ≡ true
is_same x y e = rw (e, le_test y y (omega arith)) refl

-- ---- a line
module _ (l : Lines) (i : ℕ) (s : Shown) where
  abbrev number : Bool
  number = eqb (get_or l.numbers i 0) s.number

  abbrev price : Bool
  price = same (get_or l.prices i (pos 0)) s.price

  abbrev due : ℤ
  due = amount_of (get_or l.energy i 0) s.price

  abbrev amount : Bool
  amount = same (get_or l.amounts i (pos 0)) due

  pub right_is : right_at l i s ≡ true → LineIs l i s
  unfolding line_right
  right_is e =
      let q : get_or l.amounts i (pos 0) ≡ due = same-is (get_or l.amounts i (pos 0)) due (and_right (number && price) amount e) in
      record {
        number = eqb-true _ _ (and_left number price (and_left (number && price) amount e));
        price = same-is (get_or l.prices i (pos 0)) s.price (and_right number price (and_left (number && price) amount e));
        amount = rw q (round-law (pos (get_or l.energy i 0) *ℤ s.price) 1000 (omega arith));
      }

  pub is_right : LineIs l i s → right_at l i s ≡ true
  unfolding line_right
  is_right h =
      let q : get_or l.amounts i (pos 0) ≡ due = round-only (pos (get_or l.energy i 0) *ℤ s.price) 1000 (get_or l.amounts i (pos 0)) (omega arith) h.amount in
      rw (eq-eqb _ _ h.number, is_same (get_or l.prices i (pos 0)) s.price h.price, is_same (get_or l.amounts i (pos 0)) due q) refl

-- ---- line i and interval i
module _ (l : Lines) (shown : List Shown) (i : ℕ) where
  abbrev has-line : Bool
  has-line = ltb i (length l.numbers)

  abbrev has-interval : Bool
  has-interval = ltb i (length shown)

  pub agrees-is : agrees l shown i ≡ true → (i < length l.numbers) × (i < length shown) × LineIs l i (shown_at shown i)
  agrees-is e =
      let b = and_left (has-line && has-interval) (right_at l i (shown_at shown i)) e in (
        ltb-true _ _ (and_left has-line has-interval b),
        ltb-true _ _ (and_right has-line has-interval b),
        right_is l i (shown_at shown i) (and_right (has-line && has-interval) (right_at l i (shown_at shown i)) e),
      )

  pub is-agrees : i < length l.numbers → i < length shown → LineIs l i (shown_at shown i) → agrees l shown i ≡ true
  is-agrees a b h = rw (lt-ltb _ _ a, lt-ltb _ _ b, is_right l i (shown_at shown i) h) refl

-- ---- the first wrong line: what it is, and that nothing else is
module _ (l : Lines) (shown : List Shown) where
  abbrev wrong : ℕ → Bool
  wrong i = not (agrees l shown i)

  pub first-is : first_wrong l shown < how_long l shown → FirstWrong l shown (first_wrong l shown)
  first-is h = record {
    within = h;
    wrong = λ a b q. never (agrees l shown (first_wrong l shown)) (is-agrees l shown (first_wrong l shown) a b q)
        (not-true (agrees l shown (first_wrong l shown)) (first_below-hit (how_long l shown) wrong h));
    before = λ i k. agrees-is l shown i (not-false (agrees l shown i) (first_below-passed (how_long l shown) wrong i k));
  }

  pub is-first : (k : ℕ) → FirstWrong l shown k → first_wrong l shown ≡ k
  is-first k f =
      first_below-found (how_long l shown) k wrong f.within
      (λ i h. let p = f.before i h in rw (is-agrees l shown i p.0 p.1 p.2) refl)
      (by-test (agrees l shown k)
      (λ t. let p = agrees-is l shown k t in absurd (f.wrong p.0 p.1 p.2))
      (λ t. rw t refl))
