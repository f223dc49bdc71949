-- Yes exactly when, and the line is the first that disagrees. Assumes nothing.
use mathlib.Core.Path.{◌≡◌, refl, sym, ap, ◌∙◌}
use mathlib.Core.Bool.{Bool, true, false, not}
use mathlib.Core.List.{List}
use mathlib.Core.Logic.{⊎_elim}
use Prim.Native.Nat.{ℕ, ◌≤◌, ◌<◌}
use native.Mathlib.Omega.{arith}
use borrow.Author.Tests.{leb-true, le-leb, ltb-true, ltb-false, le-ltb, not-false}
use lib.Dec.{leb, ltb}
use lib.IntN.{ℤ}
use lib.ListN.{length, get_or}
use Rattle.laws.specs.Base.{pick}
use Rattle.laws.proofs.Tests.{by-test, never, lt-or-ge}
use Rattle.laws.proofs.Lists.{first_below-none, first_below-passed}
use Rattle.pricing.specs.Verdict.{Verdict, accepted}
use Rattle.book.specs.declared.record.Book.{Book}
use Rattle.book.specs.Record.{is_accepted}
use Rattle.bill_lines.specs.Lines.{Lines, agrees, how_long, first_wrong, most_energy, first_heavy}
use Rattle.bill_lines.specs.Lent.{lent_verdict}
use Rattle.bill_lines.proofs.Firsts.{all-in-range}
use Rattle.billing.specs.Billing.{Bill, Day, Outcome, day_of, lengths_of, billed}
use Rattle.bill_laws.specs.Meaning.{Yes, FirstWrong}
use Rattle.bill_laws.proofs.Agreeing.{agrees-is, is-agrees, first-is}
use Rattle.bill_laws.proofs.Numbers.{lent-accepted, day-accepted}

module _ (b : Book) (ring work : List ℤ) (bill : Bill) where
  abbrev v : Verdict
  v = lent_verdict b (lengths_of ring work bill) bill.region

  abbrev d : Day
  d = day_of b ring bill

  abbrev l : Lines
  l = bill.lines

  abbrev heavy : Bool
  heavy = ltb (first_heavy l.energy) (length l.energy)

  abbrev wrong : Bool
  wrong = ltb (first_wrong l d.shown) (how_long l d.shown)

  -- the four tests of an answer that is no refusal: what it then is
  abbrev yes : Outcome
  yes = record { verdict = accepted; right = 1; line = 0; book = b; work = d.ring }

  abbrev no : Outcome
  no = record { verdict = accepted; right = 0; line = first_wrong l d.shown; book = b; work = d.ring }

  all : is_accepted v ≡ true → is_accepted d.verdict ≡ true → heavy ≡ false → billed b ring work bill ≡ pick wrong no yes
  unfolding billed
  all p q r = rw (p, q, r) refl

  -- an answer with number 0 passed them
  passed : is_accepted (billed b ring work bill).verdict ≡ true → (is_accepted v ≡ true) × (is_accepted d.verdict ≡ true) × (heavy ≡ false)
  unfolding billed
  passed e =
      by-test (is_accepted v)
      (λ p.
      by-test (is_accepted d.verdict)
      (λ q. by-test heavy (λ r. never false (rw (p, q, r) at e) refl) (λ r. (p, q, r)))
      (λ q. never _ (rw (p, q) at e) q))
      (λ p. never _ (rw p at e) p)

  -- an answer of yes has number 0
  right-accepted : (billed b ring work bill).right ≡ 1 → is_accepted (billed b ring work bill).verdict ≡ true
  unfolding billed
  right-accepted e =
      by-test (is_accepted v)
      (λ p.
      by-test (is_accepted d.verdict)
      (λ q.
      by-test heavy (λ r. absurd (zero_one (rw (p, q, r) at e)))
      (λ r. by-test wrong (λ t. rw (p, q, r, t) refl) (λ t. rw (p, q, r, t) refl)))
      (λ q. absurd (zero_one (rw (p, q) at e))))
      (λ p. absurd (zero_one (rw p at e)))
    where
      zero_one : ◌≡◌ {A = ℕ} 0 1 → ⊥
      zero_one z = absurd (omega arith)

  -- "say yes exactly when": yes is this
  pub bill-yes : (billed b ring work bill).right ≡ 1 → Yes b ring work bill
  bill-yes e =
      let p = passed (right-accepted e) in
      let w : wrong ≡ false = by-test wrong
      (λ t. let q : billed b ring work bill ≡ no = all p.0 p.1 p.2 ∙ (rw t refl) in absurd (zero_one (ap (λ (o : Outcome). o.right) (sym q) ∙ e)))
      (λ t. t) in
      let k : how_long l d.shown ≤ first_wrong l d.shown = ltb-false _ _ w in
      let agree : (i : ℕ) → i < how_long l d.shown → agrees l d.shown i ≡ true = λ i h.
      not-false (agrees l d.shown i) (first_below-passed (how_long l d.shown) (λ j. not (agrees l d.shown j)) i (omega arith)) in
      record {
        lent = lent-accepted b (lengths_of ring work bill) bill.region p.0;
        played = day-accepted b ring bill p.1;
        range = λ i h. leb-true _ _ (all-in-range l.energy p.2 i h);
        count = equal agree;
        lines = λ i h. (agrees-is l d.shown i (agree i (omega arith))).2;
      }
    where
      zero_one : ◌≡◌ {A = ℕ} 0 1 → ⊥
      zero_one z = absurd (omega arith)

      equal : ((i : ℕ) → i < how_long l d.shown → agrees l d.shown i ≡ true) → length d.shown ≡ length l.numbers
      equal agree =
          ⊎_elim
          (λ (h : length d.shown < length l.numbers).
          let p = agrees-is l d.shown (length d.shown) (agree (length d.shown) (omega arith)) in absurd (omega (arith, p.1)))
          (λ (h : length l.numbers ≤ length d.shown).
          ⊎_elim
          (λ (g : length l.numbers < length d.shown).
          let p = agrees-is l d.shown (length l.numbers) (agree (length l.numbers) (omega arith)) in absurd (omega (arith, p.0)))
          (λ (g : length d.shown ≤ length l.numbers). omega arith)
          (lt-or-ge (length l.numbers) (length d.shown)))
          (lt-or-ge (length d.shown) (length l.numbers))

  -- and where it is so, the answer is yes, with the second ring as the day left it
  pub yes-bill : Yes b ring work bill → billed b ring work bill ≡ yes
  yes-bill y =
      let light : heavy ≡ false = le-ltb (first_heavy l.energy) (length l.energy) (omega (arith, first_below-none (length l.energy) (λ i. not (leb (get_or l.energy i 0) most_energy)) (λ i h. ap not (le-leb _ _ (y.range i h))))) in
      let none : first_wrong l d.shown ≡ how_long l d.shown =
      first_below-none (how_long l d.shown) (λ i. not (agrees l d.shown i))
      (λ i h. ap not (is-agrees l d.shown i (omega (arith, y.count)) (omega (arith, y.count)) (y.lines i (omega (arith, y.count))))) in
      all (rw y.lent refl) (rw y.played refl) light ∙ (rw (le-ltb (first_wrong l d.shown) (how_long l d.shown) (omega (arith, none))) refl)

  -- "Otherwise give the first wrong line"
  pub bill-line : is_accepted (billed b ring work bill).verdict ≡ true → (billed b ring work bill).right ≡ 0
      → FirstWrong l d.shown (billed b ring work bill).line × ((billed b ring work bill).work ≡ d.ring)
  bill-line e z =
      let p = passed e in
      let a = all p.0 p.1 p.2 in
      by-test wrong
      (λ t.
      let q : billed b ring work bill ≡ no = a ∙ (rw t refl) in
      rw q (first-is l d.shown (ltb-true _ _ t), refl))
      (λ t.
      let q : billed b ring work bill ≡ yes = a ∙ (rw t refl) in
      let r : ◌≡◌ {A = ℕ} 1 0 = ap (λ (o : Outcome). o.right) (sym q) ∙ z in
      absurd (omega arith))
