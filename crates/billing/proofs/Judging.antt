-- What is said of a day by its numbers is its judgement, and what the call comes to by the way the code takes. Assumes nothing.
use mathlib.Core.Path.{◌≡◌, refl, ap, ◌∙◌}
use mathlib.Core.Bool.{Bool, true, false, not, ◌&&◌}
use mathlib.Core.List.{List}
use Prim.Native.Nat.{ℕ, ◌<◌}
use native.Mathlib.Omega.{arith}
use borrow.Author.Tests.{lt-ltb, le-ltb, eqb-true}
use lib.Dec.{leb, ltb, eqb}
use lib.IntN.{ℤ}
use lib.ListN.{length, get_or}
use Rattle.laws.specs.Base.{pick}
use Rattle.laws.proofs.Tests.{by-test, and_left, and_right}
use Rattle.pricing.specs.Verdict.{accepted, refused_at}
use Rattle.book.specs.declared.record.Book.{Book}
use Rattle.std.specs.Prelude.{Result, Ok, Err, Option}
use Rattle.book.specs.declared.record.Refusal.{Refusal}
use Rattle.book.specs.Record.{verdict, is_accepted}
use Rattle.book.proofs.Ways.{is-accepted, is-refused}
use Rattle.bill_lines.specs.Lines.{Lines, how_long, first_wrong, most_energy, first_heavy}
use Rattle.bill_lines.specs.Lent.{lent_verdict}
use Rattle.bill_lines.specs.Working.{leading}
use Rattle.bill_lines.proofs.Leads.{none-wrong, one-wrong}
use Rattle.bill_lines.proofs.Firsts.{all-in-range}
use Rattle.bill_lines.proofs.Lents.{LentOk, lent_is}
use Rattle.billing.specs.declared.Played.{Played}
use Rattle.billing.specs.Billing.{Bill, Day, Outcome, judged, day_of, refusal, lengths_of, billed, outcome}
use Rattle.billing.specs.Working.{Said, Told, told, told_in, said, said_by}

-- the day's refusal, then 46, then the first wrong line, by what was tested
module _ (b : Book) (l : Lines) (d : Day) where
  abbrev pub tests : Bool → Bool → Bool → Outcome
  tests played heavy wrong =
      pick (not played) (refusal d.verdict b d.ring)
      (pick heavy (refusal (refused_at 46 (first_heavy l.energy)) b d.ring)
      (pick wrong (record { verdict = accepted; right = 0; line = first_wrong l d.shown; book = b; work = d.ring })
      (record { verdict = accepted; right = 1; line = 0; book = b; work = d.ring })))

  pub judged-tests : judged b l d
      ≡ tests (is_accepted d.verdict) (ltb (first_heavy l.energy) (length l.energy)) (ltb (first_wrong l d.shown) (how_long l d.shown))
  judged-tests = refl

-- an outcome of what is said, the book and the second ring
abbrev pub outcome_by : Said → Book → List ℤ → Outcome
outcome_by s b work = record { verdict = s.verdict; right = s.right; line = s.line; book = b; work = work }

module _ (b : Book) (l : Lines) (d : Day) (e : length l.energy ≡ length l.numbers) where
  abbrev by : Said
  by = said_by d.verdict (length d.shown) (leading l d.shown) (length l.numbers) l.energy

  pub judged-by : outcome_by by b d.ring ≡ judged b l d
  judged-by =
      by-test (is_accepted d.verdict)
      (λ v. by-test (ltb (first_heavy l.energy) (length l.energy)) (λ h. rw (v, h) refl) (λ h. rw (v, h) (light h)))
      (λ v. rw v refl)
    where
      led : Bool
      led = eqb (leading l d.shown) (length d.shown)

      full : Bool
      full = eqb (length d.shown) (length l.numbers)

      right : Bool
      right = led && full

      light : ltb (first_heavy l.energy) (length l.energy) ≡ false
          → outcome_by (pick right (record { verdict = accepted; right = 1; line = 0 }) (record { verdict = accepted; right = 0; line = leading l d.shown })) b d.ring
          ≡ pick (ltb (first_wrong l d.shown) (how_long l d.shown))
          (record { verdict = accepted; right = 0; line = first_wrong l d.shown; book = b; work = d.ring })
          (record { verdict = accepted; right = 1; line = 0; book = b; work = d.ring })
      light h =
          let range : (i : ℕ) → i < length l.numbers → leb (get_or l.energy i 0) most_energy ≡ true = λ i k. all-in-range l.energy h i (omega arith) in
          by-test right
          (λ t.
          let w : first_wrong l d.shown ≡ how_long l d.shown = none-wrong l d.shown range (eqb-true _ _ (and_left led full t)) (eqb-true _ _ (and_right led full t)) in
          rw (t, le-ltb (first_wrong l d.shown) (how_long l d.shown) (omega (arith, w))) refl)
          (λ t.
          let w = one-wrong l d.shown range t in
          rw (t, lt-ltb (first_wrong l d.shown) (how_long l d.shown) (omega (arith, w)), w.0) refl)

-- ---- the call: its first tests, then the day on a copy of the ring
pub billed-is : (b : Book) (ring work : List ℤ) (bill : Bill) → let v = lent_verdict b (lengths_of ring work bill) bill.region in
    billed b ring work bill ≡ pick (is_accepted v) (judged b bill.lines (day_of b ring bill)) (refusal v b work)
unfolding billed
billed-is b ring work bill = refl

-- by the answers of its parts
module _ (b : Book) (ring work : List ℤ) (bill : Bill) (a : Result Unit Refusal) (h : verdict a ≡ lent_verdict b (lengths_of ring work bill) bill.region) where
  -- refused by 10, 11 or 21
  pub billed-refused : (r : Refusal) → a ≡ Err r → outcome (record { book = b; answer = Err r }) work ≡ billed b ring work bill
  billed-refused r q =
      let p = is-refused a _ h r q in
      rw (billed-is b ring work bill, p.1, p.0) refl

  module _ (q : a ≡ Ok tt) where
    pub lent_ok : LentOk b (lengths_of ring work bill) bill.region
    lent_ok = lent_is b (lengths_of ring work bill) bill.region (rw (is-accepted a _ h tt q) refl)

    pub billed-judged : (p : Played) (work' : List ℤ) (j : Result (Option ℕ) Refusal) → told_in p work' ≡ told bill.lines (day_of b ring bill)
        → said j ≡ said_by (verdict p.answer) p.count p.right (length bill.lines.numbers) bill.lines.energy
        → outcome (record { book = b; answer = j }) work' ≡ billed b ring work bill
    billed-judged p work' j t s =
        let e = is-accepted a _ h tt q in
        let by : Told → Outcome = λ x. outcome_by (said_by x.verdict x.count x.right (length bill.lines.numbers) bill.lines.energy) b x.ring in
        let d : by (told_in p work') ≡ judged b bill.lines (day_of b ring bill) = ap by t ∙ judged-by b bill.lines (day_of b ring bill) lent_ok.energy in
        rw (billed-is b ring work bill, e) (ap (λ (x : Said). outcome_by x b work') s ∙ d)
