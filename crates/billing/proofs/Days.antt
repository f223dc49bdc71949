-- The loop over a day's intervals: what is had at its head, what an interval makes of it, and what is had in the end. Assumes nothing.
use mathlib.Core.Path.{◌≡◌, refl, sym, ap, ◌∙◌}
use mathlib.Core.Bool.{Bool, true, false}
use mathlib.Core.List.{List, [], ◌∷◌, ◌++◌}
use Prim.Native.Nat.{ℕ, zero, suc, ◌+◌, ◌≤◌, ◌<◌}
use native.Mathlib.Omega.{arith}
use borrow.Author.Tests.{le-leb, lt-leb}
use lib.Dec.{leb}
use lib.IntN.{ℤ}
use lib.ListN.{length}
use Rattle.laws.specs.Base.{pick}
use Rattle.laws.specs.Lists.{first_below}
use Rattle.pricing.specs.Verdict.{accepted}
use Rattle.book.specs.declared.record.Book.{Book}
use Rattle.book.specs.declared.record.Refusal.{Refusal}
use Rattle.std.specs.Prelude.{Result, Ok, Err}
use Rattle.book.specs.Record.{verdict, is_accepted}
use Rattle.book.proofs.Ways.{refusal_is}
use Rattle.bill_lines.specs.Lines.{Shown, shown_as}
use Rattle.bill_lines.specs.Working.{leading, leads_to}
use Rattle.bill_lines.proofs.Leads.{length_more, leading-more}
use Rattle.book.specs.declared.record.Reply.{Reply}
use Rattle.interval_entry.specs.declared.Step.{Step}
use Rattle.interval_entry.specs.Taking as Taking
use Rattle.interval_entry.proofs.Steps.{Taken, taken_is, taken_not}
use Rattle.billing.specs.Billing.{Bill, State, Day, ends, taken_here, after, runs, day_of}
use Rattle.billing.specs.Working.{told, told_in}

-- ---- the day, by one interval and in the end
module _ (bill : Bill) (s : State) where
  -- the records' end, then the interval's refusal, by what was tested
  abbrev tests : ℕ → Bool → Bool → Day
  tests n ended accepts =
      pick ended (ends accepted s)
      (pick accepts (runs n bill (after s (taken_here bill s)))
      (ends (taken_here bill s).verdict s))

  runs_by : (n : ℕ) → runs (suc n) bill s ≡ tests n (leb (length bill.records) s.at) (is_accepted (taken_here bill s).verdict)
  unfolding runs
  runs_by n = refl

  runs_none : runs zero bill s ≡ ends accepted s
  unfolding runs
  runs_none = refl

  pub runs-end : (n : ℕ) → length bill.records ≤ s.at → runs n bill s ≡ ends accepted s
  runs-end zero h = runs_none
  runs-end (suc n) h = runs_by n ∙ (rw (le-leb _ _ h) refl)

  module _ (n : ℕ) (h : s.at < length bill.records) where
    pub runs-next : is_accepted (taken_here bill s).verdict ≡ true → runs (suc n) bill s ≡ runs n bill (after s (taken_here bill s))
    runs-next e = runs_by n ∙ (rw (lt-leb _ _ h, e) refl)

    pub runs-refused : is_accepted (taken_here bill s).verdict ≡ false → runs (suc n) bill s ≡ ends (taken_here bill s).verdict s
    runs-refused e = runs_by n ∙ (rw (lt-leb _ _ h, e) refl)

  -- an interval that was accepted
  pub here-is : is_accepted (taken_here bill s).verdict ≡ true → Taken s.book bill.records s.at (taken_here bill s)
  here-is e =
      taken_is (Taking.blank s.book) (Taking.blank_table s.book) s.book s.ring bill.records s.at bill.schedule bill.region e

  pub here-not : is_accepted (taken_here bill s).verdict ≡ false → ((taken_here bill s).book ≡ s.book) × ((taken_here bill s).ring ≡ s.ring)
  here-not e =
      taken_not (Taking.blank s.book) (Taking.blank_table s.book) s.book s.ring bill.records s.at bill.schedule bill.region e

-- ---- what is had at the loop's head: so many intervals from here come to the whole day
abbrev pub state_of : Book → List ℤ → ℕ → List Shown → State
state_of b ring at shown = record { book = b; ring = ring; at = at; shown = shown }

pub record Held (bill : Bill) (b₀ : Book) (ring₀ : List ℤ) (b : Book) (ring : List ℤ) (at count right : ℕ) : Type 0 where
  pub shown : List Shown
  pub fuel : ℕ
  pub enough : length bill.records ≤ at + fuel
  pub all : runs fuel bill (state_of b ring at shown) ≡ day_of b₀ ring₀ bill
  pub within : at ≤ length bill.records
  pub counted : count ≡ length shown
  pub leads : right ≡ leading bill.lines shown
  pub few : count ≤ at
  pub regions : b.regions ≡ b₀.regions
  pub services : b.services ≡ b₀.services

none-lead : (bill : Bill) → 0 ≡ leading bill.lines []
unfolding first_below
none-lead bill = refl

pub start : (bill : Bill) (b : Book) (ring : List ℤ) → Held bill b ring b ring 0 0 0
start bill b ring = record {
  shown = [];
  fuel = length bill.records;
  enough = omega arith;
  all = refl;
  within = omega arith;
  counted = refl;
  leads = none-lead bill;
  few = omega arith;
  regions = refl;
  services = refl;
}

module _ {bill : Bill} {b₀ : Book} {ring₀ : List ℤ} {b : Book} {ring : List ℤ} {at count right : ℕ} (h : Held bill b₀ ring₀ b ring at count right) where
  abbrev here : State
  here = state_of b ring at h.shown

  -- the records' end
  pub done : length bill.records ≤ at → told_in (record { answer = Ok tt; count = count; right = right }) ring ≡ told bill.lines (day_of b₀ ring₀ bill)
  done l =
      let d : ends accepted here ≡ day_of b₀ ring₀ bill = sym (runs-end bill here h.fuel l) ∙ h.all in
      (λ i. record { verdict = accepted; count = h.counted i; right = h.leads i; ring = ring }) ∙ ap (told bill.lines) d

  -- an interval: what it came to
  module _ (l : at < length bill.records) (r : Reply Step) (ring' : List ℤ) (e : Taking.outcome r ring' ≡ taken_here bill here) where
    -- refused
    pub stop : (refusal : Refusal) → r.answer ≡ Err refusal
        → told_in (record { answer = Err refusal; count = count; right = right }) ring' ≡ told bill.lines (day_of b₀ ring₀ bill)
    stop refusal q =
        let v : (taken_here bill here).verdict ≡ verdict {T = Step} (Err refusal) = ap (λ (o : Taking.Outcome). o.verdict) (sym e) ∙ ap verdict q in
        let z : is_accepted (taken_here bill here).verdict ≡ false = rw v (refusal_is refusal) in
        let k : ring' ≡ ring = ap (λ (o : Taking.Outcome). o.ring) e ∙ (here-not bill here z).1 in
        let d = stopped h.fuel h.enough z h.all in
        (λ i. record { verdict = sym v i; count = h.counted i; right = h.leads i; ring = k i }) ∙ ap (told bill.lines) d
      where
        stopped : (n : ℕ) → length bill.records ≤ at + n → is_accepted (taken_here bill here).verdict ≡ false → runs n bill here ≡ day_of b₀ ring₀ bill
            → ends (taken_here bill here).verdict here ≡ day_of b₀ ring₀ bill
        stopped zero k z a = absurd (omega arith)
        stopped (suc n) k z a = sym (runs-refused bill here n l z) ∙ a

    -- accepted
    module _ (step : Step) (q : r.answer ≡ Ok step) where
      abbrev shown : Shown
      shown = shown_as step.number step.price

      gone : is_accepted (taken_here bill here).verdict ≡ true
      gone =
          let v : (taken_here bill here).verdict ≡ verdict (Ok step) = ap (λ (o : Taking.Outcome). o.verdict) (sym e) ∙ ap verdict q in
          rw v refl

      taken : Taken b bill.records at (taken_here bill here)
      taken = here-is bill here gone

      is-next : (taken_here bill here).next ≡ step.next
      is-next = ap (λ (o : Taking.Outcome). o.next) (sym e) ∙ ap Taking.next_in q

      -- the place after it is further on, and within the records
      pub further : (at < step.next) × (step.next ≤ length bill.records)
      further = (omega (arith, is-next, taken.next), omega (arith, is-next, taken.room))

      shows : after here (taken_here bill here) ≡ state_of r.book ring' step.next (h.shown ++ (shown ∷ []))
      shows = ap (after here) (sym e) ∙ ap (λ (x : Result Step Refusal). after here (Taking.outcome (record { book = r.book; answer = x }) ring')) q

      pub again : (right' : ℕ) → right' ≡ leads_to bill.lines right count shown
          → Held bill b₀ ring₀ r.book ring' step.next (count + 1) right'
      again right' f = go h.fuel h.enough h.all
        where
          same : (x : Taking.Outcome → ℕ) → x (Taking.outcome r ring') ≡ x (taken_here bill here)
          same x = ap x e

          go : (n : ℕ) → length bill.records ≤ at + n → runs n bill here ≡ day_of b₀ ring₀ bill → Held bill b₀ ring₀ r.book ring' step.next (count + 1) right'
          go zero k a = absurd (omega arith)
          go (suc n) k a = record {
            shown = h.shown ++ (shown ∷ []);
            fuel = n;
            enough = omega (arith, further);
            all = ap (runs n bill) (sym shows) ∙ sym (runs-next bill here n l gone) ∙ a;
            within = further.1;
            counted = ap (λ (c : ℕ). c + 1) h.counted ∙ sym (length_more bill.lines h.shown shown);
            leads =
                f
                ∙ (λ i. leads_to bill.lines (h.leads i) (h.counted i) shown)
                ∙ sym (leading-more bill.lines h.shown shown);
            few = omega (arith, h.few, further);
            regions = same (λ o. o.book.regions) ∙ taken.regions ∙ h.regions;
            services = same (λ o. o.book.services) ∙ taken.services ∙ h.services;
          }
