-- The first tests of a bill: what the call says by the way the code takes, and what they say where they were passed. Assumes nothing.
use mathlib.Core.Path.{◌≡◌, refl}
use mathlib.Core.Bool.{Bool, true, false, not, ◌&&◌}
use Prim.Native.Nat.{ℕ, ◌*◌, ◌<◌}
use borrow.Author.Tests.{eqb-true, ltb-true}
use lib.Dec.{ltb, eqb}
use Rattle.laws.specs.Base.{pick}
use Rattle.laws.proofs.Tests.{and_left, and_right}
use Rattle.pricing.specs.Verdict.{Verdict, accepted, refused}
use Rattle.book.specs.declared.record.Book.{Book}
use Rattle.book.specs.Record.{table_size, ring_size, is_accepted}
use Rattle.book.specs.Validity.{valid}
use Rattle.book.proofs.Passes.{passes-not}
use Rattle.bill_lines.specs.declared.lent.Lengths.{Lengths}
use Rattle.bill_lines.specs.Lent.{lengths_ok, lent_verdict}

-- 10, 11, then 21, by what was tested
abbrev tests : Bool → Bool → Bool → Verdict
tests book lengths region =
    pick (not book) (refused 10)
    (pick (not lengths) (refused 11)
    (pick (not region) (refused 21)
    accepted))

lent_by : (b : Book) (n : Lengths) (region : ℕ) → lent_verdict b n region ≡ tests (valid b) (lengths_ok b n) (ltb region b.regions)
unfolding lent_verdict
lent_by b n region = refl

-- ---- one law for each way out
module _ (b : Book) (n : Lengths) (region : ℕ) where
  pub lent-10 : valid b ≡ false → refused 10 ≡ lent_verdict b n region
  lent-10 v = rw (lent_by b n region, v) refl

  module _ (v : valid b ≡ true) where
    pub lent-11 : lengths_ok b n ≡ false → refused 11 ≡ lent_verdict b n region
    lent-11 l = rw (lent_by b n region, v, l) refl

    module _ (l : lengths_ok b n ≡ true) where
      pub lent-21 : ltb region b.regions ≡ false → refused 21 ≡ lent_verdict b n region
      lent-21 r = rw (lent_by b n region, v, l, r) refl

      pub lent-0 : ltb region b.regions ≡ true → accepted ≡ lent_verdict b n region
      lent-0 r = rw (lent_by b n region, v, l, r) refl

-- ---- where they were passed
pub record LentOk (b : Book) (n : Lengths) (region : ℕ) : Type 0 where
  pub valid : valid b ≡ true
  pub ring : n.ring ≡ ring_size b.regions b.services b.window
  pub work : n.work ≡ n.ring
  pub schedule : n.schedule ≡ table_size b.regions b.services * 2 * b.halves
  pub energy : n.energy ≡ n.numbers
  pub prices : n.prices ≡ n.numbers
  pub amounts : n.amounts ≡ n.numbers
  pub inside : region < b.regions

module _ (b : Book) (n : Lengths) (region : ℕ) where
  -- the tests of the lengths, and the first few of them together
  abbrev ring : Bool
  ring = eqb n.ring (ring_size b.regions b.services b.window)

  abbrev work : Bool
  work = eqb n.work n.ring

  abbrev schedule : Bool
  schedule = eqb n.schedule (table_size b.regions b.services * 2 * b.halves)

  abbrev energy : Bool
  energy = eqb n.energy n.numbers

  abbrev prices : Bool
  prices = eqb n.prices n.numbers

  abbrev amounts : Bool
  amounts = eqb n.amounts n.numbers

  abbrev upto₂ : Bool
  upto₂ = ring && work

  abbrev upto₃ : Bool
  upto₃ = upto₂ && schedule

  abbrev upto₄ : Bool
  upto₄ = upto₃ && energy

  abbrev upto₅ : Bool
  upto₅ = upto₄ && prices

  pub lent_is : is_accepted (lent_verdict b n region) ≡ true → LentOk b n region
  lent_is e =
      let t : is_accepted (tests (valid b) (lengths_ok b n) (ltb region b.regions)) ≡ true = rw (← lent_by b n region) e in
      let v = passes-not (valid b) _ _ refl t in
      let l = passes-not (lengths_ok b n) _ _ refl v.1 in
      let r = passes-not (ltb region b.regions) _ _ refl l.1 in
      let l₅ = and_left upto₅ amounts l.0 in
      let l₄ = and_left upto₄ prices l₅ in
      let l₃ = and_left upto₃ energy l₄ in
      let l₂ = and_left upto₂ schedule l₃ in
      record {
        valid = v.0;
        ring = eqb-true _ _ (and_left ring work l₂);
        work = eqb-true _ _ (and_right ring work l₂);
        schedule = eqb-true _ _ (and_right upto₂ schedule l₃);
        energy = eqb-true _ _ (and_right upto₃ energy l₄);
        prices = eqb-true _ _ (and_right upto₄ prices l₅);
        amounts = eqb-true _ _ (and_right upto₅ amounts l.0);
        inside = ltb-true _ _ r.0;
      }
