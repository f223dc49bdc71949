-- Rule 10 of its parts, that a refusal is none of an acceptance, and what an answer says of its verdict. Assumes nothing.
use mathlib.Core.Path.{◌≡◌, refl, sym, ap, ◌∙◌}
use mathlib.Core.Bool.{Bool, false, ◌&&◌}
use Prim.Native.Nat.{ℕ, ◌+◌, ◌≤◌}
use native.Mathlib.Omega.{arith}
use borrow.Author.Tests.{ne_eqb}
use lib.Dec.{eqb, leb}
use Rattle.laws.proofs.Tests.{and_assoc, by-test}
use Rattle.pricing.specs.Verdict.{Verdict, accepted}
use Rattle.pricing.specs.Holding.{limits_ok}
use Rattle.book.specs.declared.record.Book.{Book}
use Rattle.book.specs.declared.record.Refusal.{Refusal}
use Rattle.book.specs.declared.record.Refusal.TheVariants.{Invalid, Length, Full, Number, Kind, Mark, Price, Factor, Threshold, Limits, Setting, Market, Sums, Buffer, ImageLength, ImageKind, ImageField, ImageTotal, Broken, RecordKind, RecordRegion, PlannedPrice, Hundreds, RecordOrder, BilledEnergy, ImageFirst}
use Rattle.std.specs.Prelude.{Result, Ok, Err}
use Rattle.book.specs.Record.{links_with, verdict_of, verdict, is_accepted}
use Rattle.book.specs.Validity.{shape_ok, parents_ok, ends_ok, threshold_ok, regions_ok, places_ok, valid}

-- rule 10 of its parts, as the code groups them
pub valid-by : (b : Book) (s p n t l c k : Bool)
    → s ≡ shape_ok b.regions b.services b.window b.halves b.position
    → p ≡ parents_ok b.regions b.parents
    → n ≡ ends_ok b.regions b.parents b.from b.to
    → t ≡ threshold_ok b.threshold
    → l ≡ limits_ok b.cap b.floor
    → c ≡ regions_ok b.regions b.window b.entries b.counts b.nexts
    → k ≡ places_ok b.regions b.services b.sums b.marks
    → ((s && (p && n) && (t && l)) && leb b.entries 10000000 && c && k) ≡ valid b
unfolding valid
valid-by b s p n t l c k hs hp hn ht hl hc hk =
    rw (and_assoc s p n, and_assoc (s && p && n) t l, hs, hp, hn, ht, hl, hc, hk)

-- ---- how many places of flows and factors there are
pub links-least : (regions from : ℕ) → regions ≤ links_with regions from
links-least regions from = by-test (eqb from 255) (λ e. rw e (omega arith)) (λ e. rw e (omega arith))

pub links-most : (regions from : ℕ) → links_with regions from ≤ regions + 1
links-most regions from = by-test (eqb from 255) (λ e. rw e (omega arith)) (λ e. rw e (omega arith))

pub links-more : (regions from : ℕ) → (from ≡ 255 → ⊥) → links_with regions from ≡ regions + 1
links-more regions from n = rw (ne_eqb from 255 n)

-- no case of a refusal has the number of an acceptance
pub refusal_is : (r : Refusal) → is_accepted (verdict_of r) ≡ false
refusal_is Invalid = refl
refusal_is Length = refl
refusal_is Full = refl
refusal_is Number = refl
refusal_is Kind = refl
refusal_is (Mark place) = refl
refusal_is (Price place) = refl
refusal_is (Factor place) = refl
refusal_is Threshold = refl
refusal_is Limits = refl
refusal_is Setting = refl
refusal_is Market = refl
refusal_is Sums = refl
refusal_is Buffer = refl
refusal_is ImageLength = refl
refusal_is ImageKind = refl
refusal_is ImageField = refl
refusal_is ImageTotal = refl
refusal_is Broken = refl
refusal_is RecordKind = refl
refusal_is RecordRegion = refl
refusal_is PlannedPrice = refl
refusal_is Hundreds = refl
refusal_is RecordOrder = refl
refusal_is (BilledEnergy place) = refl
refusal_is ImageFirst = refl

-- ---- an answer that says a verdict
module _ {T : Type 0} (a : Result T Refusal) (v : Verdict) (h : verdict a ≡ v) where
  pub is-accepted : (x : T) → a ≡ Ok x → v ≡ accepted
  is-accepted x e = sym h ∙ ap verdict e

  pub is-refused : (r : Refusal) → a ≡ Err r → (v ≡ verdict_of r) × (is_accepted v ≡ false)
  is-refused r e = let q : v ≡ verdict_of r = sym h ∙ ap verdict e in (q, rw q (refusal_is r))
