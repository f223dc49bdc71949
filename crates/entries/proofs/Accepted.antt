-- What an acceptance says of the book and the entry, and the facts that publishing asks. Assumes nothing.
use mathlib.Core.Path.{◌≡◌, refl, sym, ◌∙◌}
use mathlib.Core.Bool.{Bool, true, false, not, ◌&&◌, ◌||◌}
use mathlib.Core.List.{List}
use Prim.Native.Nat.{ℕ, ◌+◌, ◌*◌, ◌<◌, ◌≤◌}
use native.Mathlib.Omega.{arith}
use borrow.Author.Tests.{leb-true, leb-false, ltb-false, eqb-true, eq-eqb, ne_eqb, not-false}
use lib.Dec.{eqb, leb, ltb}
use lib.IntN.{ℤ, pos}
use lib.ListN.{length, get_or}
use Rattle.laws.specs.Base.{pick}
use Rattle.laws.specs.Lists.{first_below}
use Rattle.laws.proofs.Tests.{and_left, and_right, true-is}
use Rattle.laws.proofs.Lists.{first_below-passed, flat-div, flat-mod, flat-lt, get_or-any}
use Rattle.pricing.specs.Verdict.{Verdict, accepted, refused_at}
use Rattle.pricing.specs.Holding.{is_energy, in_range}
use Rattle.pricing.specs.Carrying.{Factor}
use Rattle.book.specs.declared.record.Book.{Book}
use Rattle.book.specs.Record.{markets_of, table_size, ring_size, link_count, is_accepted}
use Rattle.book.specs.Validity.{valid}
use Rattle.book.proofs.Validities.{Valid, valid-is, seven}
use Rattle.book.proofs.Ways.{links-least, links-more}
use Rattle.publishing.specs.Entry.{Entry, TermsOk, OfferOk, LinksOk}
use Rattle.entries.specs.Checking.{lengths_ok, first_mark, bad_price, first_price, bad_factor, has_factor, first_factor, entry_verdict}
use Rattle.entries.specs.Entering.{shape_of, terms_of, enter_verdict}
use Rattle.entries.specs.Working.{slices_verdict, Accepts}

-- a refusal is no acceptance: where the choice of one or the other accepts, the test failed and the other was chosen
passes : (t : Bool) (n place : ℕ) (v : Verdict) → eqb n 0 ≡ false → is_accepted (pick t (refused_at n place) v) ≡ true → (t ≡ false) × (is_accepted v ≡ true) × (pick t (refused_at n place) v ≡ v)
passes true n place v z e = absurd (true-is (sym z ∙ e))
passes false n place v z e = (refl, e, refl)

-- no number below n passed the test
none_below : (n : ℕ) (t : ℕ → Bool) → ltb (first_below n t) n ≡ false → (k : ℕ) → k < n → t k ≡ false
none_below n t e k h = first_below-passed n t k (omega (arith, ltb-false (first_below n t) n e))

-- ---- the tests 15 to 17, of L links
module _ (L R M : ℕ) (parents : List ℕ) (prices : List ℤ) (marked factors : List ℕ) (e : is_accepted (slices_verdict L R M parents prices marked factors) ≡ true) where
  tests : (ltb (first_mark R marked) R ≡ false) × (ltb (first_price R M prices marked) (R * M) ≡ false) × (ltb (first_factor L R parents factors) L ≡ false)
      × (slices_verdict L R M parents prices marked factors ≡ accepted)
  unfolding slices_verdict
  tests =
      let p = passes (ltb (first_mark R marked) R) 15 _ _ refl e in
      let q = passes (ltb (first_price R M prices marked) (R * M)) 16 _ _ refl p.1 in
      let s = passes (ltb (first_factor L R parents factors) L) 17 _ _ refl q.1 in
      (p.0, q.0, s.0, p.2 ∙ q.2 ∙ s.2)

  mark-ok : (r : ℕ) → r < R → get_or marked r 0 ≤ 1
  mark-ok r h = leb-true (get_or marked r 0) 1 (not-false (leb (get_or marked r 0) 1) (none_below R (λ k. not (leb (get_or marked k 0) 1)) tests.0 r h))

  price-ok : (r m : ℕ) → r < R → m < M → get_or marked r 0 ≡ 0 → in_range (is_energy m) (get_or prices (r * M + m) (pos 0)) ≡ true
  price-ok r m h l z =
      let n : bad_price M prices marked (r * M + m) ≡ false = none_below (R * M) (bad_price M prices marked) tests.1 (r * M + m) (flat-lt r m R M h l) in
      not-false (in_range (is_energy m) (get_or prices (r * M + m) (pos 0))) (rw (flat-div r m M l, flat-mod r m M l, eq-eqb (get_or marked r 0) 0 z) at n)

  good : (r : ℕ) → r < L → has_factor R parents r ≡ true → Factor (get_or factors r 0)
  good r h t =
      let f = get_or factors r 0 in
      let b : bad_factor R parents factors r ≡ false = none_below L (bad_factor R parents factors) tests.2 r h in
      let t : (leb 10000 f && leb f 20000) ≡ true = not-false (leb 10000 f && leb f 20000) (rw t at b) in
      record { least = leb-true 10000 f (and_left (leb 10000 f) (leb f 20000) t); most = leb-true f 20000 (and_right (leb 10000 f) (leb f 20000) t) }

  factor-ok : R ≤ L → (r : ℕ) → r < R → (get_or parents r 255 ≡ 255 → ⊥) → Factor (get_or factors r 0)
  factor-ok l r h n = good r (omega arith) (rw (ne_eqb (get_or parents r 255) 255 n) (or-true (eqb r R)))
    where
      or-true : (t : Bool) → (t || true) ≡ true
      or-true true = refl
      or-true false = refl

  extra-ok : R < L → Factor (get_or factors R 0)
  extra-ok h = good R h (rw (eq-eqb R R refl))

-- ---- the lengths
pub lengths-are : (b : Book) (ring : ℕ) (e : Entry) (table : ℕ) → lengths_ok (shape_of b) ring e table ≡ true
    → (ring ≡ ring_size b.regions b.services b.window) × (length e.offer.prices ≡ table_size b.regions b.services) × (length e.offer.marked ≡ b.regions)
    × (length e.flows ≡ link_count b) × (length e.factors ≡ link_count b) × (length e.offer.schedule ≡ table_size b.regions b.services * 2 * b.halves)
    × (table ≡ table_size b.regions b.services)
lengths-are b ring e table h =
    let q = seven _ _ _ _ _ _ _ h in
    (eqb-true _ _ q.0, eqb-true _ _ q.1, eqb-true _ _ q.2, eqb-true _ _ q.3, eqb-true _ _ q.4, eqb-true _ _ q.5, eqb-true _ _ q.6)

-- ---- the whole verdict
module _ (b : Book) (ring n : ℕ) (e : Entry) (table : ℕ) where
  whole : is_accepted (enter_verdict b ring n e table) ≡ true → Accepts b ring n e table × (enter_verdict b ring n e table ≡ accepted)
  unfolding entry_verdict slices_verdict
  whole h =
      let p10 = passes (not (valid b)) 10 0 _ refl h in
      let p11 = passes (not (lengths_ok (shape_of b) ring e table)) 11 0 _ refl p10.1 in
      let p12 = passes (leb 10000000 b.entries) 12 0 _ refl p11.1 in
      let p13 = passes (not (eqb n b.entries)) 13 0 _ refl p12.1 in
      let p14 = passes (not (leb e.offer.kind 1)) 14 0 _ refl p13.1 in
      let q = lengths-are b ring e table (not-false (lengths_ok (shape_of b) ring e table) p11.0) in
      let s : is_accepted (slices_verdict (link_count b) b.regions (markets_of b.services) b.parents e.offer.prices e.offer.marked e.factors) ≡ true = p14.1 in (
        record {
          valid = not-false (valid b) p10.0;
          ring-size = q.0;
          prices-size = q.1;
          marked-size = q.2;
          flows-size = q.3;
          factors-size = q.4;
          schedule-size = q.5;
          table-size = q.6;
          entries = leb-false 10000000 b.entries p12.0;
          number = eqb-true n b.entries (not-false (eqb n b.entries) p13.0);
          kind = leb-true e.offer.kind 1 (not-false (leb e.offer.kind 1) p14.0);
          marks = mark-ok (link_count b) b.regions (markets_of b.services) b.parents e.offer.prices e.offer.marked e.factors s;
          prices = price-ok (link_count b) b.regions (markets_of b.services) b.parents e.offer.prices e.offer.marked e.factors s;
          factors = factor-ok (link_count b) b.regions (markets_of b.services) b.parents e.offer.prices e.offer.marked e.factors s (links-least b.regions b.from);
          extra = λ n. extra-ok (link_count b) b.regions (markets_of b.services) b.parents e.offer.prices e.offer.marked e.factors s (rw (links-more b.regions b.from n) (omega arith));
        },
        p10.2 ∙ p11.2 ∙ p12.2 ∙ p13.2 ∙ p14.2 ∙ (tests (link_count b) b.regions (markets_of b.services) b.parents e.offer.prices e.offer.marked e.factors s).3,
      )

  pub accepted-entry : is_accepted (enter_verdict b ring n e table) ≡ true → Accepts b ring n e table
  accepted-entry h = (whole h).0

  -- its place is 0 too
  pub accepted-is : is_accepted (enter_verdict b ring n e table) ≡ true → enter_verdict b ring n e table ≡ accepted
  accepted-is h = (whole h).1

-- ---- what publishing asks
pub terms-ok : (b : Book) → Valid b → TermsOk (terms_of b)
terms-ok b v = record {
  regions = (v.some-regions, v.regions);
  markets = (omega arith, omega (arith, v.services));
  position = v.position;
  halves = v.halves;
  limits = v.limits;
  parents = v.parent;
}

module _ (b : Book) (ring n : ℕ) (e : Entry) (table : ℕ) (a : Accepts b ring n e table) where
  pub offer-ok : OfferOk (terms_of b) e.offer
  offer-ok = record { kind = omega (arith, a.kind); prices = a.prices-size; marked = a.marked-size; schedule = a.schedule-size }

  pub links-ok : length b.parents ≡ 8 → LinksOk (terms_of b) e.flows e.factors
  links-ok p = record {
    flows-size = a.flows-size;
    factors-size = a.factors-size;
    extra = a.extra;
    linked = λ r h k. a.factors r h (λ z. k (get_or-any b.parents r 0 255 (omega (arith, (valid-is b a.valid).regions)) ∙ z));
  }
