-- The tests of an interval's records in any order, and each region's record. Assumes nothing.
use mathlib.Core.Path.{◌≡◌, refl, ap}
use mathlib.Core.Bool.{Bool, true, false, not, ◌||◌}
use mathlib.Core.List.{List}
use Prim.Native.Nat.{ℕ, zero, suc, ◌+◌, ◌<◌}
use native.Mathlib.Nat.{not-suc-le-zero}
use native.Mathlib.Omega.{arith}
use borrow.Author.Tests.{eq-eqb, ne_eqb, eqb-true, lt-ltb, ltb-true}
use lib.Dec.{eqb, ltb}
use Rattle.laws.specs.Base.{pick}
use Rattle.laws.specs.Lists.{any_below, first_below}
use Rattle.laws.specs.Bytes.{number_at}
use Rattle.laws.proofs.Tests.{by-test, never, true-is}
use Rattle.laws.proofs.Lists.{any_at, first_below-found}
use Rattle.pricing.specs.Verdict.{accepted, refused}
use Rattle.book.specs.Record.{is_accepted}
use Rattle.interval_records.specs.Layout.{head_length}
use Rattle.interval_records.specs.Record.{due_verdict, link_verdict, head_verdict, record_place, region_at}
use Rattle.interval_rewriter.specs.AnyOrder.{stray, region_verdict, regions_verdict, records_verdict, record_of}
use Rattle.interval_rewriter.proofs.Counting.{found}
use Rattle.interval_records.proofs.Wholes.{Due, LinkDue, due-accepted, accepted-due, link-is, is-link, all-accepted, accepted-all}
use Rattle.interval_records.proofs.Heads.{Ordered, head-is, is-head}

-- the first number that passes, where one does, passes
pub first_passes : (n : ℕ) (t : ℕ → Bool) → first_below n t < n → t (first_below n t) ≡ true
unfolding first_below
first_passes zero t h = absurd (not-suc-le-zero h)
first_passes (suc n) t h =
    by-test (t zero) (λ a. rw a a) (λ a. let h' : suc (first_below n (λ k. t (suc k))) < suc n = rw a at h in rw a (first_passes n (λ k. t (suc k)) (omega arith)))

-- not (a || b)
neither : (a b : Bool) → not (not a || b) ≡ true → (a ≡ true) × (b ≡ false)
neither true true e = absurd (true-is e)
neither true false e = (refl, refl)
neither false b e = absurd (true-is e)

-- one region's record
module _ (R M : ℕ) (bytes : List ℕ) (first k : ℕ) where
  abbrev given-before : Bool
  given-before = any_below k (λ j. eqb (region_at M bytes first j) (region_at M bytes first k))

  pub region-is : is_accepted (region_verdict R M bytes first k) ≡ true
      → Due 17 M bytes (record_place M first k) × (region_at M bytes first k < R) × (given-before ≡ false)
  unfolding region_verdict
  region-is v =
      let due = due_verdict 17 M bytes (record_place M first k) in
      let e : is_accepted (pick (not (is_accepted due)) due (pick (stray R M bytes first k) (refused 42) accepted)) ≡ true = v in
      by-test (is_accepted (due_verdict 17 M bytes (record_place M first k)))
      (λ a. by-test (stray R M bytes first k)
      (λ s. absurd (true-is (rw (a, s) at e)))
      (λ s. let n = neither (ltb (region_at M bytes first k) R) given-before (ap not s) in
      (accepted-due 17 M (omega arith) bytes (record_place M first k) a, ltb-true _ _ n.0, n.1)))
      (λ a. never (is_accepted (due_verdict 17 M bytes (record_place M first k))) (rw a at e) a)

  is-region : Due 17 M bytes (record_place M first k) → region_at M bytes first k < R → given-before ≡ false
      → region_verdict R M bytes first k ≡ accepted
  unfolding region_verdict
  is-region d l n = rw (due-accepted 17 M (omega arith) bytes (record_place M first k) d, lt-ltb (region_at M bytes first k) R l, n)

-- the regions' records, from `first` on: R records of R different regions
module _ (R M : ℕ) (bytes : List ℕ) (first : ℕ) where
  abbrev region : ℕ → ℕ
  region k = region_at M bytes first k

  pub record Named : Type 0 where
    pub due : (k : ℕ) → k < R → Due 17 M bytes (record_place M first k)
    pub below : (k : ℕ) → k < R → region k < R
    pub new : (k : ℕ) → k < R → any_below k (λ j. eqb (region j) (region k)) ≡ false

  pub named-is : is_accepted (regions_verdict R M bytes first) ≡ true → Named
  named-is e =
      let r : (k : ℕ) → k < R → Due 17 M bytes (record_place M first k) × (region k < R) × (any_below k (λ j. eqb (region j) (region k)) ≡ false) = λ k l. region-is R M bytes first k (accepted-all R 0 (region_verdict R M bytes first) e k (omega arith) (omega arith)) in
      record { due = λ k l. (r k l).0; below = λ k l. (r k l).1; new = λ k l. (r k l).2 }

  is-named : Named → regions_verdict R M bytes first ≡ accepted
  is-named g = all-accepted R 0 (region_verdict R M bytes first) (λ k a l. is-region R M bytes first k (g.due k (omega arith)) (g.below k (omega arith)) (g.new k (omega arith)))

  -- each region's record
  module _ (g : Named) (r : ℕ) (h : r < R) where
    pub record-below : record_of R M bytes first r < R
    record-below = found R region g.below g.new r h

    pub record-region : region (record_of R M bytes first r) ≡ r
    record-region = eqb-true _ _ (first_passes R (λ k. eqb (region k) r) record-below)

-- all records
pub record Given (linked : Bool) (R M : ℕ) (bytes : List ℕ) (at : ℕ) : Type 0 where
  pub head : Due 16 M bytes at
  pub total : number_at bytes (at + 11) 1 ≡ R
  pub named : Named R M bytes (at + head_length)
  pub link : linked ≡ true → LinkDue bytes (record_place M (at + head_length) R)

module _ (linked : Bool) (R M : ℕ) (bytes : List ℕ) (at : ℕ) where
  abbrev place : ℕ
  place = record_place M (at + head_length) R

  pub regions-passed : is_accepted (records_verdict linked R M bytes at) ≡ true → is_accepted (regions_verdict R M bytes (at + head_length)) ≡ true
  unfolding records_verdict
  regions-passed v =
      let head = head_verdict R M bytes at in
      let others = regions_verdict R M bytes (at + head_length) in
      let e : is_accepted (pick (not (is_accepted head)) head (pick (not (is_accepted others)) others (link_verdict linked M bytes place))) ≡ true = v in
      by-test (is_accepted (head_verdict R M bytes at))
      (λ a. by-test (is_accepted (regions_verdict R M bytes (at + head_length))) (λ b. b)
      (λ b. never (is_accepted (regions_verdict R M bytes (at + head_length))) (rw (a, b) at e) b))
      (λ a. never (is_accepted (head_verdict R M bytes at)) (rw a at e) a)

  pub given_is : is_accepted (records_verdict linked R M bytes at) ≡ true → Given linked R M bytes at
  unfolding records_verdict
  given_is e =
      by-test (is_accepted (head_verdict R M bytes at))
      (λ a. by-test (is_accepted (regions_verdict R M bytes (at + head_length)))
      (λ b. let h = head-is R M bytes at a in
      record { head = h.0; total = h.1; named = named-is R M bytes (at + head_length) b; link = link-is linked M bytes place (rw (a, b) at e) })
      (λ b. never (is_accepted (regions_verdict R M bytes (at + head_length))) (rw (a, b) at e) b))
      (λ a. never (is_accepted (head_verdict R M bytes at)) (rw a at e) a)

  pub is-given : Given linked R M bytes at → records_verdict linked R M bytes at ≡ accepted
  unfolding records_verdict
  is-given g =
      rw (is-head R M bytes at g.head g.total, is-named R M bytes (at + head_length) g.named)
      (is-link linked M bytes place g.link)

-- records in number order are records in some order, and region r's is record r
module _ (linked : Bool) (R M : ℕ) (bytes : List ℕ) (at : ℕ) (o : Ordered linked R M bytes at) where
  abbrev ranked : ℕ → ℕ
  ranked k = region_at M bytes (at + head_length) k

  pub ordered-given : Given linked R M bytes at
  ordered-given = record {
    head = o.head;
    total = o.total;
    named = record {
      due = o.due;
      below = λ k h. omega (arith, o.region k h);
      new = λ k h. by-test (any_below k (λ j. eqb (ranked j) (ranked k)))
          (λ a. let x = any_at k (λ j. eqb (ranked j) (ranked k)) a in
          let y : ranked x.0 ≡ ranked k = eqb-true _ _ x.2 in
          absurd (omega (arith, o.region k h, o.region x.0 (omega (arith, x.1)), x.1)))
          (λ a. a);
    };
    link = o.link;
  }

  pub record_same : (r : ℕ) → r < R → record_of R M bytes (at + head_length) r ≡ r
  record_same r h =
      first_below-found R r (λ k. eqb (ranked k) r) h (λ k l. ne_eqb (ranked k) r (λ e. omega (arith, o.region k (omega arith)))) (eq-eqb (ranked r) r (o.region r h))
