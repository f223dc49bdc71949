-- The tests of an interval's records in number order: what an acceptance says, and what is accepted. Assumes nothing.
use mathlib.Core.Path.{◌≡◌, refl}
use mathlib.Core.Bool.{Bool, true, false}
use mathlib.Core.List.{List}
use Prim.Native.Nat.{ℕ, zero, suc, ◌+◌, ◌*◌, ◌<◌, ◌≤◌}
use native.Mathlib.Nat.{suc-mul}
use native.Mathlib.Omega.{arith}
use borrow.Author.Tests.{eq-eqb, eqb-true}
use lib.Dec.{eqb}
use lib.ListN.{length}
use Rattle.laws.proofs.Tests.{by-test, never}
use Rattle.pricing.specs.Verdict.{accepted}
use Rattle.book.specs.Record.{is_accepted}
use Rattle.interval_records.specs.Layout.{head_length, region_length, link_length, interval_length}
use Rattle.interval_records.specs.Record.{due_verdict, head_verdict, record_place, region_at}
use Rattle.interval_records.specs.InOrder.{next_verdict, regions_verdict, ordered_verdict}
use Rattle.interval_records.proofs.Wholes.{Due, due-accepted, accepted-due, link-is, is-link, all-accepted, accepted-all}
use Rattle.interval_records.proofs.Heads.{Ordered, then-both, head-is, is-head}

-- one region's record
module _ (M : ℕ) (bytes : List ℕ) (first k : ℕ) where
  pub next-is : is_accepted (next_verdict M bytes first k) ≡ true → Due 17 M bytes (record_place M first k) × (region_at M bytes first k ≡ k)
  unfolding next_verdict
  next-is e =
      let b = then-both (due_verdict 17 M bytes (record_place M first k)) (eqb (region_at M bytes first k) k) 45 refl e in
      (accepted-due 17 M (omega arith) bytes (record_place M first k) b.0, eqb-true _ _ b.1)

  is-next : Due 17 M bytes (record_place M first k) → region_at M bytes first k ≡ k → next_verdict M bytes first k ≡ accepted
  unfolding next_verdict
  is-next d e = rw (due-accepted 17 M (omega arith) bytes (record_place M first k) d, eq-eqb _ _ e)

-- the regions' records
pub regions-are : (R M : ℕ) (bytes : List ℕ) (first : ℕ) → is_accepted (regions_verdict R M bytes first) ≡ true
    → (k : ℕ) → k < R → Due 17 M bytes (record_place M first k) × (region_at M bytes first k ≡ k)
regions-are R M bytes first e k l = next-is M bytes first k (accepted-all R 0 (next_verdict M bytes first) e k (omega arith) (omega arith))

-- all of them
module _ (linked : Bool) (R M : ℕ) (bytes : List ℕ) (at : ℕ) where
  pub ordered-is : is_accepted (ordered_verdict linked R M bytes at) ≡ true → Ordered linked R M bytes at
  unfolding ordered_verdict
  ordered-is e =
      by-test (is_accepted (head_verdict R M bytes at))
      (λ a. by-test (is_accepted (regions_verdict R M bytes (at + head_length)))
      (λ b. let h = head-is R M bytes at a in
      let r = regions-are R M bytes (at + head_length) b in
      let t = link-is linked M bytes (record_place M (at + head_length) R) (rw (a, b) at e) in
      record { head = h.0; total = h.1; due = λ k l. (r k l).0; region = λ k l. (r k l).1; link = t })
      (λ b. never (is_accepted (regions_verdict R M bytes (at + head_length))) (rw (a, b) at e) b))
      (λ a. never (is_accepted (head_verdict R M bytes at)) (rw a at e) a)

  pub is-ordered : Ordered linked R M bytes at → ordered_verdict linked R M bytes at ≡ accepted
  unfolding ordered_verdict
  is-ordered o =
      let r = all-accepted R 0 (next_verdict M bytes (at + head_length)) (λ k a l. is-next M bytes (at + head_length) k (o.due k (omega arith)) (o.region k (omega arith))) in
      rw (is-head R M bytes at o.head o.total, r) (is-link linked M bytes (record_place M (at + head_length) R) o.link)

-- ---- the room of records that stand one behind the other, in whatever order their regions are
module _ (R M : ℕ) (bytes : List ℕ) (first : ℕ) (start : first ≤ length bytes) (due : (k : ℕ) → k < R → Due 17 M bytes (record_place M first k)) where
  pub dues-room : (n : ℕ) → n ≤ R → first + n * region_length M ≤ length bytes
  dues-room zero h = omega arith
  dues-room (suc n) h = omega (arith, (due n h).room, suc-mul n (region_length M))

-- the room of a whole interval, the additional link's record last
pub whole_room : (linked : Bool) (R M : ℕ) (bytes : List ℕ) (at : ℕ) → at + head_length + R * region_length M ≤ length bytes
    → (linked ≡ true → at + head_length + R * region_length M + link_length ≤ length bytes) → at + interval_length linked R M ≤ length bytes
whole_room true R M bytes at h k = omega (arith, k refl)
whole_room false R M bytes at h k = omega arith

pub link_fits : (linked : Bool) (R M n at : ℕ) → at + interval_length linked R M ≤ n → linked ≡ true → at + head_length + R * region_length M + link_length ≤ n
link_fits linked R M n at h l = let k : at + interval_length true R M ≤ n = rw l at h in omega (arith, k)
