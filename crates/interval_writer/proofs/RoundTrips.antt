-- Both round trips of interval records and their one form, for every book, interval, buffer and lent slice. Assumes nothing.
use mathlib.Core.Path.{◌≡◌, refl, sym, ap, ◌∙◌}
use mathlib.Core.Bool.{Bool, true}
use mathlib.Core.List.{List, [], ◌++◌}
use Prim.Native.Nat.{ℕ, ◌+◌, ◌*◌, ◌≤◌}
use native.Mathlib.Nat.{mul-le-mul_right, suc-mul}
use native.Mathlib.Omega.{arith}
use borrow.Author.Tests.{eq-eqb, le-ltb}
use lib.ListN.{length, take, drop}
use Rattle.laws.proofs.Tests.{by-test, never, true-is}
use Rattle.laws.proofs.Lists.{length_run}
use Rattle.pricing.specs.Verdict.{accepted}
use Rattle.book.specs.declared.record.Book.{Book}
use Rattle.book.specs.Validity.{valid}
use Rattle.book.specs.Record.{markets_of, has_link, link_count, is_accepted}
use Rattle.book.proofs.Validities.{valid-is}
use Rattle.interval_records.specs.Layout.{Interval, head_length, region_length, length_for, interval_bytes}
use Rattle.interval_records.specs.InOrder.{ordered_verdict}
use Rattle.intervals.specs.Lent.{slices_ok}
use Rattle.intervals.specs.Reading.{read_verdict, read_interval, interval_at}
use Rattle.interval_records.proofs.Says.{Fits, Bytes}
use Rattle.intervals.proofs.Intervals.{Says, says-interval, says-bytes, bytes-say}
use Rattle.interval_records.proofs.Heads.{Ordered}
use Rattle.interval_records.proofs.InOrder.{ordered-is, is-ordered, dues-room, whole_room, link_fits}
use Rattle.intervals.proofs.Lasts.{last-length}
use Rattle.intervals.proofs.Readings.{read-region, read_head, read-link}
use Rattle.interval_writer.specs.Writing.{write_lengths, write_verdict, write_interval}
use Rattle.intervals.proofs.Sizes.{prices-size, marked-size, flows-size, factors-size}
use Rattle.interval_writer.proofs.Writes.{Writes, accepted-writes}

says-order : (linked : Bool) (R M : ℕ) (bytes : List ℕ) (at : ℕ) (v : Interval) → Says linked R M bytes at v → Ordered linked R M bytes at
says-order linked R M bytes at v y = record {
  head = record { room = omega (arith, y.room); size = y.head.length; kind = y.head.kind };
  total = y.head.total;
  due = λ k h. record { room = omega (arith, y.room, mul-le-mul_right (region_length M) h, suc-mul k (region_length M)); size = (y.regions k h).length; kind = (y.regions k h).kind };
  region = λ k h. (y.regions k h).region;
  link = λ l. record { room = link_fits linked R M (length bytes) at y.room l; size = (y.link l).length; kind = (y.link l).kind };
}

module _ (b : Book) (ok : valid b ≡ true) where
  abbrev R : ℕ
  R = b.regions

  abbrev M : ℕ
  M = markets_of b.services

  pub few : (R ≤ 8) × (M ≤ 11)
  few = let v = valid-is b ok in (omega (arith, v.regions), omega (arith, v.services))

  -- bytes that say an interval read to it
  pub says-reads : (bytes : List ℕ) (at : ℕ) (v : Interval) → Fits v → slices_ok b v ≡ true → Says (has_link b) R M bytes at v → (lent : Interval) → slices_ok b lent ≡ true → (n : ℕ) → at + length_for b ≡ n
      → read_interval b bytes at lent ≡ record { verdict = accepted; next = n; book = b; interval = v }
  unfolding read_interval read_verdict
  says-reads bytes at v f s y lent l n q =
      rw (ok, l, is-ordered (has_link b) R M bytes at (says-order (has_link b) R M bytes at v y), says-interval (has_link b) R M (omega arith) bytes at v f (λ r. r) y.head y.regions y.link (prices-size b v s) (marked-size b v s) (flows-size b v s) (factors-size b v s), q)

writes : (b : Book) (v : Interval) (buffer : List ℕ) → is_accepted (write_interval b v buffer).verdict ≡ true
    → Writes b v (length buffer) × (write_interval b v buffer ≡ record { verdict = accepted; length = length_for b; book = b; buffer = interval_bytes (has_link b) b.regions (markets_of b.services) v ++ drop (length_for b) buffer })
unfolding write_interval
writes b v buffer e =
    by-test (is_accepted (write_verdict b v (length buffer)))
    (λ a. (accepted-writes b v (length buffer) a, rw a refl))
    (λ a. never (is_accepted (write_verdict b v (length buffer))) (rw a at e) a)

accepts : (b : Book) (v : Interval) (buffer : List ℕ) → Writes b v (length buffer)
    → write_interval b v buffer ≡ record { verdict = accepted; length = length_for b; book = b; buffer = interval_bytes (has_link b) b.regions (markets_of b.services) v ++ drop (length_for b) buffer }
unfolding write_interval write_lengths
accepts b v buffer w = rw (w.book, w.slices, le-ltb (length buffer) (length_for b) w.long)

pub read-slices : (b : Book) (bytes : List ℕ) (at : ℕ) (which : ℕ → ℕ) → slices_ok b (interval_at (has_link b) b.regions (markets_of b.services) bytes at which) ≡ true
read-slices b bytes at which =
    let R = b.regions in
    let M = markets_of b.services in
    let t = has_link b in
    let v = interval_at t R M bytes at which in
    rw (
      eq-eqb (length v.prices) (R * M) (length_run _ (R * M) 0),
      eq-eqb (length v.marked) R (length_run _ R 0),
      eq-eqb (length v.flows) (link_count b) (last-length _ R _ t),
      eq-eqb (length v.factors) (link_count b) (last-length _ R _ t),
    ) refl

ordered-says : (linked : Bool) (R M : ℕ) (bytes : List ℕ) → Bytes bytes → (at : ℕ) → Ordered linked R M bytes at → Says linked R M bytes at (interval_at linked R M bytes at (λ r. r))
ordered-says linked R M bytes t at o = record {
  room = whole_room linked R M bytes at (dues-room R M bytes (at + head_length) o.head.room o.due R (omega arith)) (λ l. (o.link l).room);
  head = read_head linked R M bytes t at (λ r. r) o.head o.total;
  regions = λ k h. read-region linked R M bytes t at (λ r. r) k h (o.due k h) (o.region k h);
  link = λ l. read-link linked R M bytes t at (λ r. r) l (o.link l);
}

-- what an accepted reading has
pub record Reads (b : Book) (bytes : List ℕ) (at : ℕ) (lent : Interval) : Type 0 where
  pub book : valid b ≡ true
  pub slices : slices_ok b lent ≡ true
  pub order : Ordered (has_link b) b.regions (markets_of b.services) bytes at
  pub interval : (read_interval b bytes at lent).interval ≡ interval_at (has_link b) b.regions (markets_of b.services) bytes at (λ r. r)

pub reads : (b : Book) (bytes : List ℕ) (at : ℕ) (lent : Interval) → is_accepted (read_interval b bytes at lent).verdict ≡ true → Reads b bytes at lent
unfolding read_interval read_verdict
reads b bytes at lent e =
    by-test (valid b)
    (λ a. by-test (slices_ok b lent)
    (λ s. by-test (is_accepted (ordered_verdict (has_link b) b.regions (markets_of b.services) bytes at))
    (λ r. record { book = a; slices = s; order = ordered-is (has_link b) _ _ bytes at r; interval = rw (a, s, r) })
    (λ r. never (is_accepted (ordered_verdict (has_link b) b.regions (markets_of b.services) bytes at)) (rw (a, s, r) at e) r))
    (λ s. absurd (true-is (rw (a, s) at e))))
    (λ a. absurd (true-is (rw a at e)))

-- the bytes of an interval that was read are those it was read from
form : (b : Book) (bytes : List ℕ) → Bytes bytes → (at : ℕ) (lent : Interval) → Reads b bytes at lent
    → interval_bytes (has_link b) b.regions (markets_of b.services) (read_interval b bytes at lent).interval ≡ take (length_for b) (drop at bytes)
form b bytes t at lent r =
    let M = markets_of b.services in
    let k = few b r.book in
    rw r.interval (says-bytes (has_link b) b.regions M k.0 k.1 (interval_at (has_link b) b.regions M bytes at (λ i. i)) bytes t at (ordered-says (has_link b) b.regions M bytes t at r.order))

-- ---- an interval's bytes, wherever they stand, read to that interval
pub read-of-bytes : (b : Book) → valid b ≡ true → (v : Interval) → Fits v → slices_ok b v ≡ true → (pre post : List ℕ) (lent : Interval) → slices_ok b lent ≡ true
    → read_interval b (pre ++ (interval_bytes (has_link b) b.regions (markets_of b.services) v ++ post)) (length pre) lent
    ≡ record { verdict = accepted; next = length pre + length_for b; book = b; interval = v }
read-of-bytes b ok v f s pre post lent l =
    let k = few b ok in
    says-reads b ok _ (length pre) v f s (bytes-say (has_link b) b.regions (markets_of b.services) k.0 k.1 v f pre post) lent l (length pre + length_for b) refl

-- "Reading what the writer made gives the same entry, its schedule aside"
pub read-of-write : (b : Book) (v : Interval) → Fits v → (buffer : List ℕ) → is_accepted (write_interval b v buffer).verdict ≡ true → (lent : Interval) → slices_ok b lent ≡ true
    → read_interval b (write_interval b v buffer).buffer 0 lent ≡ record { verdict = accepted; next = (write_interval b v buffer).length; book = b; interval = v }
read-of-write b v f buffer e lent l =
    let w = writes b v buffer e in
    let z : 0 + length_for b ≡ length_for b = omega arith in
    rw w.1 (rw z at (read-of-bytes b w.0.book v f w.0.slices [] (drop (length_for b) buffer) lent l))

-- "every interval .. that reads is written to the same bytes", all of them "in upward order" since request 2026-08
pub write-of-read : (b : Book) (bytes : List ℕ) → Bytes bytes → (at : ℕ) (lent : Interval) → is_accepted (read_interval b bytes at lent).verdict ≡ true
    → (buffer : List ℕ) → length_for b ≤ length buffer
    → write_interval b (read_interval b bytes at lent).interval buffer
    ≡ record { verdict = accepted; length = length_for b; book = b; buffer = take (length_for b) (drop at bytes) ++ drop (length_for b) buffer }
write-of-read b bytes t at lent e buffer h =
    let r = reads b bytes at lent e in
    let q : slices_ok b (read_interval b bytes at lent).interval ≡ true = rw r.interval (read-slices b bytes at (λ i. i)) in
    accepts b (read_interval b bytes at lent).interval buffer (record { book = r.book; slices = q; long = h }) ∙ rw (form b bytes t at lent r)

-- "one entry has one form": two places that read to the same entry under one book hold the same bytes
pub one_form : (b : Book) (bytes bytes' : List ℕ) → Bytes bytes → Bytes bytes' → (at at' : ℕ) (lent lent' : Interval)
    → is_accepted (read_interval b bytes at lent).verdict ≡ true
    → is_accepted (read_interval b bytes' at' lent').verdict ≡ true
    → (read_interval b bytes at lent).interval ≡ (read_interval b bytes' at' lent').interval
    → take (length_for b) (drop at bytes) ≡ take (length_for b) (drop at' bytes')
one_form b bytes bytes' t t' at at' lent lent' e e' s =
    sym (form b bytes t at lent (reads b bytes at lent e))
    ∙ ap (λ (v : Interval). interval_bytes (has_link b) b.regions (markets_of b.services) v) s
    ∙ form b bytes' t' at' lent' (reads b bytes' at' lent' e')
