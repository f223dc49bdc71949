-- What reading an interval comes to, by the way the code takes, and what its loop over the regions leaves. Assumes nothing.
use mathlib.Core.Path.{◌≡◌, refl, sym, ap, ◌∙◌}
use mathlib.Core.Bool.{Bool, true, false}
use mathlib.Core.List.{List, ◌++◌}
use Prim.Native.Nat.{ℕ, ◌+◌, ◌*◌, ◌<◌, ◌≤◌}
use native.Mathlib.Nat.{mul-le-mul_right, suc-mul}
use native.Mathlib.Omega.{arith}
use lib.IntN.{ℤ}
use lib.ListN.{length, set, drop}
use Rattle.laws.specs.Base.{pick}
use Rattle.laws.specs.Lists.{run, tabulate}
use Rattle.laws.specs.Bytes.{number_at, price_at}
use Rattle.laws.proofs.Tests.{by-test, true-is}
use Rattle.laws.proofs.Lists.{run-same, flat-div, flat-mod, tab-done}
use Rattle.pricing.specs.Verdict.{Verdict}
use Rattle.book.specs.declared.record.Book.{Book}
use Rattle.book.specs.declared.record.Refusal.{Refusal}
use Rattle.std.specs.Prelude.{Result, Ok, Err}
use Rattle.book.specs.Record.{markets_of, table_size, has_link, link_count, verdict, is_accepted}
use Rattle.book.specs.Validity.{valid}
use Rattle.book.proofs.Ways.{refusal_is}
use Rattle.book.proofs.Validities.{valid-is}
use Rattle.interval_records.specs.Layout.{Interval, head_length, region_length, link_length, interval_length, length_for, interval_of}
use Rattle.intervals.specs.Lent.{slices_ok}
use Rattle.intervals.specs.Working.{lent_verdict}
use Rattle.interval_records.specs.Record.{record_place}
use Rattle.interval_records.specs.InOrder.{ordered_verdict}
use Rattle.intervals.specs.Reading.{mark_from, flow_from, factor_from, link_flow, link_factor, price_from, read_verdict, Outcome, outcome, read_interval}
use Rattle.interval_records.proofs.InOrder.{ordered-is, dues-room, whole_room}
use Rattle.intervals.proofs.Lasts.{last_done}
use Rattle.intervals.proofs.Sizes.{prices-size, marked-size, flows-size, factors-size}

-- ---- the room of an accepted interval: its head, all its regions' records, and the additional link's
module _ (linked : Bool) (R M : ℕ) (bytes : List ℕ) (at : ℕ) (e : is_accepted (ordered_verdict linked R M bytes at) ≡ true) where
  pub head-room : at + head_length ≤ length bytes
  head-room = (ordered-is linked R M bytes at e).head.room

  pub records-room : at + head_length + R * region_length M ≤ length bytes
  records-room = dues-room R M bytes (at + head_length) head-room (ordered-is linked R M bytes at e).due R (omega arith)

  pub link-room : linked ≡ true → at + head_length + R * region_length M + link_length ≤ length bytes
  link-room l = ((ordered-is linked R M bytes at e).link l).room

  pub all_room : at + interval_length linked R M ≤ length bytes
  all_room = whole_room linked R M bytes at records-room link-room

-- region r's prices end within R × M of them
pub row_in : (r R M : ℕ) → r < R → r * M + M ≤ R * M
row_in r R M h = omega (arith, mul-le-mul_right M h, suc-mul r M)

-- ---- the prices of region r, a row of the table: its record is record r
pub row_of : (M : ℕ) (bytes : List ℕ) (first r : ℕ) → tabulate M (price_at bytes (record_place M first r + 16)) ≡ run M (r * M) (price_from M bytes first (λ k. k))
row_of M bytes first r =
    run-same M 0 (r * M) (price_at bytes (record_place M first r + 16)) (price_from M bytes first (λ k. k))
    (λ m h. let z : 0 + m ≡ m = omega arith in rw (flat-div r m M h, flat-mod r m M h, z) refl)

-- ---- the call, by the answers of its tests: `v` holds the four slices that are lent
module _ (b : Book) (bytes : List ℕ) (at : ℕ) (v : Interval) where
  abbrev lent : Interval
  lent = interval_of 0 0 v.prices v.marked v.flows v.factors

  abbrev first-tests : Verdict
  first-tests = lent_verdict b (length v.prices) (length v.marked) (length v.flows) (length v.factors)

  abbrev then-tests : Verdict
  then-tests = ordered_verdict (has_link b) b.regions (markets_of b.services) bytes at

  abbrev refusal : Refusal → Outcome
  refusal r = outcome (record { book = b; answer = Err r }) v.prices v.marked v.flows v.factors

  -- refused by 10 or 11
  lent_same : is_accepted first-tests ≡ false → read_verdict b lent bytes at ≡ first-tests
  unfolding lent_verdict read_verdict
  lent_same e =
      by-test (valid b)
      (λ y. by-test (slices_ok b v) (λ l. absurd (true-is (sym (rw (y, l) at e)))) (λ l. rw (y, l) refl))
      (λ y. rw y refl)

  module _ (a : Result Unit Refusal) (h : verdict a ≡ first-tests) where
    pub read-lent : (r : Refusal) → a ≡ Err r → refusal r ≡ read_interval b bytes at lent
    unfolding read_interval
    read-lent r q =
        let p : verdict {T = Unit} (Err r) ≡ first-tests = ap verdict (sym q) ∙ h in
        let z : is_accepted first-tests ≡ false = rw (← p) (refusal_is r) in
        rw (lent_same z, z, ← p) refl

    -- passed 10 and 11
    module _ (q : a ≡ Ok tt) where
      passed : (valid b ≡ true) × (slices_ok b v ≡ true)
      unfolding lent_verdict
      passed =
          let e : is_accepted first-tests ≡ true = rw (← h, q) refl in
          by-test (valid b)
          (λ y. by-test (slices_ok b v) (λ l. (y, l)) (λ l. absurd (true-is (rw (y, l) at e))))
          (λ y. absurd (true-is (rw y at e)))

      pub lengths : (length v.prices ≡ table_size b.regions b.services)
          × (length v.marked ≡ b.regions)
          × (length v.flows ≡ link_count b)
          × (length v.factors ≡ link_count b)
      lengths =
          let s = passed.1 in
          (prices-size b v s, marked-size b v s, flows-size b v s, factors-size b v s)

      pub markets-few : markets_of b.services ≤ 256
      markets-few = omega (arith, (valid-is b passed.0).services)

      records-same : read_verdict b lent bytes at ≡ then-tests
      unfolding read_verdict
      records-same = rw (passed.0, passed.1) refl

      module _ (c : Result Unit Refusal) (g : verdict c ≡ then-tests) where
        -- refused by 40, 41 or 45
        pub read-refused : (r : Refusal) → c ≡ Err r → refusal r ≡ read_interval b bytes at lent
        unfolding read_interval
        read-refused r w =
            let p : verdict {T = Unit} (Err r) ≡ then-tests = ap verdict (sym w) ∙ g in
            let z : is_accepted then-tests ≡ false = rw (← p) (refusal_is r) in
            rw (records-same, z, ← p) refl

        -- accepted
        module _ (w : c ≡ Ok tt) where
          pub records-accepted : is_accepted then-tests ≡ true
          records-accepted = rw (← g, w) refl

          abbrev M : ℕ
          M = markets_of b.services

          pub read-accepted : (next number kind : ℕ) (prices : List ℤ) (marked : List ℕ) (regional flows : List ℤ) (local factors : List ℕ)
              → next ≡ at + length_for b
              → number ≡ number_at bytes (at + 6) 4
              → kind ≡ number_at bytes (at + 10) 1
              → prices ≡ tabulate (b.regions * M) (price_from M bytes (at + head_length) (λ r. r))
              → marked ≡ tabulate b.regions (mark_from M bytes (at + head_length) (λ r. r)) ++ drop b.regions v.marked
              → regional ≡ tabulate b.regions (flow_from M bytes (at + head_length) (λ r. r)) ++ drop b.regions v.flows
              → local ≡ tabulate b.regions (factor_from M bytes (at + head_length) (λ r. r)) ++ drop b.regions v.factors
              → flows ≡ pick (has_link b) (set regional b.regions (link_flow b.regions M bytes (at + head_length))) regional
              → factors ≡ pick (has_link b) (set local b.regions (link_factor b.regions M bytes (at + head_length))) local
              → outcome (record { book = b; answer = Ok (record { next = next; number = number; kind = kind }) }) prices marked flows factors ≡ read_interval b bytes at lent
          unfolding read_interval
          read-accepted next number kind prices marked regional flows local factors en em ek ep ea er el ef ex =
              let a = tab-done _ b.regions b.regions v.marked marked ea refl (omega (arith, lengths.1)) in
              let f = last_done _ b.regions _ (has_link b) v.flows regional flows lengths.2 er ef in
              let x = last_done _ b.regions _ (has_link b) v.factors local factors lengths.3 el ex in
              rw (records-same, records-accepted, en, em, ek, ep, a, f, x) refl
