-- A call by its kind: what it is, what it makes of a state, and how long its answer is. Assumes nothing.
use mathlib.Core.Path.{◌≡◌, refl, sym, subst}
use mathlib.Core.Bool.{Bool, true, false}
use mathlib.Core.List.{List}
use Prim.Native.Nat.{ℕ, ◌+◌, ◌*◌}
use borrow.Author.Tests.{eqb-true}
use lib.Dec.{eqb}
use lib.IntN.{pos}
use lib.ListN.{replicate}
use Rattle.ledger.specs.Calls as Calls
use Rattle.ledger.specs.Calls.{Call}
use Rattle.records.specs.Reading.{kind_at, lengths_at, entry_at, entry_number, table_at, answer_size}
use Rattle.playing.specs.Playing.{State, threshold_in, cap_in, floor_in, region_in, market_in, threshold, limits, report, entry, restart, step}
use Rattle.playing.specs.Fed.{Lengths, call_at}

-- the five kinds, as the tests of the definitions tell them apart
pub data Kind : ℕ → Type 0 where
  is-entry : Kind 65
  is-threshold : Kind 66
  is-limits : Kind 67
  is-report : Kind 68
  is-restart : {k : ℕ} → eqb k 65 ≡ false → eqb k 66 ≡ false → eqb k 67 ≡ false → eqb k 68 ≡ false → Kind k

pub kind-of : (k : ℕ) → Kind k
kind-of k = one (eqb k 65) refl
  where
    four : (t : Bool) → eqb k 68 ≡ t → eqb k 65 ≡ false → eqb k 66 ≡ false → eqb k 67 ≡ false → Kind k
    four true e a b c = subst Kind (sym (eqb-true k 68 e)) is-report
    four false e a b c = is-restart a b c e

    three : (t : Bool) → eqb k 67 ≡ t → eqb k 65 ≡ false → eqb k 66 ≡ false → Kind k
    three true e a b = subst Kind (sym (eqb-true k 67 e)) is-limits
    three false e a b = four (eqb k 68) refl a b e

    two : (t : Bool) → eqb k 66 ≡ t → eqb k 65 ≡ false → Kind k
    two true e a = subst Kind (sym (eqb-true k 66 e)) is-threshold
    two false e a = three (eqb k 67) refl a e

    one : (t : Bool) → eqb k 65 ≡ t → Kind k
    one true e = subst Kind (sym (eqb-true k 65 e)) is-entry
    one false e = two (eqb k 66) refl e

module _ (m : Lengths) (c : List ℕ) (s : State) where
  -- what the definitions say of a call at the next place
  pub record Says (call : Call) (after : State) (size : ℕ) : Type 0 where
    pub call-is : call_at m c s.at ≡ call
    pub after_is : step c s ≡ after
    pub size_is : answer_size c s.at ≡ size

  pub entry-says : kind_at c s.at ≡ 65
      → Says (Calls.entry (replicate (lengths_at c s.at).ring (pos 0)) (entry_number c s.at) (entry_at c s.at) (table_at c s.at)) (entry c s) (18 + 4 * (lengths_at c s.at).table)
  unfolding call_at step answer_size
  entry-says k = record { call-is = rw k refl; after_is = rw k refl; size_is = rw k refl }

  pub threshold-says : kind_at c s.at ≡ 66 → Says (Calls.threshold (threshold_in c s.at)) (threshold c s) 14
  unfolding call_at step answer_size
  threshold-says k = record { call-is = rw k refl; after_is = rw k refl; size_is = rw k refl }

  pub limits-says : kind_at c s.at ≡ 67 → Says (Calls.limits (cap_in c s.at) (floor_in c s.at)) (limits c s) 14
  unfolding call_at step answer_size
  limits-says k = record { call-is = rw k refl; after_is = rw k refl; size_is = rw k refl }

  pub report-says : kind_at c s.at ≡ 68 → Says (Calls.report (region_in c s.at) (market_in c s.at)) (report c s) 34
  unfolding call_at step answer_size
  report-says k = record { call-is = rw k refl; after_is = rw k refl; size_is = rw k refl }

  pub restart-says : eqb (kind_at c s.at) 65 ≡ false → eqb (kind_at c s.at) 66 ≡ false → eqb (kind_at c s.at) 67 ≡ false → eqb (kind_at c s.at) 68 ≡ false
      → Says (Calls.restart false (replicate m.image 0) (replicate m.other (pos 0))) (restart c s) 14
  unfolding call_at step answer_size
  restart-says e f g h = record { call-is = rw (e, f, g, h) refl; after_is = rw (e, f, g, h) refl; size_is = rw (e, h) refl }
