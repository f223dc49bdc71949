-- `schedule::pass::add_day` meets its contract. The loop's invariant: totals, counts and first bad price are those of the half-hours passed. Assumes nothing.
use mathlib.Core.Path.{◌≡◌, refl, ap, ap₂, sym, ◌∙◌}
use mathlib.Core.List.{List}
use Rattle.std.specs.Prelude.{Option}
use Prim.Native.Nat.{ℕ, ◌+◌, ◌*◌, ◌≤◌, ◌<◌}
use native.Mathlib.Omega.{arith}
use borrow.Author.Rules.{rules}
use lib.IntN.{ℤ, pos, nat_abs, ◌+ℤ◌}
use lib.ListN.{length, get_or, set}
use mir.Syntax.{w64}
use mir.Val.{SFits, to_z, of_z}
use mir.Facts.{to_z-of_z}
use Rattle.laws.specs.Lists.{total}
use Rattle.laws.proofs.Integers.{abs-add, abs-fits}
use Rattle.pricing.specs.Holding.{is_energy}
use Rattle.schedule.specs.Schedule.{prices_of, half_hour}
use Rattle.schedule.specs.Working.{found_in, bad_with, counted_on}
use Rattle.schedule.proofs.Runs.{table, table-size, table-there, during, day-done, half-was, half_step, room-set, bad-step}
use Rattle.schedule.proofs.Schedules.{prices-taken, countable, day-counted}
use Rattle.schedule.proofs.pass.add_day.Goals as goal

pub count_day-requires : goal.count_day-requires
count_day-requires c =
    rw (c.row_of-row.ensures, c.requires.counts_value) (countable c.requires.days.0 c.args.d c.requires.days.1)

pub loop-h-preserved : goal.loop-h-preserved
loop-h-preserved c =
    let a = c.args in
    let l = c.loop-h in
    let half : ℕ = l.h in
    let kind : ℕ = get_or a.kinds.now a.d 0 in
    let kind-in : kind ≤ 1 = c.requires.days.0.kind a.d c.requires.days.1 in
    let below-48 : half < 48 = omega (arith, c.requires.days.0.halves, c.loop-h-test.true) in
    let from : ℕ = a.d * (6 * a.halves) + 6 * half in
    -- where the half-hour's total stands
    let place : ℕ = c.row_of-row.result + half in
    let place_is : place ≡ kind * 48 + half = ap (λ (row : ℕ). row + half) c.row_of-row.ensures in
    let place_in : place < 96 = omega (arith, place_is, kind-in, below-48) in
    -- the total with the day's six prices, and its size
    let old : ℤ = get_or l.totals place (pos 0) in
    let sum : ℤ = c.half_of-half.result.sum in
    let prices : ℕ → List ℤ = λ (n : ℕ). prices_of a.halves a.prices.now a.kinds.now kind half n in
    let old-is : old ≡ total (prices a.d) =
    ap (λ (k : ℕ). get_or l.totals k (pos 0)) place_is
    ∙ half-was total (pos 0) a.halves a.prices.now a.kinds.now a.d half below-48 c.loop-h-test.true kind-in l.totals l.invariant.2 in
    let was-there : get_or a.totals.now (kind * 48 + half) (pos 0) ≡ total (prices a.d) =
    ap (λ (t : List ℤ). get_or t (kind * 48 + half) (pos 0)) c.requires.totals_value
    ∙ table-there total (pos 0) a.halves a.prices.now a.kinds.now (λ _. a.d) kind half kind-in below-48 c.loop-h-test.true in
    let old-size : nat_abs old ≤ a.d * 12884901888 = rw (old-is, ← was-there) (c.requires.days.2 (kind * 48 + half)) in
    let new-size : nat_abs (old +ℤ sum) ≤ (a.d + 1) * 12884901888 = omega (arith, abs-add old sum, old-size, c.half_of-half.ensures.sum_value.1) in
    let new-fits : SFits w64 (old +ℤ sum) = abs-fits w64 (old +ℤ sum) (omega (arith, new-size, c.requires.days.1)) in
    let six : sum ≡ total (half_hour a.halves a.prices.now a.d half) = c.half_of-half.ensures.sum_value.0 ∙ ap total c.half_hour-six.ensures in
    let new_is : old +ℤ sum ≡ total (prices (a.d + 1)) =
    ap₂ (λ (x y : ℤ). x +ℤ y) old-is six ∙ prices-taken a.halves a.prices.now a.kinds.now kind half a.d refl in
    -- as the machine adds
    let old-fits : SFits w64 old = abs-fits w64 old (omega (arith, old-size, c.requires.days.1)) in
    let sum-fits : SFits w64 sum = search rules in
    let added : to_z w64 (of_z w64 old) +ℤ to_z w64 (of_z w64 sum) ≡ old +ℤ sum = rw (to_z-of_z old-fits, to_z-of_z sum-fits) refl in
    let bad : c.half_of-half.result.bad ≡ bad_with (is_energy a.market) c.half_hour-six.result l.bad from = c.half_of-half.ensures.bad_value in
    let next : a.d * (6 * a.halves) + 6 * (half + 1) ≡ from + 6 = omega arith in (
      omega (arith, c.loop-h-test.true),
      bad
          ∙ ap₂ (λ (six : List ℤ) (bad : Option ℕ). bad_with (is_energy a.market) six bad from) c.half_hour-six.ensures l.invariant.1
          ∙ bad-step (is_energy a.market) a.prices.now from
          ∙ ap (found_in (is_energy a.market) a.prices.now) (sym next),
      ap (λ (k : ℕ). set l.totals k (to_z w64 (of_z w64 (to_z w64 (of_z w64 old) +ℤ to_z w64 (of_z w64 sum))))) place_is
          ∙ half_step total (pos 0) a.halves a.prices.now a.kinds.now a.d half below-48 c.loop-h-test.true kind-in l.totals _ l.invariant.2
          (ap (λ (z : ℤ). to_z w64 (of_z w64 z)) added ∙ to_z-of_z new-fits ∙ new_is),
      room-set ((a.d + 1) * 12884901888) place l.totals _ l.invariant.3
          (omega (arith, place_in, ap length l.invariant.2, table-size total (pos 0) a.halves a.prices.now a.kinds.now (during a.d half)))
          (rw (added, to_z-of_z new-fits) new-size),
    )

pub returns : goal.returns
returns c =
    let a = c.args in
    let l = c.loop-h in
    let e : l.h ≡ a.halves = omega arith in
    let end-is : a.d * (6 * a.halves) + 6 * l.h ≡ (a.d + 1) * (6 * a.halves) = omega arith in
    record {
      value =
          l.invariant.1 ∙ ap (found_in (is_energy a.market) a.prices.now) end-is;
      totals_after =
          l.invariant.2
          ∙ ap (λ (h : ℕ). table total (pos 0) a.halves a.prices.now a.kinds.now (during a.d h)) e
          ∙ day-done total (pos 0) a.halves a.prices.now a.kinds.now a.d;
      counts_after =
          c.count_day.ensures
          ∙ ap₂ (counted_on a.halves) c.row_of-row.ensures c.requires.counts_value
          ∙ day-counted c.requires.days.0 a.d c.requires.days.1;
      room = l.invariant.3;
    }
