-- `schedule::pass::count_day` meets its contract. The loop's invariant: the half-hours passed are counted. Assumes nothing.
use mathlib.Core.Path.{◌≡◌, ap, ◌∙◌}
use Prim.Native.Nat.{ℕ, ◌+◌}
use native.Mathlib.Omega.{arith}
use lib.ListN.{get_or}
use Rattle.laws.proofs.Lists.{puts_none, puts-step, get_or-puts-other}
use Rattle.schedule.proofs.pass.count_day.Goals as goal

pub loop-h-init : goal.loop-h-init
loop-h-init c =
    let a = c.args in (omega arith, puts_none a.counts.now (λ h. a.row + h) (λ h. get_or a.counts.now (a.row + h) 0 + 6))

pub overflow_add-counts : goal.overflow_add-counts
overflow_add-counts c =
    let was : let a = c.args in get_or c.loop-h.counts (a.row + c.loop-h.h) 0 ≡ get_or a.counts.now (a.row + c.loop-h.h) 0 = (let a = c.args in
    let h = c.loop-h.h in
    ap (λ l. get_or l (a.row + h) 0) c.loop-h.invariant.1
    ∙ get_or-puts-other a.counts.now (λ h. a.row + h) (λ h. get_or a.counts.now (a.row + h) 0 + 6) h (a.row + h) 0 (λ i p e. absurd (omega arith))) in
    omega (arith, was, c.requires.room c.loop-h.h c.loop-h-test.true)

pub loop-h-preserved : goal.loop-h-preserved
loop-h-preserved c =
    let was : let a = c.args in get_or c.loop-h.counts (a.row + c.loop-h.h) 0 ≡ get_or a.counts.now (a.row + c.loop-h.h) 0 = (let a = c.args in
    let h = c.loop-h.h in
    ap (λ l. get_or l (a.row + h) 0) c.loop-h.invariant.1
    ∙ get_or-puts-other a.counts.now (λ h. a.row + h) (λ h. get_or a.counts.now (a.row + h) 0 + 6) h (a.row + h) 0 (λ i p e. absurd (omega arith))) in
    let a = c.args in
    let l = c.loop-h in (
      omega arith,
      puts-step a.counts.now (λ h. a.row + h) (λ h. get_or a.counts.now (a.row + h) 0 + 6) c.loop-h.h c.loop-h.counts (get_or c.loop-h.counts (a.row + c.loop-h.h) 0 + 6) c.loop-h.invariant.1
          (ap (λ (n : ℕ). n + 6) (was)),
    )
