-- `schedule::pass::small_sum` meets its contract. The loop's invariant: the sum of the prices passed, and its size. Assumes nothing.
use mathlib.Core.Path.{◌≡◌}
use Prim.Native.Nat.{◌+◌, ◌*◌, ◌≤◌}
use native.Mathlib.Omega.{arith}
use borrow.Author.Rules.{rules}
use lib.IntN.{ℤ, pos, nat_abs, ◌+ℤ◌}
use lib.ListN.{get_or, take}
use mir.Syntax.{w32}
use mir.Val.{SFits, to_z}
use Rattle.laws.specs.Lists.{total}
use Rattle.laws.proofs.Integers.{signed}
use Rattle.laws.proofs.Totals.{total-none}
use Rattle.schedule.proofs.Schedules.{sum_step}
use Rattle.schedule.proofs.pass.small_sum.Goals as goal

pub loop-j-init : goal.loop-j-init
loop-j-init c = (omega arith, search rules, total-none c.args.six, omega arith)

pub loop-j-preserved : goal.loop-j-preserved
loop-j-preserved c =
    let price : ℤ = get_or c.args.six c.loop-j.j (pos 0) in
    let fits : SFits w32 price = search rules in
    let next : ℤ = to_z w32 c.loop-j.sum-bits +ℤ price in
    let step : (next ≡ total (take (c.loop-j.j + 1) c.args.six))
    × (nat_abs next ≤ (c.loop-j.j + 1) * 10000000) × SFits w32 next = (let l = c.loop-j in
    sum_step w32 10000000 (omega arith) c.args.six c.loop-j.invariant.1 c.loop-j.j c.loop-j-test.true (to_z w32 c.loop-j.sum-bits) c.loop-j.invariant.2 c.loop-j.invariant.3
    (c.requires c.loop-j.j c.loop-j-test.true)) in
    (omega arith, c.loop-j.invariant.1, simp (signed, fits, (step).2) (step).0, simp (signed, fits, (step).2) (step).1)
