-- `schedule::pass::add_days` meets its contract. The loop's invariant is what a day promises. Assumes nothing.
use mathlib.Core.Path.{◌≡◌, refl}
use Prim.Native.Nat.{◌*◌}
use native.Mathlib.Omega.{arith}
use Rattle.laws.specs.Lists.{first_below}
use Rattle.schedule.proofs.pass.add_days.Goals as goal

pub loop-d-init : goal.loop-d-init
unfolding first_below
loop-d-init c =
    let z : 0 * (6 * c.args.halves) ≡ 0 = omega arith in
    (omega arith, rw z refl, c.requires.totals_value, c.requires.counts_value, c.requires.days.1)
