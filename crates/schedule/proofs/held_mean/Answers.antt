-- `schedule::held_mean` meets its contract. The mean's size is that of the numbers. Assumes nothing.
use mathlib.Core.Path.{◌≡◌, ◌∙◌}
use native.Mathlib.Omega.{arith}
use borrow.Author.Rules.{rules}
use Prim.Native.Nat.{◌*◌, ◌≤◌}
use lib.IntN.{pos, nat_abs}
use mir.Syntax.{w32, w64}
use mir.Val.{SFits, to_z, of_z}
use mir.Facts.{to_z-of_z, to_z_pos}
use Rattle.laws.proofs.Integers.{abs-fits, narrow-asks, narrow-is}
use Rattle.pricing.specs.Rounding.{rounded}
use Rattle.pricing.proofs.Roundings.{round-size}
use Rattle.schedule.specs.Working.{held_mean}
use Rattle.schedule.proofs.held_mean.Goals as goal

pub overflow_cast-rounded : goal.overflow_cast-rounded
overflow_cast-rounded c =
    let sum : to_z w64 (of_z w64 c.args.sum) ≡ c.args.sum = to_z-of_z c.ranges.sum in
    let divisor : to_z w64 c.args.count ≡ pos c.args.count = to_z_pos w64 (omega arith) in
    let mean : c.rounded.result ≡ rounded c.args.sum c.args.count = rw (sum, divisor) at c.rounded.ensures in
    let small : nat_abs c.args.sum ≤ 10000000 * c.args.count = omega (arith, c.requires.1) in
    let mean-fits : SFits w32 c.rounded.result = (abs-fits w32 c.rounded.result (rw mean (omega (arith, round-size c.args.sum c.args.count 10000000 (omega arith) (small))))) in
    narrow-asks (mean-fits)

pub returns : goal.returns
unfolding held_mean
returns c =
    let sum : to_z w64 (of_z w64 c.args.sum) ≡ c.args.sum = to_z-of_z c.ranges.sum in
    let divisor : to_z w64 c.args.count ≡ pos c.args.count = to_z_pos w64 (omega arith) in
    let mean : c.rounded.result ≡ rounded c.args.sum c.args.count = rw (sum, divisor) at c.rounded.ensures in
    let small : nat_abs c.args.sum ≤ 10000000 * c.args.count = omega (arith, c.requires.1) in
    let mean-fits : SFits w32 c.rounded.result = (abs-fits w32 c.rounded.result (rw mean (omega (arith, round-size c.args.sum c.args.count 10000000 (omega arith) (small))))) in
    let f : SFits w32 c.held.result = search rules in
    to_z-of_z f ∙ c.held.ensures
    ∙ rw (narrow-is (mean-fits), to_z-of_z c.ranges.low, to_z-of_z c.ranges.cap, mean)
