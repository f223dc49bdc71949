-- The loop of `joined_prices` by the lemmas of proofs/Filling: a turn that stores and one that does not, and the end. Assumes nothing.
use Rattle.std.proofs.Common.{◌≡◌, ◌*◌, ◌+◌, ◌≤◌, ◌<◌, rules, arith, length, get_or, length-set}
use lib.IntN.{pos}
use mir.Facts.{to_z-of_z}
use mir.Syntax.{w32}
use mir.Val.{SFits}
use native.Mathlib.Nat.{mul-le-mul}
use Rattle.laws.proofs.Lists.{flat-lt}
use Rattle.joining.proofs.Filling.{stored, kept, done}
use Rattle.joining.proofs.joined_prices.Goals as goal
use Rattle.joining.proofs.joined_prices.Goals.{then-marks-r-ne1, else-marks-r-ne1}

pub loop-r-preserved : goal.loop-r-preserved
loop-r-preserved c =
    let some : 1 ≤ c.args.markets = omega arith in
    let next : c.loop-r.r + 1 ≤ c.args.regions = omega arith in
    let within : c.loop-r.r * c.args.markets < length c.loop-r.joined = omega (arith, flat-lt c.loop-r.r 0 c.args.regions c.args.markets c.loop-r-test.true some, mul-le-mul c.requires.regions_bound.0 c.requires.regions_bound.2) in
    elim c.if-marks-r-ne1.branch [
      | then-marks-r-ne1 w ↦
          let f : SFits w32 (get_or c.args.table.now (c.loop-r.r * c.args.markets) (pos 0)) = search rules in
          rw (w.joined-is, to_z-of_z f, length-set)
          (next, c.loop-r.invariant.1, stored c.args.regions c.args.markets _ _ _ c.loop-r.r c.loop-r.joined some w.if-marks-r-ne1.true within c.loop-r.invariant.2)
      | else-marks-r-ne1 w ↦
          rw w.joined-is
          (next, c.loop-r.invariant.1, kept c.args.regions c.args.markets _ _ _ c.loop-r.r c.loop-r.joined some w.if-marks-r-ne1.false c.loop-r.invariant.2)
    ]

pub returns : goal.returns
returns c =
    let all : c.loop-r.r ≡ c.args.regions = omega arith in
    let fits : c.args.regions * c.args.markets ≤ length c.loop-r.joined = omega (arith, mul-le-mul c.requires.regions_bound.0 c.requires.regions_bound.2) in
    done c.args.regions c.args.markets _ _ _ c.loop-r.joined (omega arith) fits (rw all at c.loop-r.invariant.2)
