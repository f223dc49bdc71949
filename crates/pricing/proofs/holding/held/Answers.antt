-- `pricing::holding::held` meets its contract. Assumes nothing.
use mir.Syntax.{w32}
use mir.Val.{SFits}
use mir.Facts.{to_z-of_z}
use Rattle.pricing.specs.Holding.{held}
use borrow.Author.Rules.{rules}
use Rattle.pricing.proofs.holding.held.Goals as goal

pub returns : goal.returns
unfolding held
returns c =
    let f : SFits w32 c.at_most.result = search rules in
    let g : SFits w32 c.at_least.result = search rules in
    let e = simp (to_z-of_z c.ranges.x, to_z-of_z c.ranges.high) at c.at_most.ensures in
    rw (to_z-of_z g) (rw e at (simp (to_z-of_z f, to_z-of_z c.ranges.low) at c.at_least.ensures))
