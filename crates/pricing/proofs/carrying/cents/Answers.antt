-- `pricing::carrying::cents` meets its contract. Assumes nothing.
use borrow.Author.Rules.{rules}
use mathlib.Core.Path.{◌∙◌}
use mir.Syntax.{w64}
use mir.Val.{SFits}
use mir.Facts.{to_z-of_z}
use Rattle.pricing.specs.Passing.{cents}
use Rattle.pricing.proofs.carrying.cents.Goals as goal

pub returns : goal.returns
unfolding cents
returns c =
    let f : SFits w64 c.args.limit = search rules in
    let g : SFits w64 c.rounded.result = search rules in
    to_z-of_z g ∙ (rw (to_z-of_z f) at c.rounded.ensures)
