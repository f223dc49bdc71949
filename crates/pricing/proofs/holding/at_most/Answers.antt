-- `pricing::holding::at_most` meets its contract. Assumes nothing.
use mathlib.Core.Path.{◌≡◌, ◌∙◌}
use borrow.Author.Rules.{rules}
use mir.Syntax.{w32}
use mir.Val.{SFits}
use mir.Facts.{to_z-of_z}
use Rattle.std.specs.Int.{int_min}
use Rattle.pricing.proofs.Holdings.{min-is}
use Rattle.pricing.proofs.holding.at_most.Goals as goal

pub returns : goal.returns
returns c =
    let a = c.args in
    let f : SFits w32 c.min.result = search rules in
    let least : c.min.result ≡ int_min a.x a.limit = simp (to_z-of_z c.ranges.x, to_z-of_z c.ranges.limit) at c.min.ensures.value in
    to_z-of_z f ∙ least ∙ min-is a.x a.limit
