-- `pricing::holding::at_least` meets its contract. Assumes nothing.
use mathlib.Core.Path.{◌≡◌, ◌∙◌}
use borrow.Author.Rules.{rules}
use mir.Syntax.{w32}
use mir.Val.{SFits}
use mir.Facts.{to_z-of_z}
use Rattle.std.specs.Int.{int_max}
use Rattle.pricing.proofs.Holdings.{max-is}
use Rattle.pricing.proofs.holding.at_least.Goals as goal

pub returns : goal.returns
returns c =
    let a = c.args in
    let f : SFits w32 c.max.result = search rules in
    let most : c.max.result ≡ int_max a.limit a.x = simp (to_z-of_z c.ranges.limit, to_z-of_z c.ranges.x) at c.max.ensures.value in
    to_z-of_z f ∙ most ∙ max-is a.limit a.x
