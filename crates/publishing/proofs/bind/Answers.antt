-- `publishing::bind` meets its contract. Assumes nothing.
use borrow.Author.Rules.{rules}
use mathlib.Core.Path.{◌≡◌, refl, ◌∙◌}
use mathlib.Core.Bool.{Bool, true, false}
use mir.Syntax.{w32}
use mir.Val.{SFits}
use mir.Facts.{to_z-of_z}
use Rattle.std.specs.Prelude.{ℤ, None}
use Rattle.laws.specs.Base.{pick}
use Rattle.publishing.specs.Bounds.{at_most, at_least}
use Rattle.publishing.proofs.bind.Goals as goal

-- no limit leaves a price as it is
unbound : (caps : Bool) (x : ℤ) → x ≡ pick caps (at_most None x) (at_least None x)
unfolding at_most at_least
unbound true x = refl
unbound false x = refl

pub returns-in-None : goal.returns-in-None
returns-in-None c = to_z-of_z c.ranges.price ∙ rw c.in-None.is (unbound c.args.caps c.args.price)

pub returns-then-caps : goal.returns-then-caps
unfolding at_most
returns-then-caps c =
    let f : SFits w32 c.in-Some.z = search rules in
    let q : SFits w32 c.at_most.result = search rules in
    rw (to_z-of_z q, c.in-Some.is, c.if-caps.true) (simp (to_z-of_z f, to_z-of_z c.ranges.price) at c.at_most.ensures)

pub returns-else-caps : goal.returns-else-caps
unfolding at_least
returns-else-caps c =
    let f : SFits w32 c.in-Some.z = search rules in
    let q : SFits w32 c.at_least.result = search rules in
    rw (to_z-of_z q, c.in-Some.is, c.if-caps.false) (simp (to_z-of_z f, to_z-of_z c.ranges.price) at c.at_least.ensures)
