-- `routes::over` meets its contract. Assumes nothing.
use borrow.Author.Rules.{rules}
use mathlib.Core.Path.{ap, ◌∙◌}
use mir.Syntax.{w64}
use mir.Val.{SFits}
use mir.Facts.{to_z-of_z}
use Rattle.std.specs.Prelude.{Some}
use Rattle.routes.proofs.Limits.{over_none, over_zero, over-at}
use Rattle.routes.proofs.over.Goals as goal

pub returns-in_err-z : goal.returns-in_err-z
returns-in_err-z c = c.from_residual.ensures ∙ over_none c.args.caps c.args.factor c.in_err-z.was

pub returns-then-factor-eq0 : goal.returns-then-factor-eq0
returns-then-factor-eq0 c = over_zero c.args.caps c.args.factor c.in_ok-z.was c.if-factor-eq0.true

pub returns-else-factor-eq0 : goal.returns-else-factor-eq0
returns-else-factor-eq0 c =
    let f : SFits w64 c.in_ok-z.z = search rules in
    let g : SFits w64 c.carried.result = search rules in
    let e = rw (to_z-of_z f) at c.carried.ensures in
    rw (to_z-of_z g) (ap Some e ∙ over-at c.args.caps c.args.factor c.in_ok-z.was c.if-factor-eq0.false)
