-- `routes::tighter` meets its contract. Assumes nothing.
use borrow.Author.Rules.{rules}
use mathlib.Core.Path.{◌∙◌}
use mir.Syntax.{w64}
use mir.Val.{SFits}
use mir.Facts.{to_z-of_z}
use Rattle.routes.proofs.Limits.{tight-open, tight-bound, tight-both}
use Rattle.routes.proofs.tighter.Goals as goal

pub returns-in-None-default : goal.returns-in-None-default
returns-in-None-default c = tight-open _ c.in-None-default.is-0

pub returns-in-Some-None : goal.returns-in-Some-None
returns-in-Some-None c = let w = c.in-Some-None in w.is-0 ∙ tight-bound _ w.is-0 w.is-1

pub returns-then-x-y : goal.returns-then-x-y
returns-then-x-y c =
    let w = c.in-Some-Some in
    let f : SFits w64 w.x = search rules in
    let g : SFits w64 w.y = search rules in
    let t = simp (to_z-of_z f, to_z-of_z g) at c.if-x-y.true in
    w.is-0 ∙ (rw t at (tight-both c.args.caps w.is-0 w.is-1))

pub returns-else-x-y : goal.returns-else-x-y
returns-else-x-y c =
    let w = c.in-Some-Some in
    let f : SFits w64 w.x = search rules in
    let g : SFits w64 w.y = search rules in
    let t = simp (to_z-of_z f, to_z-of_z g) at c.if-x-y.false in
    w.is-1 ∙ (rw t at (tight-both c.args.caps w.is-0 w.is-1))
