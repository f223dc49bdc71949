-- `publishing::published` meets its contract. Assumes nothing.
use mathlib.Core.Path.{◌≡◌}
use native.Mathlib.Omega.{arith}
use borrow.Author.Rules.{rules}
use borrow.Author.Tests.{eq-eqb, ne_eqb}
use mir.Syntax.{w32}
use mir.Val.{SFits}
use mir.Facts.{to_z-of_z}
use Rattle.publishing.specs.Working.{published_by}
use Rattle.publishing.proofs.published.Goals as goal

pub returns-in-0 : goal.returns-in-0
unfolding published_by
returns-in-0 c =
    let f : SFits w32 c.capped-held.result = search rules in
    let g : SFits w32 c.bind.result = search rules in
    let q : SFits w32 c.bind-in-0.result = search rules in
    let a = simp (to_z-of_z c.ranges.price, to_z-of_z c.ranges.floor, to_z-of_z c.ranges.cap) at c.capped-held.ensures in
    let b = rw a at (simp (to_z-of_z f) at c.bind.ensures) in
    let d = rw b at (simp (to_z-of_z g) at c.bind-in-0.ensures) in
    rw (to_z-of_z q, eq-eqb _ _ c.in-0.is) d

pub returns-in-1-to-10 : goal.returns-in-1-to-10
unfolding published_by
returns-in-1-to-10 c =
    let f : SFits w32 c.capped-held.result = search rules in
    let n : c.args.market ≡ 0 → ⊥ = omega arith in
    rw (to_z-of_z f, ne_eqb _ _ n)
    (simp (to_z-of_z c.ranges.price, to_z-of_z c.ranges.floor, to_z-of_z c.ranges.cap) at c.capped-held.ensures)

pub returns-in_default : goal.returns-in_default
unfolding published_by
returns-in_default c =
    let f : SFits w32 c.capped-held.result = search rules in
    let n : c.args.market ≡ 0 → ⊥ = omega arith in
    rw (to_z-of_z f, ne_eqb _ _ n)
    (simp (to_z-of_z c.ranges.price, to_z-of_z c.ranges.floor, to_z-of_z c.ranges.cap) at c.capped-held.ensures)
