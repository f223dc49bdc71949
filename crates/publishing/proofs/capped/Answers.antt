-- `publishing::capped` meets its contract. Assumes nothing.
use mathlib.Core.Path.{◌≡◌}
use native.Mathlib.Omega.{arith}
use borrow.Author.Rules.{rules}
use borrow.Author.Tests.{eq-eqb, ne_eqb}
use mir.Syntax.{w32}
use mir.Val.{SFits}
use mir.Facts.{to_z-of_z}
use Rattle.publishing.specs.Capped.{capped_by}
use Rattle.publishing.proofs.capped.Goals as goal

pub returns-then-energy : goal.returns-then-energy
unfolding capped_by
returns-then-energy c =
    let q : SFits w32 c.held.result = search rules in
    rw (to_z-of_z q, eq-eqb _ _ c.in-0.is, c.if-energy.true)
    (simp (to_z-of_z c.ranges.price, to_z-of_z c.ranges.floor, to_z-of_z c.ranges.cap) at c.held.ensures)

pub returns-else-energy : goal.returns-else-energy
unfolding capped_by
returns-else-energy c = rw (to_z-of_z c.ranges.price, eq-eqb _ _ c.in-0.is, c.if-energy.false)

pub returns-in-1-to-10 : goal.returns-in-1-to-10
unfolding capped_by
returns-in-1-to-10 c =
    let q : SFits w32 c.at_cap.result = search rules in
    let n : c.args.market ≡ 0 → ⊥ = omega arith in
    rw (to_z-of_z q, ne_eqb _ _ n)
    (simp (to_z-of_z c.ranges.price, to_z-of_z c.ranges.cap) at c.at_cap.ensures)

pub returns-in_default : goal.returns-in_default
unfolding capped_by
returns-in_default c =
    let q : SFits w32 c.at_cap-in_default.result = search rules in
    let n : c.args.market ≡ 0 → ⊥ = omega arith in
    rw (to_z-of_z q, ne_eqb _ _ n)
    (simp (to_z-of_z c.ranges.price, to_z-of_z c.ranges.cap) at c.at_cap-in_default.ensures)
