-- `publishing::Interval::effective` meets its contract. Assumes nothing.
use borrow.Author.Rules.{rules}
use borrow.Author.Tests.{eq-eqb, ne_eqb}
use mathlib.Core.Path.{◌≡◌}
use lib.IntN.{pos}
use lib.ListN.{get_or}
use mir.Syntax.{w32}
use mir.Val.{SFits}
use mir.Facts.{to_z-of_z}
use Rattle.publishing.specs.Entry.{flat}
use Rattle.publishing.specs.Effective.{effective}
use Rattle.publishing.proofs.Interval.effective.Goals as goal

pub returns-then-self-region-eq1 : goal.returns-then-self-region-eq1
unfolding effective
returns-then-self-region-eq1 c =
    let i = c.self.inside in
    let q : SFits w32 c.scheduled.result = search rules in
    let marked : get_or i.marked.now c.args.region 0 ≡ 1 = c.if-self-region-eq1.true in
    rw (to_z-of_z q, ← c.self.view_is, eq-eqb _ _ marked) (rw (← c.self.view_is) at c.scheduled.ensures)

pub returns-else-self-region-eq1 : goal.returns-else-self-region-eq1
unfolding effective
returns-else-self-region-eq1 c =
    let i = c.self.inside in
    let q : SFits w32 (get_or i.prices.now (flat i.terms c.args.region c.args.market) (pos 0)) = search rules in
    let unmarked : get_or i.marked.now c.args.region 0 ≡ 1 → ⊥ = c.if-self-region-eq1.false in
    rw (to_z-of_z q, ← c.self.view_is, ne_eqb _ _ unmarked)
