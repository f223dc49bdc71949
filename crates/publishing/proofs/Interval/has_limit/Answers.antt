-- `publishing::Interval::has_limit` meets its contract. Assumes nothing.
use borrow.Author.Rules.{rules}
use mathlib.Core.Bool.{true, false}
use native.Mathlib.Omega.{arith}
use mir.Syntax.{w32}
use mir.Val.{SFits}
use mir.Facts.{to_z-of_z}
use Rattle.publishing.specs.Bounds.{has_limit}
use Rattle.publishing.proofs.Limits.{source_fits}
use Rattle.publishing.proofs.Interval.has_limit.Goals as goal

pub administered-energy-requires : goal.administered-energy-requires
administered-energy-requires c =
    let r = rw (← c.self.view_is) at c.requires in
    (omega (arith, r, c.self.invariant.0.regions.1), omega arith)

pub effective-price-requires : goal.effective-price-requires
effective-price-requires c = (c.requires, rw (← c.self.view_is) (omega (arith, c.self.invariant.0.markets.0)))

pub returns-then-caps : goal.returns-then-caps
unfolding has_limit
returns-then-caps c =
    let f = source_fits c.self.inside.terms c.self.invariant.0 true in
    let g : SFits w32 c.effective-price.result = search rules in
    let p = rw (← c.self.view_is) at c.effective-price.ensures in
    rw (to_z-of_z f, to_z-of_z g, ← c.self.view_is, c.administered-energy.ensures, p, c.if-caps.true)

pub returns-else-caps : goal.returns-else-caps
unfolding has_limit
returns-else-caps c =
    let f = source_fits c.self.inside.terms c.self.invariant.0 false in
    let g : SFits w32 c.effective-price.result = search rules in
    let p = rw (← c.self.view_is) at c.effective-price.ensures in
    rw (to_z-of_z f, to_z-of_z g, ← c.self.view_is, c.administered-energy.ensures, p, c.if-caps.false)
