-- `publishing::Interval::sources` meets its contract. Assumes nothing.
use mathlib.Core.Path.{◌≡◌, refl, ◌∙◌}
use mathlib.Core.Bool.{false}
use native.Mathlib.Omega.{arith}
use lib.ListN.{length-set}
use Rattle.laws.proofs.Lists.{tab-none, tab-step, tab-below}
use Rattle.publishing.proofs.Interval.sources.Goals as goal

pub loop-r-init : goal.loop-r-init
loop-r-init c = (omega arith, refl, tab-none _ _)

pub loop-r-preserved : goal.loop-r-preserved
loop-r-preserved c =
    (omega arith, simp length-set (omega arith), tab-step _ _ _ _ _ c.loop-r.invariant.2 (omega (arith, c.self.invariant.0.regions.1)) c.has_limit.ensures)

pub returns : goal.returns
returns c =
    let t = c.self.inside.terms in
    let e : c.loop-r.r ≡ t.regions = omega arith in
    let all = rw (← c.self.view_is) at c.loop-r.invariant.2 in
    rw (← c.self.view_is) (all ∙ rw e (tab-below _ false 8 t.regions c.self.invariant.0.regions.1))
