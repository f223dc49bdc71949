-- `routes::LinkFlows::powers` meets its contract. The loop's invariant: the places passed hold their powers, the others what they held. Assumes nothing.
use mathlib.Core.Path.{refl}
use native.Mathlib.Omega.{arith}
use lib.ListN.{length-set}
use Rattle.laws.proofs.Lists.{tab-none, tab-step}
use Rattle.routes.proofs.LinkFlows.powers.Goals as goal

pub loop-k-init : goal.loop-k-init
loop-k-init c = (omega arith, refl, tab-none _ _)

pub loop-k-preserved : goal.loop-k-preserved
loop-k-preserved c =
    let l = c.loop-k in (omega arith, simp length-set (omega arith), tab-step _ _ _ _ _ c.loop-k.invariant.2 (omega arith) c.power_at.ensures)
