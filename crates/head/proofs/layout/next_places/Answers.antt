-- `head::layout::next_places` meets its contract. The loop fills the array from the front. Assumes nothing.
use mathlib.Core.Path.{refl}
use native.Mathlib.Omega.{arith}
use lib.ListN.{length-set}
use Rattle.laws.proofs.Lists.{tab-none, tab-step}
use Rattle.head.proofs.layout.next_places.Goals as goal

pub loop-i-init : goal.loop-i-init
loop-i-init c = (omega arith, refl, tab-none _ _)

pub loop-i-preserved : goal.loop-i-preserved
loop-i-preserved c =
    (omega arith, simp length-set (omega arith), tab-step _ _ _ _ _ c.loop-i.invariant.2 (omega arith) c.next_place.ensures)
