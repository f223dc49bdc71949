-- `book::validity::parents_ok` meets its contract. The loop's invariant: `ok` is the test of the regions passed. Assumes nothing.
use native.Mathlib.Omega.{arith}
use Rattle.laws.proofs.Lists.{all_below-none, all_below-step}
use Rattle.book.proofs.validity.parents_ok.Goals as goal

pub loop-r-init : goal.loop-r-init
loop-r-init c = (omega arith, all_below-none _)

pub loop-r-preserved : goal.loop-r-preserved
loop-r-preserved c = (omega arith, all_below-step _ _ c.loop-r.invariant.1 c.parent_ok-ok.ensures)
