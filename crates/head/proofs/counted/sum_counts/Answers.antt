-- `head::counted::sum_counts` meets its contract. The loop's invariant: what is still to go is the same at every turn. Assumes nothing.
use Prim.Native.Nat.{◌≤◌}
use native.Mathlib.Omega.{arith}
use lib.ListN.{get_or}
use mir.Syntax.{w16}
use mir.Val.{Fits}
use borrow.Author.Rules.{rules}
use Rattle.head.proofs.Counts.{sum_step, sum_done}
use Rattle.head.proofs.counted.sum_counts.Goals as goal

pub loop-count-preserved : goal.loop-count-preserved
loop-count-preserved c =
    let i = c.loop-count.count-index in
    let small : get_or c.args.counts i 0 ≤ 65535 = (let f : Fits w16 (get_or c.args.counts i 0) = search rules in omega (arith, f.fits)) in
    (omega arith, omega (arith, small), omega (arith, sum_step (λ k. get_or c.args.counts k 0) 8 i (omega arith)))

pub returns : goal.returns
returns c =
    let i = c.loop-count.count-index in
    (sum_done (λ k. get_or c.args.counts k 0) 8 i _ _ (omega arith) c.loop-count.invariant.2, omega arith)
