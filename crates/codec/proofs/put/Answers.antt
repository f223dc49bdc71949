-- `codec::put` meets its contract. The loop's invariant: what is still to go, of what is left of x, makes of the slice what the whole does.
-- Assumes nothing.
use native.Mathlib.Omega.{arith}
use lib.ListN.{length-set}
use Rattle.codec.proofs.Turns.{put_step, put-done}
use Rattle.codec.proofs.put.Goals as goal

pub loop-j-preserved : goal.loop-j-preserved
loop-j-preserved c =
    (omega arith, simp length-set (omega arith), put_step _ _ _ _ _ _ c.loop-j-test.true c.loop-j.invariant.2)

pub returns : goal.returns
returns c = put-done _ _ _ _ _ (omega arith) c.loop-j.invariant.2
