-- `book::validity::row_passes` meets its contract. The loop's invariant: `ok` is the test of the markets passed. Assumes nothing.
use Prim.Native.Nat.{◌+◌}
use native.Mathlib.Omega.{arith}
use borrow.Author.Rules.{rules}
use mir.Syntax.{w64}
use mir.Val.{SFits}
use mir.Facts.{to_z-of_z}
use lib.IntN.{pos}
use lib.ListN.{get_or}
use Rattle.laws.proofs.Lists.{all_below-none, all_below-step}
use Rattle.book.proofs.validity.row_passes.Goals as goal

pub loop-m-init : goal.loop-m-init
loop-m-init g c = (omega arith, all_below-none _)

pub loop-m-preserved : goal.loop-m-preserved
loop-m-preserved g c =
    let a = c.args in
    let f : SFits w64 (get_or a.sums.now (a.from + c.loop-m.m) (pos 0)) = search rules in
    (omega arith, all_below-step _ _ c.loop-m.invariant.1 (rw (to_z-of_z f) at c.place_ok-ok.ensures))
