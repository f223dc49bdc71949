-- `schedule::row` meets its contract. The loop's invariant: the half-hours passed are filled, the others still zero. Assumes nothing.
use mathlib.Core.Path.{◌≡◌, ◌∙◌}
use Prim.Native.Nat.{◌+◌, ◌*◌}
use native.Mathlib.Omega.{arith}
use borrow.Author.Rules.{rules}
use lib.IntN.{pos}
use lib.ListN.{get_or}
use mir.Syntax.{w32, w64}
use mir.Val.{SFits, to_z, of_z}
use mir.Facts.{to_z-of_z}
use Rattle.schedule.proofs.Schedules.{filled_none, filled-step}
use Rattle.schedule.proofs.row.Goals as goal

pub loop-h-init : goal.loop-h-init
loop-h-init c = (omega arith, filled_none _)

pub loop-h-preserved : goal.loop-h-preserved
loop-h-preserved c =
    let read : let a = c.args in let z = get_or a.totals.now (a.kind * 48 + c.loop-h.h) (pos 0) in to_z w64 (of_z w64 z) ≡ z = (let a = c.args in let f : SFits w64 (get_or a.totals.now (a.kind * 48 + c.loop-h.h) (pos 0)) = search rules in to_z-of_z f) in
    let l = c.loop-h in
    let f : SFits w32 c.held_mean.result = search rules in
    (omega arith, filled-step _ c.loop-h.h c.loop-h.invariant.1 (omega (arith, c.requires.halves)) (to_z-of_z f ∙ (rw (read) at c.held_mean.ensures)))
