-- `billing::play_day` meets its contract. The loop's invariant: so many intervals from here come to the whole day. Assumes nothing.
use mathlib.Core.Path.{◌≡◌, refl, ◌∙◌}
use native.Mathlib.Omega.{arith}
use mir.Syntax.{w32}
use mir.Val.{SFits}
use mir.Facts.{to_z-of_z}
use Rattle.bill_lines.specs.Lines.{shown_as}
use Rattle.bill_lines.specs.Working.{leads_to}
use Rattle.billing.proofs.Days.{start, done, stop, further, again}
use borrow.Author.Rules.{rules}
use Rattle.billing.proofs.play_day.Goals as goal

pub loop-at-init : goal.loop-at-init
loop-at-init c = (start _ _ _, refl)

pub returns-in-Err : goal.returns-in-Err
returns-in-Err c =
    let r = c.take_interval-taken in
    stop c.loop-at.invariant.0 (omega arith) r.result _ r.ensures _ c.in-Err.is

pub loop-at-smaller : goal.loop-at-smaller
loop-at-smaller c =
    let r = c.take_interval-taken in
    let onward = further c.loop-at.invariant.0 (omega arith) r.result _ r.ensures _ c.in-Ok.is in
    omega (arith, onward)

pub loop-at-preserved : goal.loop-at-preserved
loop-at-preserved c =
    let l = c.loop-at in
    let r = c.take_interval-taken in
    let g = c.in-Ok.field-0 in
    let a = c.args in
    let f : SFits w32 g.price = search rules in
    let counted : c.leads_to-right.result ≡ leads_to a.lines.now l.right l.count (shown_as g.number g.price) = rw (to_z-of_z f) at c.leads_to-right.ensures in (
      again l.invariant.0 (omega arith) r.result _ r.ensures _ c.in-Ok.is _ counted,
      r.auto.ring ∙ l.invariant.1,
    )

pub returns : goal.returns
returns c = done c.loop-at.invariant.0 (omega arith)
