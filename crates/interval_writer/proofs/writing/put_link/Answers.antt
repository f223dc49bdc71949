-- `interval_writer::writing::put_link` meets its contract: four numbers one behind the other. Assumes nothing.
use mathlib.Core.Path.{◌≡◌, ap, ◌∙◌}
use mir.Syntax.{w32}
use mir.Val.{of_z}
use mir.Facts.{to_z-of_z}
use Rattle.interval_writer.proofs.Writes.{link-puts}
use Rattle.interval_writer.proofs.writing.put_link.Goals as goal

pub returns : goal.returns
returns c =
    let a = c.args in
    let bits = c.bits32.result in
    let f : bits ≡ of_z w32 a.flow = c.bits32.ensures ∙ ap (of_z w32) (to_z-of_z c.ranges.flow) in
    rw (← f)
    (link-puts a.buffer.now _ _ _ _ a.at bits a.factor
    c.put.ensures
    c.put-2.ensures
    c.put-3.ensures
    c.put-4.ensures)
