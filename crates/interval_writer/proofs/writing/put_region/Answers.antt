-- `interval_writer::writing::put_region` meets its contract: six numbers one behind the other, then the region's prices. Assumes nothing.
use mathlib.Core.Path.{◌≡◌, ap, ◌∙◌}
use mir.Syntax.{w32}
use mir.Val.{of_z}
use mir.Facts.{to_z-of_z}
use Rattle.book.specs.Record.{markets_of}
use Rattle.interval_records.specs.Layout.{region_length, row_of}
use Rattle.interval_writer.proofs.Writes.{region-puts}
use Rattle.interval_writer.proofs.writing.put_region.Goals as goal

pub returns : goal.returns
returns c =
    let a = c.args in
    let M = markets_of a.services in
    let size = c.region_length.result in
    let bits = c.bits32.result in
    let e : size ≡ region_length M = c.region_length.ensures.0 in
    let f : bits ≡ of_z w32 a.flow = c.bits32.ensures ∙ ap (of_z w32) (to_z-of_z c.ranges.flow) in
    rw (← e, ← f)
    (region-puts a.buffer.now _ _ _ _ _ _ _ a.at size a.region a.mark bits a.factor (row_of M a.prices.now a.region)
    c.put.ensures
    c.put-2.ensures
    c.put-3.ensures
    c.put-4.ensures
    c.put-5.ensures
    c.put-6.ensures
    c.put_words.ensures)
