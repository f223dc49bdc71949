-- `interval_writer::writing::put_head` meets its contract: five numbers one behind the other. Assumes nothing.
use Rattle.interval_writer.proofs.Writes.{head_puts}
use Rattle.interval_writer.proofs.writing.put_head.Goals as goal

pub returns : goal.returns
returns c =
    let a = c.args in
    head_puts a.buffer.now _ _ _ _ _ a.number a.kind a.regions
    c.put.ensures
    c.put-2.ensures
    c.put-3.ensures
    c.put-4.ensures
    c.put-5.ensures
