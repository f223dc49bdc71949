-- `capi::guxhamole_interval_write` meets its contract: it is the write. Assumes nothing.
use Rattle.interval_records.specs.Layout.{interval_of}
use Rattle.face.proofs.Answers.{write-by}
use Rattle.capi.proofs.guxhamole_interval_write.Goals as goal

pub returns : goal.returns
returns c =
    let a = c.args in
    write-by c.from.result a.book
    (interval_of a.entry a.kind a.prices.now a.marks.now a.flows.now a.factors.now) a.buffer.now
    c.from.ensures c.write_interval.ensures
