-- `capi::guxhamole_interval_read` meets its contract: it is the read. Assumes nothing.
use Rattle.interval_records.specs.Layout.{interval_of}
use Rattle.face.proofs.Answers.{read_by}
use Rattle.capi.proofs.guxhamole_interval_read.Goals as goal

pub returns : goal.returns
returns c =
    let a = c.args in
    read_by c.from.result a.book a.records.now a.at
    (interval_of 0 0 a.prices.now a.marks.now a.flows.now a.factors.now) c.from.ensures c.read_interval.ensures
