-- `capi::guxhamole_interval_rewrite` meets its contract: it is the rewriting. Assumes nothing.
use Rattle.face.proofs.Answers.{rewrite-by}
use Rattle.capi.proofs.guxhamole_interval_rewrite.Goals as goal

pub returns : goal.returns
returns c =
    let a = c.args in
    rewrite-by c.from.result a.book a.records.now a.at a.buffer.now
    c.from.ensures c.rewrite_interval.ensures
