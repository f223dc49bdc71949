-- `capi::guxhamole_synthetic` meets its contract: it is the test load. Assumes nothing.
use Rattle.interval_records.specs.Layout.{interval_of}
use Rattle.face.proofs.Answers.{synthesized-by}
use Rattle.capi.proofs.guxhamole_synthetic.Goals as goal

pub returns : goal.returns
returns c =
    let a = c.args in
    synthesized-by c.from.result a.book a.seed a.entry a.kind
    (interval_of 0 0 a.prices.now a.marks.now a.flows.now a.factors.now) c.from.ensures c.synthesize.ensures
