-- `capi::guxhamole_report` meets its contract: it is the report. Assumes nothing.
use mathlib.Core.Path.{ap}
use Rattle.book_calls.specs.Report.{Outcome}
use Rattle.face.proofs.Answers.{seen_by-is}
use Rattle.capi.proofs.guxhamole_report.Goals as goal

pub returns : goal.returns
returns c =
    let a = c.args in
    seen_by-is c.from.result a.book a.region a.market c.from.ensures
    (ap (λ (o : Outcome). o.numbers) c.report.ensures)
