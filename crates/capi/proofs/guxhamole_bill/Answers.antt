-- `capi::guxhamole_bill` meets its contract: it is the bill check. Assumes nothing.
use Rattle.bill_lines.specs.Lines.{lines_of}
use Rattle.billing.specs.Billing.{Bill, bill_of}
use Rattle.face.proofs.Answers.{bill-by}
use Rattle.capi.proofs.guxhamole_bill.Goals as goal

pub returns : goal.returns
returns c =
    let bill : Bill = (let a = c.args in
    bill_of a.records.now a.schedule.now a.region (lines_of a.numbers.now a.energy.now a.prices.now a.amounts.now)) in
    let a = c.args in
    bill-by c.from.result a.book a.ring.now a.work.now (bill) c.from.ensures c.check_bill.ensures
