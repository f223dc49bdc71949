-- `billing::check_bill` meets its contract: the answers of its parts decide, one law for each way out. Assumes nothing.
use mathlib.Core.Path.{◌≡◌, ap, ◌∙◌}
use mathlib.Core.List.{List}
use lib.IntN.{ℤ}
use Rattle.book.proofs.Validities.{valid-is}
use Rattle.bill_lines.specs.Lines.{lines_of}
use Rattle.billing.specs.Billing.{bill_of, day_of}
use Rattle.billing.specs.Working.{told, told_in}
use Rattle.billing.proofs.Judging.{billed-refused, lent_ok, billed-judged}
use Rattle.billing.proofs.check_bill.Goals as goal

pub returns-in-Err : goal.returns-in-Err
returns-in-Err c =
    let a = c.args in
    let bill = bill_of a.records.now a.schedule.now a.region (lines_of a.numbers.now a.energy.now a.prices.now a.amounts.now) in
    billed-refused a.book a.ring.now a.work.now bill c.lent_verdict-lent.result c.lent_verdict-lent.ensures _ c.in-Err.is

pub copy-requires : goal.copy-requires
copy-requires c =
    let a = c.args in
    let bill = bill_of a.records.now a.schedule.now a.region (lines_of a.numbers.now a.energy.now a.prices.now a.amounts.now) in
    let l = lent_ok a.book a.ring.now a.work.now bill c.lent_verdict-lent.result c.lent_verdict-lent.ensures c.in_default.is in
    l.work

pub invariant_of-lines : goal.invariant_of-lines
invariant_of-lines c =
    let a = c.args in
    let bill = bill_of a.records.now a.schedule.now a.region (lines_of a.numbers.now a.energy.now a.prices.now a.amounts.now) in
    let l = lent_ok a.book a.ring.now a.work.now bill c.lent_verdict-lent.result c.lent_verdict-lent.ensures c.in_default.is in
    record { energy = l.energy; prices = l.prices; amounts = l.amounts }

pub play_day-played-requires : goal.play_day-played-requires
play_day-played-requires c =
    let a = c.args in
    let bill = bill_of a.records.now a.schedule.now a.region (lines_of a.numbers.now a.energy.now a.prices.now a.amounts.now) in
    let l = lent_ok a.book a.ring.now a.work.now bill c.lent_verdict-lent.result c.lent_verdict-lent.ensures c.in_default.is in
    let v = valid-is a.book l.valid in
    (v.regions, v.services, l.inside)

pub returns : goal.returns
returns c =
    let a = c.args in
    let bill = bill_of a.records.now a.schedule.now a.region (lines_of a.numbers.now a.energy.now a.prices.now a.amounts.now) in
    let work : c.copy.new.work ≡ a.ring.now = c.copy.ensures in
    let day : told_in c.play_day-played.result c.play_day-played.new.work ≡ told bill.lines (day_of a.book a.ring.now bill) =
    c.play_day-played.ensures ∙ ap (λ (l : List ℤ). told bill.lines (day_of a.book l bill)) work in
    billed-judged a.book a.ring.now a.work.now bill c.lent_verdict-lent.result c.lent_verdict-lent.ensures c.in_default.is
    c.play_day-played.result _ c.judgement_of.result day c.judgement_of.ensures
