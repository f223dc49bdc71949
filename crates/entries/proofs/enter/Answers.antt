-- `entries::enter` meets its contract: the answer of its tests decides. Assumes nothing.
use mathlib.Core.Path.{◌∙◌}
use Rattle.entries.proofs.Verdicts.{entered-refused, entry-accepted, entered-accepted}
use Rattle.entries.proofs.enter.Goals as goal

pub returns-in-Err : goal.returns-in-Err
returns-in-Err c =
    let a = c.args in
    entered-refused a.book a.ring.now a.number a.entry.now a.table.now _ c.enter_verdict-answer.ensures _ c.in-Err.is

pub accept-requires : goal.accept-requires
accept-requires c =
    let a = c.args in
    entry-accepted a.book a.ring.now a.number a.entry.now a.table.now _ c.enter_verdict-answer.ensures c.in_default.is

pub returns : goal.returns
returns c =
    let a = c.args in
    c.accept.ensures ∙ entered-accepted a.book a.ring.now a.number a.entry.now a.table.now _ c.enter_verdict-answer.ensures c.in_default.is
