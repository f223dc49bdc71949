-- `interval_records::in_order::ordered_verdict` meets its contract. Assumes nothing.
use borrow.Author.Rules.{rules}
use mathlib.Core.Path.{◌∙◌}
use Rattle.book.specs.Record.{markets_of}
use Rattle.interval_records.proofs.Verdicts.{next-own, records-ordered}
use Rattle.interval_records.proofs.in_order.ordered_verdict.Goals as goal

pub returns : goal.returns
returns c =
    let a = c.args in
    c.records_verdict.ensures (next-own (markets_of a.services) a.bytes.now a.at) (λ k region answer there said. search rules)
    ∙ records-ordered a.linked a.regions (markets_of a.services) a.bytes.now a.at
