-- `interval_records::record::link_verdict` meets its contract, by a law for each way out. Assumes nothing.
use mathlib.Core.Path.{◌∙◌}
use Rattle.interval_records.proofs.Verdicts.{link-none, link-due}
use Rattle.interval_records.proofs.record.link_verdict.Goals as goal

pub returns-then-not-linked : goal.returns-then-not-linked
returns-then-not-linked c = link-none _ _ _ _ (c.if-not-linked.true)

pub returns : goal.returns
returns c = c.due_verdict.ensures ∙ link-due _ _ _ _ (c.if-not-linked.false)
