-- `interval_records::in_order::next_verdict` meets its contract, by a law for each way out. Assumes nothing.
use Rattle.interval_records.proofs.Verdicts.{next-45, next-0}
use Rattle.interval_records.proofs.in_order.next_verdict.Goals as goal

pub returns-then-region-k : goal.returns-then-region-k
returns-then-region-k c = next-45 c.args.region c.args.k c.if-region-k.true

pub returns : goal.returns
returns c = next-0 c.args.region c.args.k c.if-region-k.false
