-- `interval_rewriter::any_order::region_verdict` meets its contract, by a law for each way out. Assumes nothing.
use Rattle.book.specs.Record.{markets_of}
use Rattle.interval_rewriter.proofs.Verdicts.{stray-42, stray-0}
use Rattle.interval_rewriter.proofs.any_order.region_verdict.Goals as goal

pub returns-then-region-regions : goal.returns-then-region-regions
returns-then-region-regions c =
    let a = c.args in
    stray-42 a.regions (markets_of a.services) a.bytes.now a.first a.k a.region c.given_before-given.result c.given_before-given.ensures c.if-region-regions.true

pub returns : goal.returns
returns c =
    let a = c.args in
    stray-0 a.regions (markets_of a.services) a.bytes.now a.first a.k a.region c.given_before-given.result c.given_before-given.ensures c.if-region-regions.false
