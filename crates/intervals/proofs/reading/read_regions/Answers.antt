-- `intervals::reading::read_regions` meets its contract. The loop's invariant: the numbers of the regions passed are stored,
-- region r's from record r. Assumes nothing.
use mathlib.Core.Path.{◌≡◌, refl, ◌∙◌}
use native.Mathlib.Omega.{arith}
use Rattle.laws.proofs.Lists.{tab-none, tab-step}
use Rattle.laws.proofs.Rows.{rows_none, rows_step, rows-done}
use Rattle.intervals.specs.Reading.{price_from}
use Rattle.intervals.proofs.Ways.{row_of}
use Rattle.intervals.proofs.reading.read_regions.Goals as goal

pub loop-r-init : goal.loop-r-init
loop-r-init c = (omega arith, (refl, refl, refl, refl), rows_none _ _ _, tab-none _ _, tab-none _ _, tab-none _ _)

pub loop-r-preserved : goal.loop-r-preserved
loop-r-preserved c =
    let l = c.loop-r in
    let a = c.args in
    let n = c.read_region.ensures in
    let t = c.read_region.auto in
    let row = row_of a.markets a.bytes.now a.first l.r in
    let f = price_from a.markets a.bytes.now a.first (λ i. i) in (
      omega arith,
      (t.prices ∙ l.invariant.1.0, t.marked ∙ l.invariant.1.1, t.flows ∙ l.invariant.1.2, t.factors ∙ l.invariant.1.3),
      n.prices_after ∙ rows_step f a.markets a.prices.now l.prices _ l.r l.invariant.2 row,
      n.marked_after ∙ tab-step _ l.r a.marked.now l.marked _ l.invariant.3 (omega arith) refl,
      n.flows_after ∙ tab-step _ l.r a.flows.now l.flows _ l.invariant.4 (omega arith) refl,
      n.factors_after ∙ tab-step _ l.r a.factors.now l.factors _ l.invariant.5 (omega arith) refl,
    )

pub returns : goal.returns
returns c =
    let l = c.loop-r in
    let a = c.args in
    let e : l.r ≡ a.regions = omega arith in
    let f = price_from a.markets a.bytes.now a.first (λ k. k) in
    record {
      prices_after = rows-done f a.markets a.prices.now l.prices l.r a.regions l.invariant.2 e c.requires.prices_len.0;
      marked_after = rw e at l.invariant.3;
      flows_after = rw e at l.invariant.4;
      factors_after = rw e at l.invariant.5;
    }
