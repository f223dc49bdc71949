-- `synthetic::synthesize` meets its contract: the answer of its tests decides, one law for each way out. Assumes nothing.
use mathlib.Core.Path.{◌≡◌, sym, ◌∙◌}
use lib.ListN.{length, replicate}
use Rattle.pricing.specs.Verdict.{Verdict}
use Rattle.book.specs.Record.{verdict}
use Rattle.interval_records.specs.Layout.{Interval, interval_of}
use Rattle.intervals.specs.Working.{lent_verdict}
use Rattle.drawing.specs.Drawing.{seed_after}
use Rattle.synthetic.proofs.Ways.{draw-refused, lengths, draw-made}
use Rattle.synthetic.proofs.synthesize.Goals as goal

pub returns-in-Err : goal.returns-in-Err
returns-in-Err c =
    let lent : Interval = (let a = c.args in interval_of 0 0 a.prices.now a.marked.now a.flows.now a.factors.now) in
    let said : Verdict = (let a = c.args in
    lent_verdict a.book (length a.prices.now) (length a.marked.now) (length a.flows.now) (length a.factors.now)) in
    let tested : verdict c.lent_verdict-lent.result ≡ said = c.lent_verdict-lent.ensures in
    let a = c.args in
    draw-refused a.book a.seed a.number a.kind (lent) _ (tested) _ c.in-Err.is

pub draw_links-last-requires : goal.draw_links-last-requires
draw_links-last-requires c =
    let lent : Interval = (let a = c.args in interval_of 0 0 a.prices.now a.marked.now a.flows.now a.factors.now) in
    let said : Verdict = (let a = c.args in
    lent_verdict a.book (length a.prices.now) (length a.marked.now) (length a.flows.now) (length a.factors.now)) in
    let tested : verdict c.lent_verdict-lent.result ≡ said = c.lent_verdict-lent.ensures in
    let a = c.args in
    let l = lengths a.book a.seed a.number a.kind (lent) _ (tested) c.in_default.is in
    l.3 ∙ sym l.2

pub returns : goal.returns
returns c =
    let lent : Interval = (let a = c.args in interval_of 0 0 a.prices.now a.marked.now a.flows.now a.factors.now) in
    let said : Verdict = (let a = c.args in
    lent_verdict a.book (length a.prices.now) (length a.marked.now) (length a.flows.now) (length a.factors.now)) in
    let tested : verdict c.lent_verdict-lent.result ≡ said = c.lent_verdict-lent.ensures in
    let a = c.args in
    let between : c.draw_prices-between.result ≡ seed_after (length a.prices.now) a.seed = c.draw_prices-between.ensures.value in
    let unmarked : c.fill.new.self ≡ replicate (length a.marked.now) 0 = c.fill.ensures.after (λ y e. e) in
    let drawn = c.draw_links-last.ensures in
    draw-made a.book a.seed a.number a.kind (lent) _ (tested) c.in_default.is
    _ _ _ _ _ _ between drawn.value c.draw_prices-between.ensures.prices_after unmarked drawn.flows_after drawn.factors_after
