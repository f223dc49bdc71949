-- `publishing::publish` meets its contract. The loop's invariant: the rows of the regions passed are stored, and their changes counted. Assumes nothing.
use mathlib.Core.Path.{◌≡◌, refl, ◌∙◌}
use mathlib.Core.Bool.{true, false}
use Prim.Native.Nat.{◌<◌, ◌+◌, ◌*◌}
use native.Mathlib.Omega.{arith}
use lib.Seq.{sets}
use Rattle.laws.specs.Lists.{run, count_below}
use Rattle.publishing.specs.Entry.{entry_of}
use Rattle.publishing.specs.Published.{published_at, changed_at}
use Rattle.publishing.proofs.Places.{rows-small, count_fits}
use Rattle.laws.proofs.Rows.{rows_none, rows_step, rows-done, counts-none, counts_step}
use Rattle.publishing.proofs.Limits.{read_is}
use Rattle.publishing.proofs.Regions.{prices-are, count-is}
use Rattle.publishing.proofs.publish.Goals as goal

pub loop-r-init : goal.loop-r-init
loop-r-init c = (omega arith, refl, rows_none _ _ _, counts-none _ _)

pub overflow_add-count : goal.overflow_add-count
overflow_add-count c =
    let turned : let a = c.args in
    let l = c.loop-r in
    let e = entry_of a.kind a.prices.now a.marked.now a.flows.now a.factors.now a.schedule.now in
    (c.loop-r.count + c.publish_region-count.result ≡ count_below ((c.loop-r.r + 1) * a.terms.markets) (changed_at a.terms a.marks.now e))
    × (c.publish_region-count.new.table ≡ sets a.table.now 0 (run ((c.loop-r.r + 1) * a.terms.markets) 0 (published_at a.terms a.marks.now e))) = (let a = c.args in
    let e = entry_of a.kind a.prices.now a.marked.now a.flows.now a.factors.now a.schedule.now in
    let t = a.terms in
    let ok = c.requires.terms_ok.0 in
    let l = c.loop-r in
    let h : c.loop-r.r < t.regions = omega arith in
    let top = read_is true t ok a.flows.now a.factors.now a.marks.now _ c.loop-r.r h c.sources-caps.ensures c.bounds-tops.ensures in
    let bottom = read_is false t ok a.flows.now a.factors.now a.marks.now _ c.loop-r.r h c.sources-floors.ensures c.bounds-bottoms.ensures in
    let n = c.publish_region-count.ensures in (
      counts_step _ _ _ c.loop-r.invariant.3 (n.value ∙ count-is t a.marks.now e c.loop-r.r top bottom),
      n.table_after ∙ rows_step _ _ _ _ _ _ c.loop-r.invariant.2 (prices-are t a.marks.now e c.loop-r.r top bottom),
    )) in
    count_fits _ (turned).0 (rows-small c.args.terms c.requires.terms_ok.0 _ (omega arith))

pub loop-r-preserved : goal.loop-r-preserved
loop-r-preserved c =
    let turned : let a = c.args in
    let l = c.loop-r in
    let e = entry_of a.kind a.prices.now a.marked.now a.flows.now a.factors.now a.schedule.now in
    (c.loop-r.count + c.publish_region-count.result ≡ count_below ((c.loop-r.r + 1) * a.terms.markets) (changed_at a.terms a.marks.now e))
    × (c.publish_region-count.new.table ≡ sets a.table.now 0 (run ((c.loop-r.r + 1) * a.terms.markets) 0 (published_at a.terms a.marks.now e))) = (let a = c.args in
    let e = entry_of a.kind a.prices.now a.marked.now a.flows.now a.factors.now a.schedule.now in
    let t = a.terms in
    let ok = c.requires.terms_ok.0 in
    let l = c.loop-r in
    let h : c.loop-r.r < t.regions = omega arith in
    let top = read_is true t ok a.flows.now a.factors.now a.marks.now _ c.loop-r.r h c.sources-caps.ensures c.bounds-tops.ensures in
    let bottom = read_is false t ok a.flows.now a.factors.now a.marks.now _ c.loop-r.r h c.sources-floors.ensures c.bounds-bottoms.ensures in
    let n = c.publish_region-count.ensures in (
      counts_step _ _ _ c.loop-r.invariant.3 (n.value ∙ count-is t a.marks.now e c.loop-r.r top bottom),
      n.table_after ∙ rows_step _ _ _ _ _ _ c.loop-r.invariant.2 (prices-are t a.marks.now e c.loop-r.r top bottom),
    )) in
    let l = c.loop-r in
    let w = turned in
    (omega arith, c.publish_region-count.auto.table ∙ c.loop-r.invariant.1, w.1, w.0)

pub returns : goal.returns
returns c =
    let l = c.loop-r in
    let e : c.loop-r.r ≡ c.args.terms.regions = omega arith in record { value = c.loop-r.invariant.3 ∙ rw e; table_after = rows-done _ _ _ _ _ _ c.loop-r.invariant.2 e c.requires.links_ok.1 }
