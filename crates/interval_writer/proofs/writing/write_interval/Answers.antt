-- `interval_writer::writing::write_interval` meets its contract: refused by its tests, or the head, the regions and the link. Assumes nothing.
use mathlib.Core.Path.{◌≡◌, sym, ap, ◌∙◌}
use mathlib.Core.Bool.{Bool, true}
use Prim.Native.Nat.{ℕ, ◌<◌}
use native.Mathlib.Omega.{arith}
use lib.ListN.{length}
use Rattle.interval_records.specs.Layout.{Interval, interval_length, length_for}
use Rattle.book.specs.Record.{markets_of, has_link, link_count}
use Rattle.interval_records.proofs.InOrder.{link_fits}
use Rattle.intervals.proofs.Lasts.{last-there}
use Rattle.book.proofs.Ways.{links-least}
use Rattle.intervals.proofs.Sizes.{prices-size, marked-size, flows-size, factors-size}
use Rattle.interval_writer.proofs.Writes.{write-asks, written-refused, written-accepted}
use Rattle.interval_writer.proofs.writing.write_interval.Goals as goal

pub returns-in-Err : goal.returns-in-Err
returns-in-Err c =
    let a = c.args in
    let b = a.book in
    let v = a.interval.now in
    written-refused b v a.buffer.now _ c.write_verdict-answer.ensures _ c.in-Err.is

pub put_head-requires : goal.put_head-requires
put_head-requires c =
    let a = c.args in
    let b = a.book in
    let v = a.interval.now in
    let w = write-asks b v a.buffer.now _ c.write_verdict-answer.ensures c.in_default.is in
    omega (arith, w.long)

pub put_regions-requires : goal.put_regions-requires
put_regions-requires c =
    let a = c.args in
    let b = a.book in
    let v = a.interval.now in
    let w = write-asks b v a.buffer.now _ c.write_verdict-answer.ensures c.in_default.is in
    let l = links-least b.regions b.from in
    record {
      services_in_bounds = omega (arith, w.long, c.put_head.auto.buffer);
      services_in_bounds_2 = (omega (arith, prices-size b v w.slices), omega (arith, marked-size b v w.slices));
      regions_in_bounds = (omega (arith, l, flows-size b v w.slices), omega (arith, l, factors-size b v w.slices));
    }

pub put_last-requires : goal.put_last-requires
put_last-requires c =
    let a = c.args in
    let b = a.book in
    let v = a.interval.now in
    let w = write-asks b v a.buffer.now _ c.write_verdict-answer.ensures c.in_default.is in
    let has : c.has_link-linked.result ≡ has_link b = c.has_link-linked.ensures in
    let n : length c.put_regions.new.buffer ≡ length a.buffer.now = c.put_regions.auto.buffer ∙ c.put_head.auto.buffer in
    let there : (n : ℕ) → n ≡ link_count b → has_link b ≡ true → b.regions < n = last-there (has_link b) b.regions in
    record {
      link_length_in_bounds = λ t. link_fits (has_link b) b.regions (markets_of b.services) _ 0 (omega (arith, w.long, n)) (sym has ∙ t);
      regions_in_bounds = λ t. (there _ (flows-size b v w.slices) (sym has ∙ t), there _ (factors-size b v w.slices) (sym has ∙ t));
    }

pub returns : goal.returns
returns c =
    let a = c.args in
    let b = a.book in
    let v = a.interval.now in
    let has : c.has_link-linked.result ≡ has_link b = c.has_link-linked.ensures in
    let size : c.interval_length.result ≡ length_for b =
    c.interval_length.ensures.0 ∙ ap (λ (t : Bool). interval_length t b.regions (markets_of b.services)) has in
    let number : c.interval.inside.number ≡ v.number = ap (λ (i : Interval). i.number) c.interval.view_is in
    let kind : c.interval.inside.kind ≡ v.kind = ap (λ (i : Interval). i.kind) c.interval.view_is in
    written-accepted b v a.buffer.now _ c.write_verdict-answer.ensures c.in_default.is
    c.interval_length.result _ _ _ size
    (rw (number, kind) at c.put_head.ensures)
    c.put_regions.ensures
    (rw has at c.put_last.ensures)
