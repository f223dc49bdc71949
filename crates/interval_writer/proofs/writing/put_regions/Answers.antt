-- `interval_writer::writing::put_regions` meets its contract. What is still to go is the same at every turn. Assumes nothing.
use mathlib.Core.Path.{◌≡◌, sym, ◌∙◌}
use Prim.Native.Nat.{◌+◌, ◌*◌}
use native.Mathlib.Omega.{arith}
use lib.IntN.{pos}
use lib.ListN.{length, get_or}
use lib.Seq.{sets}
use mir.Syntax.{w32}
use mir.Val.{SFits, of_z, to_z}
use mir.Facts.{to_z-of_z}
use Rattle.book.specs.Record.{markets_of}
use Rattle.interval_records.specs.Layout.{interval_of, region_length, region_record}
use Rattle.interval_records.proofs.Says.{region-length}
use Rattle.interval_writer.proofs.Writes.{record-put, regions-step, regions-done}
use borrow.Author.Rules.{rules}
use Rattle.interval_writer.proofs.writing.put_regions.Goals as goal

pub loop-r-preserved : goal.loop-r-preserved
loop-r-preserved c =
    let l = c.loop-r in
    let size = c.region_length-size.result in
    let a = c.args in
    let M = markets_of a.services in
    let v = a.interval.now in
    let i = c.interval.inside in
    let z = get_or i.flows.now l.r (pos 0) in
    let f : SFits w32 z = search rules in
    let e : size ≡ region_length M = c.region_length-size.ensures.0 in
    let n = c.put_region.new.buffer in
    let at = 12 + l.r * size in
    let o = l.buffer in
    let said = interval_of i.number i.kind i.prices.now i.marked.now i.flows.now i.factors.now in
    let w : n ≡ sets o at (region_record M v l.r) =
    rw (← c.interval.view_is) (record-put M l.r said (to_z w32 (of_z w32 z)) o n at (to_z-of_z f) c.put_region.ensures) in
    let g : length (region_record M v l.r) ≡ size = region-length M v l.r ∙ sym e in (
      omega arith,
      c.put_region.auto.buffer ∙ l.invariant.1,
      rw w (regions-step (region_record M v) size 12 l.buffer _ a.regions l.r c.loop-r-test.true g l.invariant.2),
    )

pub returns : goal.returns
returns c =
    let l = c.loop-r in
    regions-done _ c.region_length-size.result 12 l.buffer _ _ _ l.r (omega arith) l.invariant.2
