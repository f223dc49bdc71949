-- `interval_writer::writing::put_last` meets its contract: the link's record, or nothing. Assumes nothing.
use mathlib.Core.Path.{◌≡◌, ap}
use Prim.Native.Nat.{ℕ, ◌+◌, ◌*◌}
use lib.IntN.{pos}
use lib.ListN.{get_or}
use mir.Syntax.{w32}
use mir.Val.{SFits, of_z, to_z}
use mir.Facts.{to_z-of_z}
use Rattle.book.specs.Record.{markets_of}
use Rattle.interval_records.specs.Layout.{interval_of, head_length, region_length}
use Rattle.interval_writer.proofs.Writes.{last-put}
use borrow.Author.Rules.{rules}
use Rattle.interval_writer.proofs.writing.put_last.Goals as goal

pub returns-then-linked : goal.returns-then-linked
returns-then-linked c =
    let a = c.args in
    let i = c.interval.inside in
    let at_place : 12 + a.regions * c.region_length.result ≡ head_length + a.regions * region_length (markets_of a.services) =
    ap (λ (n : ℕ). 12 + a.regions * n) c.region_length.ensures.0 in
    let z = get_or i.flows.now a.regions (pos 0) in
    let f : SFits w32 z = search rules in
    rw (← c.interval.view_is)
    (last-put a.linked a.regions (interval_of i.number i.kind i.prices.now i.marked.now i.flows.now i.factors.now) a.buffer.now _ _
    c.if-linked.true (to_z w32 (of_z w32 z)) _ at_place (to_z-of_z f) c.put_link.ensures)
