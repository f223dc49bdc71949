-- `interval_entry::take_into` meets its contract: what was read and what was entered decide, one law for each way out. Assumes nothing.
use mir.Facts.{to_z-of_z}
use Prim.Native.Nat.{◌*◌}
use lib.IntN.{pos}
use lib.ListN.{get_or}
use mir.Syntax.{w32}
use mir.Val.{SFits}
use borrow.Author.Rules.{rules}
use Rattle.book.specs.Record.{markets_of}
use Rattle.interval_records.specs.Layout.{interval_of}
use Rattle.interval_entry.proofs.Ways.{taken-unread, taken-unentered, taken-gone}
use Rattle.interval_entry.proofs.take_into.Goals as goal

pub returns-in-Err : goal.returns-in-Err
returns-in-Err c =
    let a = c.args in
    let v = interval_of 0 0 a.prices.now a.marked.now a.flows.now a.factors.now in
    let r = c.read_interval-read in
    taken-unread v a.table.now a.book a.ring.now a.records.now a.at a.schedule.now a.region
    r.result _ _ _ _ r.ensures _ c.in-Err.is

pub returns-in-Err-answer : goal.returns-in-Err-answer
returns-in-Err-answer c =
    let a = c.args in
    let v = interval_of 0 0 a.prices.now a.marked.now a.flows.now a.factors.now in
    let r = c.read_interval-read in
    let o = c.enter-entered in
    taken-unentered v a.table.now a.book a.ring.now a.records.now a.at a.schedule.now a.region
    r.result _ _ _ _ r.ensures _ c.in-Ok.is o.result _ _ o.ensures _ c.in-Err-answer.is

pub returns-in-Ok-answer : goal.returns-in-Ok-answer
returns-in-Ok-answer c =
    let a = c.args in
    let v = interval_of 0 0 a.prices.now a.marked.now a.flows.now a.factors.now in
    let r = c.read_interval-read in
    let o = c.enter-entered in
    let f : SFits w32 (get_or o.new.table (a.region * markets_of a.book.services) (pos 0)) = search rules in
    taken-gone v a.table.now a.book a.ring.now a.records.now a.at a.schedule.now a.region
    r.result _ _ _ _ r.ensures _ c.in-Ok.is o.result _ _ o.ensures _ _ c.in-Ok-answer.is (to_z-of_z f)
