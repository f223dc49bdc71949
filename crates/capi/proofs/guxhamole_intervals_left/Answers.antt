-- `capi::guxhamole_intervals_left` meets its contract: it is the question. Assumes nothing.
use mir.Syntax.{w32}
use mir.Val.{SFits}
use mir.Facts.{to_z-of_z}
use Rattle.face.proofs.Answers.{left_by-is}
use borrow.Author.Rules.{rules}
use Rattle.capi.proofs.guxhamole_intervals_left.Goals as goal

pub returns : goal.returns
returns c =
    let a = c.args in
    let f : SFits w32 a.price = search rules in
    left_by-is c.from.result a.book a.ring.now a.region a.market a.price c.from.ensures
    (rw (to_z-of_z f) at c.intervals_left.ensures)
