-- `book::validity::valid` meets its contract. Assumes nothing.
use mir.Syntax.{w32, w64}
use mir.Val.{SFits}
use mir.Facts.{to_z-of_z}
use Rattle.book.proofs.Ways.{valid-by}
use borrow.Author.Rules.{rules}
use Rattle.book.proofs.validity.valid.Goals as goal

pub returns : goal.returns
returns c =
    let b = c.args.book in
    let x : SFits w64 b.threshold = search rules in
    let y : SFits w32 b.cap = search rules in
    let z : SFits w32 b.floor = search rules in
    valid-by b c.shape_ok-shape.result c.parents_ok.result c.ends_ok.result c.threshold_ok.result c.limits_ok.result c.regions_ok-counts.result c.places_ok-places.result
    c.shape_ok-shape.ensures c.parents_ok.ensures c.ends_ok.ensures (rw (to_z-of_z x) at c.threshold_ok.ensures)
    (rw (to_z-of_z y, to_z-of_z z) at c.limits_ok.ensures) c.regions_ok-counts.ensures c.places_ok-places.ensures
