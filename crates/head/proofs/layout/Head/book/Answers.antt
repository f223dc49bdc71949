-- `head::layout::Head::book` meets its contract. Assumes nothing.
use mathlib.Core.Path.{◌≡◌, ap, ◌∙◌}
use mir.Syntax.{w32, w64}
use mir.Val.{SFits, to_z}
use mir.Facts.{to_z-of_z}
use Rattle.head.specs.Layout.{head_from}
use Rattle.head.proofs.Rows.{head-is}
use borrow.Author.Rules.{rules}
use Rattle.head.proofs.layout.Head.book.Goals as goal

pub returns : goal.returns
returns c =
    let t : SFits w64 c.signed64.result = search rules in
    let k : SFits w32 c.get_word.result = search rules in
    let f : SFits w32 c.get_word-2.result = search rules in
    let same : c.self.inside.bytes.now ≡ c.args.self.now = c.self.view_is in
    head-is _ _ _ _ _ _ _ _ _ _ _ _ _ _ _ _ c.get_u8.ensures c.get_u8-2.ensures c.get_u16-window.ensures c.get_u8-3.ensures c.get_array-parents.ensures c.end_in-from.ensures c.end_in-to.ensures
    (to_z-of_z t ∙ c.signed64.ensures ∙ ap (to_z w64) c.get.ensures) (to_z-of_z k ∙ c.get_word.ensures) (to_z-of_z f ∙ c.get_word-2.ensures)
    c.get_u32.ensures c.get_u16.ensures c.get_array-counts.ensures c.next_places-nexts.ensures c.get_array-marks.ensures
    ∙ ap head_from same
