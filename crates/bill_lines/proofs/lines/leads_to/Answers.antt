-- `bill_lines::lines::leads_to` meets its contract: one law for each way out. Assumes nothing.
use borrow.Author.Rules.{rules}
use mathlib.Core.Bool.{true, false}
use mathlib.Core.Path.{◌≡◌, sym, ◌∙◌}
use lib.IntN.{pos}
use lib.ListN.{get_or}
use mir.Syntax.{w32, w64}
use mir.Val.{SFits}
use mir.Facts.{to_z-of_z}
use Rattle.bill_lines.specs.Lines.{Lines, lines_of, shown_as, right_at}
use Rattle.bill_lines.proofs.Tolds.{leads-missing, leads-heavy, leads-told}
use Rattle.bill_lines.proofs.lines.leads_to.Goals as goal

pub returns-then-not-count-lines : goal.returns-then-not-count-lines
returns-then-not-count-lines c = leads-missing _ _ c.lines.view_is _ _ _ c.if-right-count.false c.if-not-count-lines.true

pub returns-then-not-used : goal.returns-then-not-used
returns-then-not-used c = leads-heavy _ _ c.lines.view_is _ _ _ c.if-right-count.false c.if-not-count-lines.false c.if-not-used.true

pub returns-then-line_right : goal.returns-then-line_right
returns-then-line_right c =
    let a = c.args in
    let n = c.lines.inside in
    let lines : Lines = lines_of n.numbers.now n.energy.now n.prices.now n.amounts.now in
    let f : SFits w32 a.price = search rules in
    let g : SFits w32 (get_or n.prices.now a.count (pos 0)) = search rules in
    let h : SFits w64 (get_or n.amounts.now a.count (pos 0)) = search rules in
    let r : c.line_right.result ≡ right_at lines a.count (shown_as a.number a.price) = rw (to_z-of_z g, to_z-of_z h, to_z-of_z f) at c.line_right.ensures in
    leads-told lines _ c.lines.view_is _ _ _ c.if-right-count.false c.if-not-count-lines.false c.if-not-used.false true (sym c.if-line_right.true ∙ r)

pub returns : goal.returns
returns c =
    let a = c.args in
    let n = c.lines.inside in
    let lines : Lines = lines_of n.numbers.now n.energy.now n.prices.now n.amounts.now in
    let f : SFits w32 a.price = search rules in
    let g : SFits w32 (get_or n.prices.now a.count (pos 0)) = search rules in
    let h : SFits w64 (get_or n.amounts.now a.count (pos 0)) = search rules in
    let r : c.line_right.result ≡ right_at lines a.count (shown_as a.number a.price) = rw (to_z-of_z g, to_z-of_z h, to_z-of_z f) at c.line_right.ensures in
    leads-told lines _ c.lines.view_is _ _ _ c.if-right-count.false c.if-not-count-lines.false c.if-not-used.false false (sym c.if-line_right.false ∙ r)
