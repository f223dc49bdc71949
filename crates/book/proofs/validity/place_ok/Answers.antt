-- `book::validity::place_ok` meets its contract: an unused sum is 0 where it is neither above nor below. Assumes nothing.
use mathlib.Core.Path.{◌≡◌, refl, ap, ◌∙◌}
use mathlib.Core.Bool.{Bool, ◌&&◌}
use lib.Dec.{eqb}
use lib.IntN.{pos}
use lib.Signed.{le_z}
use mir.Syntax.{w64}
use mir.Val.{SFits, of_z}
use borrow.Author.Rules.{rules}
use Rattle.laws.proofs.Sames.{same-bits, and_swap}
use Rattle.book.specs.Validity.{place_ok}
use Rattle.book.proofs.validity.place_ok.Goals as goal

pub returns : goal.returns
returns c =
    let a = c.args in
    let zero : SFits w64 (pos 0) = search rules in
    let unused : eqb (of_z w64 a.sum) 0 ≡ (le_z (pos 0) a.sum && le_z a.sum (pos 0)) =
    same-bits w64 a.sum (pos 0) c.ranges.sum zero ∙ and_swap (le_z a.sum (pos 0)) (le_z (pos 0) a.sum) in
    let rest : (le_z (pos 0) a.sum && le_z a.sum (pos 0) && eqb a.mark 0) ≡ place_ok a.used a.sum a.mark = rw c.if-used.false refl in
    ap (λ (t : Bool). t && eqb a.mark 0) unused ∙ rest
