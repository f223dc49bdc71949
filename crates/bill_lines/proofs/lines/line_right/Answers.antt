-- `bill_lines::lines::line_right` meets its contract. The product fits by the ranges of energy and price. Assumes nothing.
use borrow.Author.Rules.{rules}
use mathlib.Core.Path.{◌≡◌, ap, ◌∙◌}
use mathlib.Core.Bool.{◌&&◌}
use lib.Dec.{eqb}
use Prim.Native.Nat.{◌*◌, ◌≤◌}
use native.Mathlib.Nat.{mul-le-mul}
use native.Mathlib.Omega.{arith}
use lib.IntN.{nat_abs}
use mir.Syntax.{w32, w64}
use mir.Val.{SFits, of_z}
use Rattle.laws.proofs.Integers.{fits-abs}
use Rattle.laws.proofs.Machine.{Exp, int, nat, ◌⊠◌, seen, val, exact}
use Rattle.laws.proofs.Sames.{same-bits}
use Rattle.bill_lines.specs.Lines.{same, amount_of, line_right}
use Rattle.bill_lines.proofs.lines.line_right.Goals as goal

pub returns : goal.returns
unfolding line_right
returns c =
    let product : Exp = nat c.args.used ⊠ int c.args.price in
    let fits : SFits w32 c.args.price = search rules in
    let small : c.args.used * nat_abs c.args.price ≤ 1000000000 * 2147483648 = mul-le-mul c.requires (fits-abs w32 c.args.price fits) in
    let is-product : seen w64 product ≡ val product = exact w64 product (search rules) (omega (arith, small)) in
    let a = c.args in
    let due : c.rounded-due.result ≡ amount_of a.used a.price = rw (is-product) at c.rounded-due.ensures in
    let f : SFits w64 c.rounded-due.result = search rules in
    let g : SFits w32 a.asked = search rules in
    let h : SFits w64 a.charged = search rules in
    let price : eqb (of_z w32 a.asked) (of_z w32 a.price) ≡ same a.asked a.price = same-bits w32 a.asked a.price g fits in
    let amount : eqb (of_z w64 a.charged) (of_z w64 c.rounded-due.result) ≡ same a.charged (amount_of a.used a.price) =
    same-bits w64 a.charged c.rounded-due.result h f ∙ ap (same a.charged) due in
    λ i. (eqb a.said a.number && price i) && amount i
