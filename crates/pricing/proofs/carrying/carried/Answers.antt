-- `pricing::carrying::carried` meets its contract. The products fit by the sizes of limit and factor. Assumes nothing.
use borrow.Author.Rules.{rules}
use mathlib.Core.Path.{◌≡◌}
use Prim.Native.Nat.{◌*◌, ◌≤◌}
use native.Mathlib.Nat.{mul-le-mul}
use native.Mathlib.Omega.{arith}
use lib.IntN.{pos, nat_abs}
use mir.Syntax.{w64}
use mir.Val.{SFits}
use mir.Facts.{to_z-of_z}
use Rattle.laws.proofs.Machine.{Exp, own, nat, lit, ◌⊠◌, seen, val, exact}
use Rattle.pricing.specs.Carrying.{carried}
use Rattle.pricing.proofs.carrying.carried.Goals as goal

pub returns-then-caps : goal.returns-then-caps
unfolding carried
returns-then-caps c =
    let against : Exp = own c.args.limit ⊠ lit (pos 10000) in
    let is-against : seen w64 against ≡ val against = exact w64 against (search rules) (omega arith) in
    let is-factor : seen w64 (nat c.args.factor) ≡ pos c.args.factor = exact w64 (nat c.args.factor) (search rules) tt in
    let f : SFits w64 c.rounded.result = search rules in
    rw (to_z-of_z f, c.if-caps.true) (rw (is-against, is-factor) at c.rounded.ensures)

pub returns-else-caps : goal.returns-else-caps
unfolding carried
returns-else-caps c =
    let along : Exp = own c.args.limit ⊠ nat c.args.factor in
    let product : nat_abs c.args.limit * c.args.factor ≤ 6400000000000 * 20000 = mul-le-mul c.requires.limit_bound c.requires.factor.most in
    let is-along : seen w64 along ≡ val along = exact w64 along (search rules) (omega (arith, product)) in
    let f : SFits w64 c.rounded-else-caps.result = search rules in
    rw (to_z-of_z f, c.if-caps.false) (rw (is-along) at c.rounded-else-caps.ensures)
