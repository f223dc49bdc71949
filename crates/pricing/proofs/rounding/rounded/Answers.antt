-- `pricing::rounding.rounded` meets its contract. Nothing wraps by the sizes of the operands, and the two quotients are `rounded` by its laws. Assumes nothing.
use borrow.Author.Rules.{rules}
use mathlib.Core.Path.{◌∙◌}
use native.Mathlib.Omega.{arith}
use lib.IntN.{pos, ◌*ℤ◌}
use lib.Signed.{◌≤ℤ◌}
use mir.Syntax.{w64}
use mir.Facts.{to_z-of_z}
use Rattle.laws.proofs.Integers.{integers, v, ◌⊗◌, by_parts}
use Rattle.laws.proofs.Machine.{Exp, own, lit, ◌⊞◌, ◌⊟◌, ◌⊠◌, div-exact}
use Rattle.pricing.proofs.Roundings.{round-below, round-above}
use Rattle.pricing.proofs.rounding.rounded.Goals as goal

pub returns-then-n-lt0 : goal.returns-then-n-lt0
returns-then-n-lt0 c =
    let twice-n : Exp = lit (pos 2) ⊠ own c.args.n in
    let less : Exp = twice-n ⊟ own c.args.d in
    let twice-d : Exp = lit (pos 2) ⊠ own c.args.d in
    let divisor : pos 1 ≤ℤ (pos 2 *ℤ c.args.d) = omega (integers, by_parts (2 ⊗ v c.args.d)) in
    div-exact w64 (less) (twice-d) (search rules) (omega arith) (search rules) (omega arith) (divisor)
    ∙ round-below c.args.n c.args.d (rw (to_z-of_z c.ranges.n) at c.if-n-lt0.true) c.requires.1.0

pub returns-else-n-lt0 : goal.returns-else-n-lt0
returns-else-n-lt0 c =
    let twice-n : Exp = lit (pos 2) ⊠ own c.args.n in
    let more : Exp = twice-n ⊞ own c.args.d in
    let twice-d : Exp = lit (pos 2) ⊠ own c.args.d in
    let divisor : pos 1 ≤ℤ (pos 2 *ℤ c.args.d) = omega (integers, by_parts (2 ⊗ v c.args.d)) in
    div-exact w64 (more) (twice-d) (search rules) (omega arith) (search rules) (omega arith) (divisor)
    ∙ round-above c.args.n c.args.d (rw (to_z-of_z c.ranges.n) at c.if-n-lt0.false) c.requires.1.0
