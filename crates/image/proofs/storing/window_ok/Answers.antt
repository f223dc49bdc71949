-- `image::storing::window_ok` meets its contract. Assumes nothing.
use mathlib.Core.Path.{sym, ap, ap₂, ◌∙◌}
use mathlib.Core.Bool.{◌&&◌}
use native.Mathlib.Omega.{arith}
use lib.Dec.{eqb}
use lib.IntN.{ℤ, pos, ◌+ℤ◌}
use lib.Signed.{le_z}
use lib.ListN.{get_or}
use mir.Syntax.{w64}
use mir.Val.{SFits, of_z}
use mir.Facts.{to_z-of_z}
use Rattle.laws.proofs.Integers.{add-fits}
use Rattle.pricing.specs.Holding.{is_energy, in_range}
use Rattle.image.proofs.Runs.{runs-all, runs-total, eqb-le}
use borrow.Author.Rules.{rules}
use Rattle.image.proofs.storing.window_ok.Goals as goal

pub returns : goal.returns
returns c =
    let older = c.in_order.result.0.now in
    let newer = c.in_order.result.1.now in
    let a = c.all_in.ensures (λ i. get_or older i (pos 0)) (λ i z h p. search rules) in
    let b = c.all_in-2.ensures (λ i. get_or newer i (pos 0)) (λ i z h p. search rules) in
    let s = c.sum.ensures.total (λ i. get_or older i (pos 0)) (λ i z h p. search rules) in
    let t = c.sum-2.ensures.total (λ i. get_or newer i (pos 0)) (λ i z h p. search rules) in
    let order = c.in_order.ensures.prices in
    let ok = ap₂ ◌&&◌ a b ∙ sym (runs-all _ _ older newer order (in_range (is_energy c.args.market))) in
    let sum = ap₂ ◌+ℤ◌ s t ∙ sym (runs-total _ _ older newer order) in
    let older-fits : SFits w64 c.sum.result = search rules in
    let newer-fits : SFits w64 c.sum-2.result = search rules in
    let sum-fits : SFits w64 (c.sum.result +ℤ c.sum-2.result) = omega (arith, add-fits, c.sum.ensures.bound, c.sum-2.ensures.bound, c.in_order.ensures.lengths, c.requires.few, c.requires.in_window.2) in
    let total-fits : SFits w64 c.args.total = search rules in
    let read = ap (λ (z : ℤ). eqb (of_z w64 z) (of_z w64 c.args.total)) (ap₂ ◌+ℤ◌ (to_z-of_z older-fits) (to_z-of_z newer-fits)) in
    let test = eqb-le (c.sum.result +ℤ c.sum-2.result) c.args.total sum-fits total-fits in
    ap₂ ◌&&◌ ok (read ∙ test ∙ ap (λ (z : ℤ). le_z z c.args.total && le_z c.args.total z) sum)
