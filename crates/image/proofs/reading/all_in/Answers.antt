-- `image::reading::all_in` meets its contract. Assumes nothing.
use mathlib.Core.Path.{◌≡◌, ap, ◌∙◌}
use Prim.Native.Nat.{ℕ}
use native.Mathlib.Omega.{arith}
use mir.Syntax.{w32}
use mir.Val.{SFits}
use Rattle.laws.proofs.Integers.{signed}
use Rattle.laws.specs.Lists.{all_below}
use Rattle.laws.proofs.Lists.{all_below-none, all_below-step}
use Rattle.pricing.specs.Holding.{is_energy, in_range}
use borrow.Author.Rules.{rules}
use Rattle.image.proofs.reading.all_in.Goals as goal

pub loop-i-init : goal.loop-i-init
loop-i-init g c = λ prices reads. all_below-none _

pub loop-i-preserved : goal.loop-i-preserved
loop-i-preserved g c = λ prices reads.
    let f : SFits w32 c.price-price.result = search rules in
    let read = reads c.loop-i.i c.price-price.result c.loop-i-test.true c.price-price.ensures in
    let tested = (simp (signed, f) at c.in_range-ok.ensures) ∙ ap (in_range (is_energy c.args.market)) read in
    all_below-step _ _ (c.loop-i.invariant prices reads) tested

pub returns : goal.returns
returns g c = λ prices reads.
    let e : c.loop-i.i ≡ c.args.count = omega (arith, c.loop-i.auto.i-end, c.loop-i-test.false) in
    c.loop-i.invariant prices reads ∙ ap (λ (n : ℕ). all_below n (λ k. in_range (is_energy c.args.market) (prices k))) e
