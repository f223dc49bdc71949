-- `image::reading::sum` meets its contract. Assumes nothing.
use native.Mathlib.Omega.{arith}
use lib.IntN.{ℤ, ◌+ℤ◌}
use mir.Syntax.{w32, w64}
use mir.Val.{SFits, to_z}
use Rattle.laws.proofs.Integers.{signed, add-fits, fits-abs, abs-add}
use Rattle.image.proofs.Walks.{total-none, total-step, total-done}
use borrow.Author.Rules.{rules}
use Rattle.image.proofs.reading.sum.Goals as goal

pub overflow_add-sum : goal.overflow_add-sum
overflow_add-sum g c =
    let price : ℤ = c.price-price.result in
    let fits : SFits w32 price = search rules in
    let sum_fits : SFits w64 (to_z w64 c.loop-i.sum-bits +ℤ price) = omega (arith, add-fits, fits-abs w32 price fits, c.loop-i.invariant.0) in
    simp (signed, fits) sum_fits

pub loop-i-init : goal.loop-i-init
loop-i-init g c = (omega arith, λ prices reads. total-none prices _)

pub loop-i-preserved : goal.loop-i-preserved
loop-i-preserved g c =
    let price : ℤ = c.price-price.result in
    let fits : SFits w32 price = search rules in
    let sum_fits : SFits w64 (to_z w64 c.loop-i.sum-bits +ℤ price) = omega (arith, add-fits, fits-abs w32 price fits, c.loop-i.invariant.0) in
    let z = to_z w64 c.loop-i.sum-bits in
    simp (signed, fits, sum_fits) (
      omega (arith, fits-abs w32 price fits, abs-add z price, c.loop-i.invariant.0),
      λ prices reads.
          total-step prices _ _ z _ price c.loop-i-test.true (reads c.loop-i.i price c.loop-i-test.true c.price-price.ensures) (c.loop-i.invariant.1 prices reads),
    )

pub returns : goal.returns
returns g c = record {
  total = λ prices reads. total-done prices _ _ _ _ c.loop-i-test.false (c.loop-i.invariant.1 prices reads);
  bound = omega (arith, c.loop-i.invariant.0);
}
