-- `counting::windows::Windows::take` meets its contract. The loop's invariant: the prices and sums of the markets passed are stored. Assumes nothing.
use mathlib.Core.Path.{◌≡◌, refl, ◌∙◌}
use native.Mathlib.Omega.{arith}
use borrow.Author.Rules.{rules}
use mir.Syntax.{w32, w64}
use mir.Val.{SFits}
use mir.Facts.{to_z-of_z}
use lib.IntN.{pos, ◌+ℤ◌, ◌-ℤ◌}
use lib.ListN.{get_or, length-set}
use Rattle.laws.proofs.Lists.{puts_none, puts-step}
use Rattle.book.specs.Record.{place_of}
use Rattle.counting.specs.Working.{place_in, joining_price}
use Rattle.counting.proofs.Takings.{sum_kept, ring-kept}
use Rattle.counting.proofs.windows.Windows.take.Goals as goal

pub loop-m-init : goal.loop-m-init
loop-m-init c = (omega arith, refl, puts_none _ _ _, puts_none _ _ _)

pub moved-sum-requires : goal.moved-sum-requires
moved-sum-requires c =
    let l = c.loop-m in
    let w = c.args.self in
    let h : SFits w64 (get_or l.sums (place_of w.region l.m) (pos 0)) = search rules in
    rw (to_z-of_z h, l.invariant.3, sum_kept w) (c.requires.sums l.m c.loop-m-test.true)

pub loop-m-preserved : goal.loop-m-preserved
loop-m-preserved c =
    let l = c.loop-m in
    let a = c.args in
    let w = c.args.self in
    let p : SFits w32 (joining_price w a.prices.now l.m) = search rules in
    let v : SFits w64 c.moved-sum.result = search rules in
    let h : SFits w64 (get_or l.sums (place_of w.region l.m) (pos 0)) = search rules in
    let f : SFits w32 c.oldest-old.result = search rules in
    let g : SFits w32 (get_or l.ring (place_in w l.m) (pos 0)) = search rules in
    let sum : c.moved-sum.result ≡ get_or l.sums (place_of w.region l.m) (pos 0) +ℤ (joining_price w a.prices.now l.m -ℤ c.oldest-old.result) = simp to_z-of_z at c.moved-sum.ensures in
    let old = simp to_z-of_z at c.oldest-old.ensures in
    let was : get_or l.sums (place_of w.region l.m) (pos 0) ≡ get_or a.sums.now (place_of w.region l.m) (pos 0) =
    rw l.invariant.3 (sum_kept w l.m _ a.sums.now) in
    let there : get_or l.ring (place_in w l.m) (pos 0) ≡ get_or a.ring.now (place_in w l.m) (pos 0) =
    rw l.invariant.2 (ring-kept w l.m _ a.ring.now (omega (arith, c.requires.next))) in
    (omega arith, simp length-set (omega arith), puts-step _ _ _ _ _ _ l.invariant.2 (to_z-of_z p), puts-step _ _ _ _ _ _ l.invariant.3 (to_z-of_z v ∙ rw (sum, was, old, there)))
