-- `counting::periods::marks_after` meets its contract. Assumes nothing.
use mathlib.Core.Path.{◌≡◌, ◌∙◌}
use native.Mathlib.Omega.{arith}
use borrow.Author.Rules.{rules}
use mir.Syntax.{w64}
use mir.Val.{SFits, of_z, to_z}
use mir.Facts.{to_z-of_z}
use lib.IntN.{pos}
use lib.ListN.{length, get_or}
use Rattle.laws.proofs.Lists.{tab-none, tab-rest}
use Rattle.counting.specs.Periods.{mark_after}
use Rattle.counting.proofs.Marks.{Turned, raised, released, stayed}
use Rattle.counting.proofs.periods.marks_after.Goals as goal
use Rattle.counting.proofs.periods.marks_after.Goals.{then-threshold-sums, else-threshold-sums+then-last, else-threshold-sums+else-last}

pub loop-k-init : goal.loop-k-init
loop-k-init c = let n : length c.args.marks ≡ 88 = search rules in (omega arith, n, n, tab-none _ _)

pub loop-k-preserved : goal.loop-k-preserved
loop-k-preserved c =
    let a = c.args in
    let l = c.loop-k in
    let f : SFits w64 (get_or a.sums.now c.loop-k.k (pos 0)) = search rules in
    let t = to_z w64 (of_z w64 a.threshold) in
    let p : Turned t a.last a.sums.now a.marks c.loop-k.k c.if-threshold-sums.after =
    elim c.if-threshold-sums.branch [
      | then-threshold-sums w ↦ raised t a.last a.sums.now a.marks l.k l.after c.if-threshold-sums.after
          l.invariant.2 l.invariant.3 (omega arith) (rw (to_z-of_z f) at w.if-threshold-sums.true) w.after-is
      | else-threshold-sums+then-last w ↦ released t a.last a.sums.now a.marks l.k l.after c.if-threshold-sums.after
          l.invariant.2 l.invariant.3 (omega arith) (rw (to_z-of_z f) at w.if-threshold-sums.false) w.if-last.true w.after-is
      | else-threshold-sums+else-last w ↦ stayed t a.last a.sums.now a.marks l.k l.after c.if-threshold-sums.after
          l.invariant.2 l.invariant.3 (omega arith) (rw (to_z-of_z f) at w.if-threshold-sums.false) w.if-last.false w.after-is
    ] in
    (omega arith, c.loop-k.invariant.1, p.0, p.1)

pub returns : goal.returns
returns c =
    let l = c.loop-k in
    let a = c.args in
    let m = a.marks in
    let e : c.loop-k.k ≡ a.n = omega arith in
    let r = tab-rest (λ q. mark_after (to_z w64 (of_z w64 a.threshold)) a.last (get_or a.sums.now q (pos 0)) (get_or m q 0)) 0 m c.loop-k.k (omega arith) in
    rw (c.loop-k.invariant.1, e, to_z-of_z c.ranges.threshold) at (c.loop-k.invariant.3 ∙ r)
