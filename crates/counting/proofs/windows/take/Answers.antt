-- `counting::windows::take` meets its contract. The loop's invariant: sums and ring are as after the regions passed. Assumes nothing.
use mathlib.Core.Path.{◌≡◌, refl, ◌∙◌}
use Prim.Native.Nat.{◌≤◌}
use native.Mathlib.Omega.{arith}
use borrow.Author.Rules.{rules}
use lib.ListN.{length}
use Rattle.book.proofs.Validities.{valid-is}
use Rattle.counting.specs.Working.{offered}
use Rattle.counting.proofs.Takings.{sums_none, ring-none, region-ok, turned, passed}
use Rattle.counting.proofs.windows.take.Goals as goal
use Rattle.counting.proofs.windows.take.Goals.{then-marked-r-eq0, else-marked-r-eq0}

pub loop-r-init : goal.loop-r-init
loop-r-init c =
    let a = c.args in
    let n : length a.book.sums ≡ 88 = search rules in
    let o = offered a.prices.now a.marked.now in
    (omega arith, refl, ring-none a.book a.ring.now o, sums_none a.book a.ring.now o n)

pub bounds-book-r : goal.bounds-book-r
bounds-book-r c =
    let small : c.args.book.regions ≤ 8 = (valid-is c.args.book c.requires.valid).regions in
    omega (arith, small)

pub bounds-book-r-then-marked-r-eq0 : goal.bounds-book-r-then-marked-r-eq0
bounds-book-r-then-marked-r-eq0 c =
    let small : c.args.book.regions ≤ 8 = (valid-is c.args.book c.requires.valid).regions in
    omega (arith, small)

pub take-requires : goal.take-requires
take-requires c =
    let a = c.args in
    let l = c.loop-r in
    let v = valid-is a.book c.requires.valid in
    rw (c.loop-r.invariant.1, c.loop-r.invariant.3) (region-ok a.book v a.ring.now (offered a.prices.now a.marked.now) c.loop-r.r c.loop-r-test.true _ c.requires.prices-size c.requires.ring-size)

pub loop-r-preserved : goal.loop-r-preserved
loop-r-preserved c =
    let a = c.args in
    let l = c.loop-r in
    let v = valid-is a.book c.requires.valid in
    let o = offered a.prices.now a.marked.now in
    let j = c.if-marked-r-eq0 in
    elim j.branch [
      | then-marked-r-eq0 w ↦
          let p = turned a.book v a.ring.now o l.r c.loop-r-test.true c.requires.ring-size _ _ _ _ l.invariant.2 l.invariant.3 w.if-marked-r-eq0.true (w.ring-is ∙ w.take.ensures.ring_after) (w.sums-is ∙ w.take.ensures.sums_after) in
          (omega arith, j.auto.ring ∙ l.invariant.1, p.0, p.1)
      | else-marked-r-eq0 w ↦
          let p = passed a.book a.ring.now o l.r _ _ _ _ l.invariant.2 l.invariant.3 w.if-marked-r-eq0.false w.ring-is w.sums-is in
          (omega arith, j.auto.ring ∙ l.invariant.1, p.0, p.1)
    ]
