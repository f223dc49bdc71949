-- `billing::copy` meets its contract. The loop's invariant: the book's ring up to `i`, then the second one as it was. Assumes nothing.
use mathlib.Core.Path.{refl, ◌∙◌}
use Prim.Native.Nat.{◌<◌}
use native.Mathlib.Omega.{arith}
use lib.IntN.{pos}
use lib.ListN.{length, get_or, length-set}
use mir.Syntax.{w32}
use mir.Val.{SFits}
use mir.Facts.{to_z-of_z}
use borrow.Author.Rules.{rules}
use Rattle.laws.proofs.Lists.{tab-none, tab-step, tab-done}
use Rattle.laws.proofs.Joined.{tabulate-list}
use Rattle.billing.proofs.copy.Goals as goal

pub loop-i-init : goal.loop-i-init
loop-i-init c = (omega arith, refl, tab-none _ _)

pub loop-i-preserved : goal.loop-i-preserved
loop-i-preserved c =
    let l = c.loop-i in
    let a = c.args in
    let within : l.i < length l.work = omega (arith, c.requires, l.invariant.1) in
    let f : SFits w32 (get_or a.ring.now l.i (pos 0)) = search rules in (
      omega arith,
      simp length-set l.invariant.1,
      tab-step (λ k. get_or a.ring.now k (pos 0)) l.i a.work.now l.work _ l.invariant.2 (omega (arith, within, l.invariant.1)) (to_z-of_z f),
    )

pub returns : goal.returns
returns c =
    let l = c.loop-i in
    let a = c.args in
    let r = a.ring.now in
    tab-done (λ k. get_or r k (pos 0)) l.i (length r) a.work.now l.work l.invariant.2 (omega arith) (omega (arith, c.requires))
    ∙ tabulate-list (pos 0) r (length r) refl
