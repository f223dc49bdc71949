-- `entries::checking::first_factor` meets its contract. The loop's invariant: no factor passed is bad. Assumes nothing.
use mathlib.Core.Path.{sym}
use native.Mathlib.Omega.{arith}
use Rattle.entries.proofs.Founds.{some-found, none-found}
use Rattle.laws.proofs.Lists.{first_below-found, first_below-none}
use Rattle.entries.proofs.checking.first_factor.Goals as goal

pub returns-then-looked-factors : goal.returns-then-looked-factors
returns-then-looked-factors c =
    let l = c.loop-r in
    let looked = c.has_factor-looked.ensures in
    some-found _ _ c.loop-r.r (omega arith) (sym (first_below-found _ c.loop-r.r _ (omega arith) c.loop-r.invariant.1 (rw (← looked) c.if-looked-factors.true)))

pub returns : goal.returns
returns c =
    none-found _ _ (sym (first_below-none _ _ (λ i h. c.loop-r.invariant.1 i (omega arith))))
