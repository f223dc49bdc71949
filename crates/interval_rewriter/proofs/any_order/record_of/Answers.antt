-- `interval_rewriter::any_order::record_of` meets its contract. The loop's invariant: no record passed is of the region. Assumes nothing.
use mathlib.Core.Path.{sym, ◌∙◌}
use native.Mathlib.Omega.{arith}
use borrow.Author.Tests.{eq-eqb}
use Rattle.laws.proofs.Lists.{first_below-found, first_below-none}
use Rattle.interval_rewriter.proofs.Rewrites.{found-some, found-none}
use Rattle.interval_rewriter.proofs.any_order.record_of.Goals as goal

pub returns-then-get_u8-region : goal.returns-then-get_u8-region
returns-then-get_u8-region c =
    let l = c.loop-k in
    let a = c.args in
    found-some a.regions l.k _ (omega arith) (first_below-found _ l.k _ (omega arith) l.invariant.1 (eq-eqb _ _ (sym c.get_u8.ensures ∙ c.if-get_u8-region.true)))

pub returns : goal.returns
returns c =
    let l = c.loop-k in
    let a = c.args in
    found-none a.regions _ (first_below-none _ _ (λ i h. l.invariant.1 i (omega arith)))
