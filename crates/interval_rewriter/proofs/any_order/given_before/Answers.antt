-- `interval_rewriter::any_order::given_before` meets its contract. The loop's invariant: no record passed is the region's. Assumes nothing.
use mathlib.Core.Path.{sym, ◌∙◌}
use mathlib.Core.Bool.{Bool}
use Prim.Native.Nat.{ℕ}
use native.Mathlib.Omega.{arith}
use borrow.Author.Tests.{eq-eqb, ne_eqb}
use lib.Dec.{eqb}
use Rattle.laws.proofs.Lists.{any_below-none, any_below-step, at-any}
use Rattle.interval_records.specs.Record.{region_at}
use Rattle.interval_rewriter.proofs.any_order.given_before.Goals as goal

pub loop-j-init : goal.loop-j-init
loop-j-init c = sym (any_below-none _)

pub returns-then-get_u8-region : goal.returns-then-get_u8-region
returns-then-get_u8-region c = sym (at-any c.args.k _ c.loop-j.j (omega arith) (eq-eqb _ _ (sym c.get_u8.ensures ∙ c.if-get_u8-region.true)))

pub loop-j-preserved : goal.loop-j-preserved
loop-j-preserved c =
    let a = c.args in
    let t : ℕ → Bool = λ i. eqb (region_at a.markets a.bytes.now a.first i) a.region in
    sym (any_below-step c.loop-j.j t (sym c.loop-j.invariant) (sym (ne_eqb _ _ (λ e. c.if-get_u8-region.false (c.get_u8.ensures ∙ e)))))
