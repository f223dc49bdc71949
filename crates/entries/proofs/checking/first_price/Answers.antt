-- `entries::checking::first_price` meets its contract. The loops' invariant: no price passed is bad. Assumes nothing.
use mathlib.Core.Path.{◌≡◌, sym, ◌∙◌}
use mathlib.Core.Bool.{Bool, true, false, not, ◌&&◌}
use Prim.Native.Nat.{◌<◌, ◌+◌, ◌*◌}
use native.Mathlib.Omega.{arith}
use borrow.Author.Count.{below_more}
use borrow.Author.Rules.{rules}
use mir.Syntax.{w32}
use mir.Val.{SFits}
use lib.Dec.{eqb}
use lib.IntN.{pos}
use lib.ListN.{get_or}
use Rattle.laws.proofs.Integers.{signed}
use Rattle.entries.proofs.Founds.{some-found, none-found}
use Rattle.laws.proofs.Lists.{flat-lt, first_below-found, first_below-none}
use Rattle.entries.specs.Checking.{bad_price}
use Rattle.entries.proofs.Bads.{bad-at}
use Rattle.entries.proofs.checking.first_price.Goals as goal

pub loop-market-preserved : goal.loop-market-preserved
loop-market-preserved c =
    let tested : (b : Bool)
    → let r = c.search.region in
    let m = c.loop-market.market in
    (eqb (get_or c.args.marked.now r 0) 0 && not c.in_range.result) ≡ b → bad_price c.args.markets c.args.prices.now c.args.marked.now (r * c.args.markets + m) ≡ b = λ b e. (let r = c.search.region in
    let m = c.loop-market.market in
    let f : SFits w32 (get_or c.args.prices.now (r * c.args.markets + m) (pos 0)) = search rules in
    bad-at c.args.markets c.args.prices.now c.args.marked.now r m b c.loop-market-test.true (rw (simp (signed, f) at c.in_range.ensures) at e)) in
    let l = c.loop-market in
    let a = c.args in
    (omega arith, c.loop-market.invariant.1, λ k h. below_more (λ n. bad_price a.markets a.prices.now a.marked.now n ≡ false) _ c.loop-market.invariant.2 (tested false c.if-marked-region.false) k (omega arith))

pub returns-after-search : goal.returns-after-search
returns-after-search c =
    let q = c.search in
    let e : c.search.region ≡ c.args.regions = omega arith in
    c.search.invariant.1 ∙ none-found _ _ (sym (first_below-none _ _ (λ k h. c.search.invariant.2 k (rw e h))))

pub returns-then-marked-region : goal.returns-then-marked-region
returns-then-marked-region c =
    let here : let a = c.args in c.search.region * a.markets + c.loop-market.market < a.regions * a.markets = flat-lt _ _ _ _ c.search-test.true c.loop-market-test.true in
    let tested : (b : Bool)
    → let r = c.search.region in
    let m = c.loop-market.market in
    (eqb (get_or c.args.marked.now r 0) 0 && not c.in_range.result) ≡ b → bad_price c.args.markets c.args.prices.now c.args.marked.now (r * c.args.markets + m) ≡ b = λ b e. (let r = c.search.region in
    let m = c.loop-market.market in
    let f : SFits w32 (get_or c.args.prices.now (r * c.args.markets + m) (pos 0)) = search rules in
    bad-at c.args.markets c.args.prices.now c.args.marked.now r m b c.loop-market-test.true (rw (simp (signed, f) at c.in_range.ensures) at e)) in
    let l = c.loop-market in
    some-found _ _ _ (here) (sym (first_below-found _ _ _ (here) c.loop-market.invariant.2 (tested true c.if-marked-region.true)))
