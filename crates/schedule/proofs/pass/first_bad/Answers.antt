-- `schedule::pass::first_bad` meets its contract. The loop's invariant: every price passed is in range. Assumes nothing.
use mathlib.Core.Path.{◌≡◌, sym, ap, ◌∙◌}
use mathlib.Core.Bool.{not}
use native.Mathlib.Omega.{arith}
use borrow.Author.Tests.{lt-ltb, le-ltb}
use Prim.Native.Nat.{◌+◌}
use borrow.Author.Rules.{rules}
use lib.IntN.{pos}
use lib.ListN.{get_or}
use mir.Syntax.{w32}
use mir.Val.{SFits}
use Rattle.laws.proofs.Integers.{signed}
use Rattle.laws.proofs.Lists.{first_below-found, first_below-none}
use Rattle.pricing.specs.Holding.{is_energy, in_range}
use Rattle.schedule.proofs.pass.first_bad.Goals as goal

pub returns-then-not-in_range : goal.returns-then-not-in_range
returns-then-not-in_range c =
    let tested : c.in_range.result ≡ in_range (is_energy c.args.market) (get_or c.args.six c.loop-k.k (pos 0)) = (let f : SFits w32 (get_or c.args.six c.loop-k.k (pos 0)) = search rules in
    simp (signed, f) at c.in_range.ensures) in
    let l = c.loop-k in
    let a = c.args in
    rw (
      first_below-found 6 c.loop-k.k (λ j. not (in_range (is_energy a.market) (get_or a.six j (pos 0)))) (omega arith) c.loop-k.invariant.2 (ap not (sym tested ∙ c.if-not-in_range.true)),
      lt-ltb (a.from + c.loop-k.k) (a.from + 6) (omega arith),
    )

pub returns : goal.returns
returns c =
    let a = c.args in
    rw (
      first_below-none 6 (λ j. not (in_range (is_energy a.market) (get_or a.six j (pos 0)))) (λ i h. c.loop-k.invariant.2 i (omega arith)),
      le-ltb (a.from + 6) (a.from + 6) (omega arith),
    )
