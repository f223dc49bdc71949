-- `entries::checking::first_mark` meets its contract. The loop's invariant: every mark passed is 0 or 1. Assumes nothing.
use mathlib.Core.Path.{sym, ap}
use mathlib.Core.Bool.{not}
use native.Mathlib.Omega.{arith}
use borrow.Author.Tests.{lt-leb}
use Rattle.entries.proofs.Founds.{some-found, none-found}
use Rattle.laws.proofs.Lists.{first_below-found, first_below-none}
use Rattle.entries.proofs.checking.first_mark.Goals as goal

pub returns-then-not-marked-r : goal.returns-then-not-marked-r
returns-then-not-marked-r c =
    some-found _ _ c.loop-r.r (omega arith) (sym (first_below-found _ c.loop-r.r _ (omega arith) c.loop-r.invariant.1 (ap not (lt-leb _ _ c.if-not-marked-r.true))))

pub returns : goal.returns
returns c =
    none-found _ _ (sym (first_below-none _ _ (λ i h. c.loop-r.invariant.1 i (omega arith))))
