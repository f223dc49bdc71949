-- `publishing::Interval::any_administered` meets its contract. Assumes nothing.
use mathlib.Core.Path.{◌≡◌, refl}
use mathlib.Core.Bool.{Bool, true, false}
use Prim.Native.Nat.{ℕ}
use native.Mathlib.Omega.{arith}
use borrow.Author.Rules.{rules}
use borrow.Author.Tests.{tests}
use Rattle.std.proofs.lemmas.Iterator.{YieldsList-from_range, cases_from_any}
use Rattle.publishing.specs.Capped.{administered, any_administered}
use Rattle.publishing.proofs.Ranges.{any-of_range}
use Rattle.publishing.proofs.Interval.any_administered.Goals as goal

pub returns : goal.returns
unfolding any_administered
returns c =
    let i = c.self.inside in
    let M = i.terms.markets in
    let test : ℕ → Bool = administered i.marks.now c.args.region in
    rw (← c.self.view_is)
    (any-of_range M test c.any.result
    (cases_from_any _ _ _ (λ m. test m ≡ true) (λ m. test m ≡ false) c.any.ensures.ran (YieldsList-from_range 0 M M refl (omega arith))
    (λ x q k. search (rules, tests)) (λ x q k. search (rules, tests))))
