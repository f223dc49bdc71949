-- `schedule::pass::all_in_range` meets its contract. Assumes nothing.
use mathlib.Core.Path.{◌≡◌, ap, ◌∙◌}
use mathlib.Core.Bool.{false}
use Prim.Native.Nat.{ℕ}
use borrow.Author.Rules.{rules}
use borrow.Author.Tests.{ne_eqb}
use lib.IntN.{pos}
use lib.ListN.{length}
use Rattle.std.specs.Prelude.{IsTrue, ◌↔◌, All}
use Rattle.laws.specs.Lists.{all_below}
use Rattle.pricing.specs.Holding.{is_energy, in_range}
use Rattle.schedule.proofs.Chains.{at, all-is}
use Rattle.schedule.proofs.pass.all_in_range.Goals as goal

pub returns-then-market-eq0 : goal.returns-then-market-eq0
returns-then-market-eq0 c =
    let six = c.args.six in
    let size : length six ≡ 6 = search rules in
    let each : IsTrue c.all.result ↔ All (λ z. IsTrue (in_range (is_energy 0) z)) six = search rules in
    rw c.if-market-eq0.true
    (all-is (in_range (is_energy 0)) (pos 0) six c.all.result each ∙ ap (λ (n : ℕ). all_below n (at (in_range (is_energy 0)) (pos 0) six)) size)

pub returns-else-market-eq0 : goal.returns-else-market-eq0
returns-else-market-eq0 c =
    let six = c.args.six in
    let size : length six ≡ 6 = search rules in
    let side : is_energy c.args.market ≡ false = ne_eqb c.args.market 0 c.if-market-eq0.false in
    let each : IsTrue c.all-else-market-eq0.result ↔ All (λ z. IsTrue (in_range (is_energy 1) z)) six = search rules in
    rw side
    (all-is (in_range (is_energy 1)) (pos 0) six c.all-else-market-eq0.result each ∙ ap (λ (n : ℕ). all_below n (at (in_range (is_energy 1)) (pos 0) six)) size)
