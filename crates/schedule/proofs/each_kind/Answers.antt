-- `schedule::each_kind` meets its contract. Assumes nothing.
use mathlib.Core.Path.{ap, ◌∙◌}
use mathlib.Core.Bool.{Bool}
use lib.Dec.{leb}
use Prim.Native.Nat.{ℕ}
use borrow.Author.Rules.{rules}
use Rattle.std.specs.Prelude.{IsTrue, ◌↔◌, All}
use Rattle.laws.specs.Lists.{all_below}
use Rattle.schedule.proofs.Chains.{at, all-is}
use Rattle.schedule.proofs.each_kind.Goals as goal

pub returns : goal.returns
returns c =
    let kinds = c.args.kinds.now in
    let known : ℕ → Bool = λ k. leb k 1 in
    let each : IsTrue c.all.result ↔ All (λ k. IsTrue (leb k 1)) kinds = search rules in
    all-is known 0 kinds c.all.result each ∙ ap (λ (n : ℕ). all_below n (at known 0 kinds)) c.requires
