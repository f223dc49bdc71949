-- `schedule::has_kind` meets its contract. Assumes nothing.
use mathlib.Core.Path.{◌≡◌, ap, ◌∙◌}
use mathlib.Core.Bool.{Bool}
use lib.Dec.{eqb}
use Prim.Native.Nat.{ℕ}
use Rattle.std.specs.List.{list_any}
use Rattle.laws.specs.Lists.{any_below}
use Rattle.schedule.proofs.Chains.{at, any-is}
use Rattle.schedule.proofs.has_kind.Goals as goal

pub returns : goal.returns
returns c =
    let kinds = c.args.kinds.now in
    let same : ℕ → Bool = λ k. eqb k c.args.kind in
    let some : c.contains.result ≡ list_any same kinds = c.contains.ensures.value in
    some ∙ any-is same 0 kinds ∙ ap (λ (n : ℕ). any_below n (at same 0 kinds)) c.requires
