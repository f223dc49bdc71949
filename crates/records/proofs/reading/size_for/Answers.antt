-- `records::reading::size_for` meets its contract. Assumes nothing.
use Prim.Native.Nat.{◌≤◌}
use mathlib.Core.Path.{◌≡◌, refl, ap, ◌∙◌}
use native.Mathlib.Omega.{arith}
use Rattle.records.specs.Working.{some_size}
use Rattle.records.proofs.Readings.{for-entry, for-three, for-restart, for-none}
use Rattle.records.proofs.reading.size_for.Goals as goal

pub returns-in-65 : goal.returns-in-65
returns-in-65 c = c.entry_size_at.ensures ∙ ap some_size (for-entry _ _ _ c.in-65.is _ refl)

pub returns-in-66-to-68 : goal.returns-in-66-to-68
returns-in-66-to-68 c = ap some_size (for-three _ _ _ (omega arith) (omega arith))

pub returns-in-69 : goal.returns-in-69
returns-in-69 c =
    let entry : c.args.kind ≡ 65 → ⊥ = λ e. omega arith in
    let three : 66 ≤ c.args.kind → c.args.kind ≤ 68 → ⊥ = λ a b. omega arith in
    ap some_size (for-restart _ _ _ entry three (omega arith))

pub returns-in_default : goal.returns-in_default
returns-in_default c =
    let entry : c.args.kind ≡ 65 → ⊥ = λ e. omega arith in
    let three : 66 ≤ c.args.kind → c.args.kind ≤ 68 → ⊥ = λ a b. omega arith in
    ap some_size (for-none _ _ _ entry three (λ e. omega arith))

pub returns-in_default-2 : goal.returns-in_default-2
returns-in_default-2 c =
    let entry : c.args.kind ≡ 65 → ⊥ = λ e. omega arith in
    let three : 66 ≤ c.args.kind → c.args.kind ≤ 68 → ⊥ = λ a b. omega arith in
    ap some_size (for-none _ _ _ entry three (λ e. omega arith))
