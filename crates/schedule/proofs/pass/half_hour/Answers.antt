-- `schedule::pass::half_hour` meets its contract. Assumes nothing.
use mathlib.Core.Path.{ap, sym, ◌∙◌}
use Prim.Native.Nat.{ℕ, ◌+◌}
use native.Mathlib.Nat.{add-zero}
use lib.IntN.{ℤ, pos}
use lib.ListN.{get_or}
use mir.Syntax.{w32}
use mir.Val.{SFits}
use mir.Facts.{to_z-of_z}
use Rattle.schedule.proofs.Schedules.{six-are}
use borrow.Author.Rules.{rules}
use Rattle.schedule.proofs.pass.half_hour.Goals as goal

pub returns : goal.returns
returns c =
    let a = c.args in
    let price : ℕ → ℤ = λ k. get_or a.prices.now k (pos 0) in
    let f0 : SFits w32 (price a.from) = search rules in
    let f1 : SFits w32 (price (a.from + 1)) = search rules in
    let f2 : SFits w32 (price (a.from + 2)) = search rules in
    let f3 : SFits w32 (price (a.from + 3)) = search rules in
    let f4 : SFits w32 (price (a.from + 4)) = search rules in
    let f5 : SFits w32 (price (a.from + 5)) = search rules in
    six-are (λ j. price (a.from + j)) (to_z-of_z f0 ∙ ap price (sym (add-zero a.from))) (to_z-of_z f1) (to_z-of_z f2) (to_z-of_z f3) (to_z-of_z f4) (to_z-of_z f5)
