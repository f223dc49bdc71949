-- `synthetic::draw_links` meets its contract. The loop's invariant: `s` is the seed after two draws a turn, flows and factors are drawn
-- up to `r`. Assumes nothing.
use mathlib.Core.Path.{◌≡◌}
use mathlib.Core.List.{◌++◌}
use Prim.Native.Nat.{ℕ, ◌+◌, ◌*◌, ◌≤◌}
use lib.IntN.{ℤ}
use lib.ListN.{length, drop}
use Rattle.laws.specs.Lists.{tabulate}
use Rattle.drawing.specs.Drawing.{seed_after, drawn, flow_of, factor_of}
use Rattle.synthetic.proofs.draw_links.Given as goal

abbrev flow : ℕ → ℕ → ℤ
flow seed r = flow_of (drawn seed (2 * r))

abbrev factor : ℕ → ℕ → ℕ
factor seed r = factor_of (drawn seed (2 * r + 1))

abbrev pub invariant-loop-r : goal.invariant-loop-r
invariant-loop-r l =
    (l.r ≤ length l.initial.flows)
    × (length l.flows ≡ length l.initial.flows)
    × (length l.factors ≡ length l.initial.factors)
    × (l.s ≡ seed_after (2 * l.r) l.seed)
    × (l.flows ≡ tabulate l.r (flow l.seed) ++ drop l.r l.initial.flows)
    × (l.factors ≡ tabulate l.r (factor l.seed) ++ drop l.r l.initial.factors)
