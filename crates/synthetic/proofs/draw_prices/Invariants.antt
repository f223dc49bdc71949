-- `synthetic::draw_prices` meets its contract. The loop's invariant: `s` is the seed after `q` draws, prices are drawn up to `q`.
-- Assumes nothing.
use mathlib.Core.Path.{◌≡◌}
use mathlib.Core.List.{◌++◌}
use Prim.Native.Nat.{ℕ, ◌%◌, ◌≤◌}
use lib.IntN.{ℤ}
use lib.ListN.{length, drop}
use Rattle.laws.specs.Lists.{tabulate}
use Rattle.drawing.specs.Drawing.{seed_after, drawn, price_of}
use Rattle.synthetic.proofs.draw_prices.Given as goal

abbrev price : ℕ → ℕ → ℕ → ℤ
price markets seed q = price_of (q % markets) (drawn seed q)

abbrev pub invariant-loop-q : goal.invariant-loop-q
invariant-loop-q l =
    (l.q ≤ length l.initial.prices)
    × (length l.prices ≡ length l.initial.prices)
    × (l.s ≡ seed_after l.q l.seed)
    × (l.prices ≡ tabulate l.q (price l.markets l.seed) ++ drop l.q l.initial.prices)
