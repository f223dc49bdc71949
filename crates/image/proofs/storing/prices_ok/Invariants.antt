-- `image::storing::prices_ok` meets its contract. The loop's invariant: every market passed is in order. Assumes nothing.
use mathlib.Core.Path.{◌≡◌}
use Rattle.laws.specs.Lists.{all_below}
use Rattle.image.specs.Storing.{market_ok}
use Rattle.image.proofs.storing.prices_ok.Given as goal

abbrev pub invariant-loop-q : goal.invariant-loop-q
invariant-loop-q l = l.ok ≡ all_below l.q (market_ok l.book l.ring)
