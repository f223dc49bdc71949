-- `image::storing::put_prices` meets its contract. The loop's invariant: what is still to go is the same at every turn. Assumes nothing.
use mathlib.Core.Path.{◌≡◌}
use Prim.Native.Nat.{◌-◌, ◌+◌, ◌*◌}
use lib.Seq.{sets}
use Rattle.laws.specs.Lists.{joined, sum_from}
use Rattle.laws.specs.Bytes.{words}
use Rattle.head.specs.Counted.{market_count, count_at, how_many, in_order, counted}
use Rattle.image.proofs.storing.put_prices.Given as goal

abbrev pub invariant-loop-q : goal.invariant-loop-q
invariant-loop-q l = (l.at + 4 * sum_from (market_count l.book - l.q) l.q (count_at l.book) ≡ l.from + 4 * how_many l.book) × (sets l.buffer l.at (words (joined (market_count l.book - l.q) l.q (in_order l.book l.ring))) ≡ sets l.initial.buffer l.from (words (counted l.book l.ring)))
