-- `image::loading::price_verdict` meets its contract. The loop's invariant: the first bad price of the markets still to go is that of all. Assumes nothing.
use mathlib.Core.Path.{◌≡◌}
use Prim.Native.Nat.{◌-◌, ◌+◌, ◌*◌}
use Rattle.laws.specs.Lists.{sum_from}
use Rattle.head.specs.Counted.{market_count, count_at, how_many}
use Rattle.image.specs.Loading.{bad_from}
use Rattle.image.proofs.loading.price_verdict.Given as goal

abbrev pub invariant-loop-q : goal.invariant-loop-q
invariant-loop-q l = (l.from + 4 * l.k + 4 * sum_from (market_count l.book - l.q) l.q (count_at l.book) ≡ l.from + 4 * how_many l.book) × (bad_from l.book l.bytes l.from (market_count l.book - l.q) l.q l.k ≡ bad_from l.book l.bytes l.from (market_count l.book) 0 0)
