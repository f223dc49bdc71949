-- `image::loading::load_prices` meets its contract. The loop's invariant: what is still to go is the same at every turn. Assumes nothing.
use mathlib.Core.Path.{◌≡◌}
use Prim.Native.Nat.{◌-◌, ◌+◌, ◌*◌}
use lib.ListN.{length}
use lib.Seq.{sets}
use Rattle.laws.specs.Lists.{sum_from}
use Rattle.head.specs.Counted.{market_count, count_at, how_many}
use Rattle.image.specs.Loading.{windows_from, sums_from}
use Rattle.image.proofs.loading.load_prices.Given as goal

abbrev pub invariant-loop-q : goal.invariant-loop-q
invariant-loop-q l = (l.at + 4 * sum_from (market_count l.book - l.q) l.q (count_at l.book) ≡ l.from + 4 * how_many l.book) × (length l.sums ≡ 88) × (sets l.ring (l.q * l.book.window) (windows_from l.book l.bytes (market_count l.book - l.q) l.q l.at) ≡ sets l.initial.ring 0 (windows_from l.book l.bytes (market_count l.book) 0 l.from)) × (sums_from l.book l.bytes (market_count l.book - l.q) l.q l.at l.sums ≡ sums_from l.book l.bytes (market_count l.book) 0 l.from l.initial.sums)
