-- `planning::market_left` meets its contract. Assumes nothing.
use Prim.Native.Nat.{◌<◌, ◌≤◌, ◌+◌, ◌*◌}
use native.Mathlib.Omega.{arith}
use lib.IntN.{pos}
use lib.ListN.{get_or}
use mir.Syntax.{w32, w64}
use mir.Val.{SFits}
use mir.Facts.{to_z-of_z}
use Rattle.book.specs.Record.{markets_of, place_of}
use Rattle.planning.proofs.Ways.{small, window-ok, number_is}
use borrow.Author.Rules.{rules}
use Rattle.planning.proofs.market_left.Goals as goal

pub bounds-book-region : goal.bounds-book-region
bounds-book-region c =
    let sized : let a = c.args in let q = a.region * markets_of a.book.services + a.market in
    (a.region < 8) × (place_of a.region a.market < 88) × (q < 88) × (q * a.book.window ≤ 177408) × (get_or a.book.counts a.region 0 ≤ 2016) = (let a = c.args in small a.book a.ring.now a.region a.market c.requires) in
    (sized).0

pub bounds-book-region-2 : goal.bounds-book-region-2
bounds-book-region-2 c =
    let sized : let a = c.args in let q = a.region * markets_of a.book.services + a.market in
    (a.region < 8) × (place_of a.region a.market < 88) × (q < 88) × (q * a.book.window ≤ 177408) × (get_or a.book.counts a.region 0 ≤ 2016) = (let a = c.args in small a.book a.ring.now a.region a.market c.requires) in
    (sized).0

pub bounds-book-region-3 : goal.bounds-book-region-3
bounds-book-region-3 c =
    let sized : let a = c.args in let q = a.region * markets_of a.book.services + a.market in
    (a.region < 8) × (place_of a.region a.market < 88) × (q < 88) × (q * a.book.window ≤ 177408) × (get_or a.book.counts a.region 0 ≤ 2016) = (let a = c.args in small a.book a.ring.now a.region a.market c.requires) in
    (sized).1

pub overflow_mul-q-2 : goal.overflow_mul-q-2
overflow_mul-q-2 c =
    let sized : let a = c.args in let q = a.region * markets_of a.book.services + a.market in
    (a.region < 8) × (place_of a.region a.market < 88) × (q < 88) × (q * a.book.window ≤ 177408) × (get_or a.book.counts a.region 0 ≤ 2016) = (let a = c.args in small a.book a.ring.now a.region a.market c.requires) in
    omega (arith, (sized).3)

pub least_above-requires : goal.least_above-requires
least_above-requires c =
    let a = c.args in
    let f : SFits w64 (get_or a.book.sums (place_of a.region a.market) (pos 0)) = search rules in
    rw (to_z-of_z f) (window-ok a.book a.ring.now a.region a.market c.requires _ c.oldest-start.ensures)

pub returns : goal.returns
returns c =
    let a = c.args in
    let price-fits : SFits w32 a.price = search rules in
    let threshold-fits : SFits w64 a.book.threshold = search rules in
    let n = rw (to_z-of_z price-fits, to_z-of_z threshold-fits) at c.least_above.ensures.value in
    number_is a.book a.ring.now a.region a.market c.requires _ _ a.price c.oldest-start.ensures n
