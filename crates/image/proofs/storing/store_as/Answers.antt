-- `image::storing::store_as` meets its contract. Assumes nothing.
use native.Mathlib.Omega.{arith}
use lib.ListN.{length}
use Rattle.book.proofs.Validities.{is-valid}
use Rattle.image.proofs.Verdicts.{StoreOk}
use Rattle.image.proofs.Ways.{stored_refused, store_is, stored-accepted}
use Rattle.image.proofs.storing.store_as.Goals as goal

pub put_front-requires : goal.put_front-requires
put_front-requires c =
    let ok : let a = c.args in StoreOk a.second a.book a.ring.now (length a.buffer.now) = (let a = c.args in store_is a.second a.book a.ring.now a.buffer.now _ c.store_verdict-answer.ensures c.in_default.is) in
    omega (arith, (ok).room)

pub put_prices-requires : goal.put_prices-requires
put_prices-requires c =
    let ok : let a = c.args in StoreOk a.second a.book a.ring.now (length a.buffer.now) = (let a = c.args in store_is a.second a.book a.ring.now a.buffer.now _ c.store_verdict-answer.ensures c.in_default.is) in
    let o = ok in
    (is-valid _ o.book, o.ring-size, omega (arith, o.room, c.head_size.ensures, c.put_front.auto.buffer))

pub returns-in-Err : goal.returns-in-Err
returns-in-Err c =
    let a = c.args in
    stored_refused a.second a.book a.ring.now a.buffer.now _ c.store_verdict-answer.ensures _ c.in-Err.is

pub returns : goal.returns
returns c =
    let a = c.args in
    stored-accepted a.second a.book a.ring.now a.buffer.now _ c.store_verdict-answer.ensures c.in_default.is _ _ _ _ c.image_length-size.ensures.0 c.head_size.ensures c.put_front.ensures.buffer_after c.put_front.ensures.book_len c.put_prices.ensures
