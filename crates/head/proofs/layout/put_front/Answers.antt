-- `head::layout::put_front` meets its contract. Assumes nothing.
use Rattle.head.proofs.Tails.{front-second}
use Rattle.head.proofs.layout.put_front.Goals as goal

pub returns-then-second : goal.returns-then-second
returns-then-second c =
    let a = c.args in record { buffer_after = front-second a.size a.second a.book a.buffer.now _ _ c.if-second.true c.put_head.ensures.book_len c.put_head.ensures.buffer_after c.put_tail.ensures; book_len = c.put_head.ensures.book_len }
