-- `book_calls::opening::open` meets its contract. Assumes nothing.
use Rattle.book_calls.proofs.Ways.{opened-refused, opened-accepted}
use borrow.Author.Rules.{rules}
use Rattle.book_calls.proofs.opening.open.Goals as goal

pub returns-in-Err : goal.returns-in-Err
returns-in-Err c =
    opened-refused c.args.settings c.args.ring.now _ c.open_verdict-answer.ensures _ _ c.in-Err.is c.closed.ensures

pub returns : goal.returns
returns c =
    opened-accepted c.args.settings c.args.ring.now _ c.open_verdict-answer.ensures _ _ c.in_default.is c.fresh.ensures (search rules)
