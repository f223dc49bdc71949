-- `planning::intervals_left` meets its contract. Assumes nothing.
use mathlib.Core.Path.{◌≡◌}
use mir.Syntax.{w32}
use mir.Val.{SFits}
use mir.Facts.{to_z-of_z}
use Rattle.book.specs.Record.{verdict}
use Rattle.planning.specs.Left.{left_verdict, market_left}
use Rattle.planning.proofs.Ways.{left_is, planned-refused, planned-accepted}
use borrow.Author.Rules.{rules}
use Rattle.planning.proofs.intervals_left.Goals as goal

pub market_left-n-requires : goal.market_left-n-requires
market_left-n-requires c =
    let said : let a = c.args in
    verdict c.left_verdict-answer.result ≡ left_verdict a.book a.ring.now a.region a.market a.price = (let f : SFits w32 c.args.price = search rules in
    rw (to_z-of_z f) at c.left_verdict-answer.ensures) in
    let a = c.args in
    left_is a.book a.ring.now a.region a.market a.price _ (said) c.in_default.is

pub returns-in-Err : goal.returns-in-Err
returns-in-Err c =
    let said : let a = c.args in
    verdict c.left_verdict-answer.result ≡ left_verdict a.book a.ring.now a.region a.market a.price = (let f : SFits w32 c.args.price = search rules in
    rw (to_z-of_z f) at c.left_verdict-answer.ensures) in
    let a = c.args in
    planned-refused a.book a.ring.now a.region a.market a.price _ (said) _ c.in-Err.is

pub returns : goal.returns
returns c =
    let said : let a = c.args in
    verdict c.left_verdict-answer.result ≡ left_verdict a.book a.ring.now a.region a.market a.price = (let f : SFits w32 c.args.price = search rules in
    rw (to_z-of_z f) at c.left_verdict-answer.ensures) in
    let a = c.args in
    let f : SFits w32 a.price = search rules in
    let n : c.market_left-n.result ≡ market_left a.book a.ring.now a.region a.market a.price =
    rw (to_z-of_z f) at c.market_left-n.ensures in
    planned-accepted a.book a.ring.now a.region a.market a.price _ (said) c.in_default.is _ n
