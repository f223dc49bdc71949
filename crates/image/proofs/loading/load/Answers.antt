-- `image::loading::load` meets its contract. Assumes nothing.
use mathlib.Core.Path.{sym, ap, ◌∙◌}
use lib.ListN.{length}
use Rattle.image.specs.Loading.{ring_of}
use Rattle.image.proofs.Verdicts.{LoadOk, ok-head}
use Rattle.image.proofs.Ways.{head-ready, loaded-refused, load_is, loaded-accepted, head-tailed}
use Rattle.image.proofs.loading.load.Goals as goal

pub invariant_of-head : goal.invariant_of-head
invariant_of-head c =
    let ok : let a = c.args in LoadOk a.bytes.now (length a.ring.now) = (let a = c.args in load_is a.bytes.now a.ring.now _ c.load_verdict-answer.ensures c.in_default.is) in
    head-tailed _ (ok-head _ (ok).head)

pub load_prices-sums-requires : goal.load_prices-sums-requires
load_prices-sums-requires c =
    let ok : let a = c.args in LoadOk a.bytes.now (length a.ring.now) = (let a = c.args in load_is a.bytes.now a.ring.now _ c.load_verdict-answer.ensures c.in_default.is) in
    let o = ok in
    let r = head-ready _ (ok-head _ o.head) _ c.book-book.ensures _ c.prices_from.ensures in
    (r.0, o.ring ∙ sym (ap ring_of c.book-book.ensures), r.1)

pub returns-in-Err : goal.returns-in-Err
returns-in-Err c =
    loaded-refused c.args.bytes.now c.args.ring.now _ c.load_verdict-answer.ensures _ _ c.in-Err.is c.closed.ensures

pub returns : goal.returns
returns c =
    let a = c.args in
    loaded-accepted a.bytes.now a.ring.now _ c.load_verdict-answer.ensures c.in_default.is _ _ _ _ c.book-book.ensures c.prices_from.ensures c.load_prices-sums.ensures.value c.load_prices-sums.ensures.ring_after
