-- `head::layout::put_tail` meets its contract. Assumes nothing.
use mathlib.Core.Path.{refl}
use Rattle.head.proofs.Tails.{tail-puts}
use Rattle.head.proofs.layout.put_tail.Goals as goal

pub returns : goal.returns
returns c =
    let b = c.args.book in
    tail-puts _ _ _ _ _ _ b.from b.to refl refl c.put.ensures c.put-2.ensures c.put-3.ensures c.put-4.ensures
