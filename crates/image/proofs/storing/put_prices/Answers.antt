-- `image::storing::put_prices` meets its contract. The loop's invariant: what is still to go is the same at every turn. Assumes nothing.
use mathlib.Core.Path.{ap, ◌∙◌}
use Prim.Native.Nat.{ℕ, ◌≤◌, ◌+◌, ◌*◌}
use native.Mathlib.Omega.{arith}
use mathlib.Core.List.{List}
use lib.IntN.{ℤ}
use lib.ListN.{length}
use lib.Seq.{sets}
use Rattle.laws.proofs.Lists.{length_run}
use Rattle.laws.specs.Bytes.{words}
use Rattle.book.specs.declared.record.Book.{Book}
use Rattle.head.specs.Counted.{count_at, in_order}
use Rattle.image.proofs.Walks.{Market, market, left-none, left_here, left_step, joined-none, joined_step, joined-done}
use Rattle.image.proofs.Windows.{in-window, window-order}
use Rattle.image.proofs.storing.put_prices.Goals as goal

pub loop-q-init : goal.loop-q-init
loop-q-init c = (left-none c.args.book c.requires.0 _, joined-none _ _ _ _)

pub bounds-book-r : goal.bounds-book-r
bounds-book-r c =
    let book : Book = c.args.book in
    let q : ℕ = c.loop-q.q in
    let here : Market book q = market book c.requires.0 q c.loop-q-test.true in
    omega (arith, (here).region)

pub bounds-book-r-in-loop-q : goal.bounds-book-r-in-loop-q
bounds-book-r-in-loop-q c =
    let book : Book = c.args.book in
    let q : ℕ = c.loop-q.q in
    let here : Market book q = market book c.requires.0 q c.loop-q-test.true in
    omega (arith, (here).region)

pub put_window-requires : goal.put_window-requires
put_window-requires c =
    let book : Book = c.args.book in
    let q : ℕ = c.loop-q.q in
    let here : Market book q = market book c.requires.0 q c.loop-q-test.true in
    let room : c.loop-q.at + 4 * count_at book q ≤ length c.loop-q.buffer = (omega (arith, left_here book c.requires.0 q c.loop-q.at _ c.loop-q-test.true c.loop-q.invariant.0, c.requires.2, c.loop-q.auto.buffer)) in record {
      in_window = in-window book q here c.args.ring.now c.requires.1 _ c.oldest-start.ensures;
      room = room;
    }

pub loop-q-preserved : goal.loop-q-preserved
loop-q-preserved c =
    let q : ℕ = c.loop-q.q in
    let book : Book = c.args.book in
    let l = c.loop-q in
    let g = c.args.ring.now in
    let here : Market book q = market book c.requires.0 q c.loop-q-test.true in
    let w = c.put_window.ensures ∙ ap (λ (x : List ℤ). sets l.buffer l.at (words x)) (window-order book q here g c.requires.1 _ c.oldest-start.ensures) in (
      left_step book c.requires.0 q l.at _ c.loop-q-test.true l.invariant.0,
      rw w (joined_step (in_order book g) _ _ _ _ _ _ c.loop-q-test.true (length_run _ (count_at book q) 0) l.invariant.1),
    )

pub returns : goal.returns
returns c = joined-done _ _ _ _ _ _ (omega arith) c.loop-q.invariant.1
