-- `image::storing::prices_ok` meets its contract. The loop's invariant: every market passed is in order. Assumes nothing.
use mathlib.Core.Path.{◌∙◌}
use Prim.Native.Nat.{ℕ, ◌%◌}
use native.Mathlib.Omega.{arith}
use lib.IntN.{pos}
use lib.ListN.{get_or}
use mir.Syntax.{w64}
use mir.Val.{SFits}
use mir.Facts.{to_z-of_z}
use Rattle.laws.proofs.Lists.{all_below-step, all_below-none}
use Rattle.book.specs.declared.record.Book.{Book}
use Rattle.book.specs.Record.{markets_of}
use Rattle.image.proofs.Readings.{place_at}
use Rattle.image.proofs.Walks.{Market, market}
use Rattle.image.proofs.Windows.{in-window, window-length, window-ok}
use borrow.Author.Rules.{rules}
use Rattle.image.proofs.storing.prices_ok.Goals as goal

pub loop-q-init : goal.loop-q-init
loop-q-init c = all_below-none _

pub bounds-book-r : goal.bounds-book-r
bounds-book-r c =
    let book : Book = c.args.book in
    let q : ℕ = c.loop-q.q in
    let here : Market book q = market book c.requires.0 q c.loop-q-test.true in
    omega (arith, (here).region)

pub bounds-book-r-in-loop-q : goal.bounds-book-r-in-loop-q
bounds-book-r-in-loop-q c =
    let book : Book = c.args.book in
    let q : ℕ = c.loop-q.q in
    let here : Market book q = market book c.requires.0 q c.loop-q-test.true in
    omega (arith, (here).region)

pub bounds-book-r-in-loop-q-2 : goal.bounds-book-r-in-loop-q-2
bounds-book-r-in-loop-q-2 c =
    let book : Book = c.args.book in
    let q : ℕ = c.loop-q.q in
    let here : Market book q = market book c.requires.0 q c.loop-q-test.true in
    (here).place

pub window_ok-ok-requires : goal.window_ok-ok-requires
window_ok-ok-requires c =
    let book : Book = c.args.book in
    let q : ℕ = c.loop-q.q in
    let here : Market book q = market book c.requires.0 q c.loop-q-test.true in record {
      in_window = in-window book q here c.args.ring.now c.requires.1 _ c.oldest-start.ensures;
      few = omega (arith, here.window, window-length book q here c.args.ring.now c.requires.1);
    }

pub loop-q-preserved : goal.loop-q-preserved
loop-q-preserved c =
    let book : Book = c.args.book in
    let q : ℕ = c.loop-q.q in
    let here : Market book q = market book c.requires.0 q c.loop-q-test.true in
    let s = get_or book.sums (place_at book q) (pos 0) in
    let h : SFits w64 s = search rules in
    let o = simp to_z-of_z at c.window_ok-ok.ensures in
    all_below-step _ _ c.loop-q.invariant (o ∙ window-ok book q here c.args.ring.now c.requires.1 _ c.oldest-start.ensures (q % markets_of book.services) s)
