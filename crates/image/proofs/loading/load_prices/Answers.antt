-- `image::loading::load_prices` meets its contract. The loop's invariant: what is still to go is the same at every turn. Assumes nothing.
use mathlib.Core.Path.{refl, ◌∙◌}
use Prim.Native.Nat.{ℕ, ◌≤◌, ◌+◌, ◌*◌}
use native.Mathlib.Omega.{arith}
use lib.ListN.{length, length-set}
use Rattle.laws.specs.Bytes.{price_at}
use mir.Syntax.{w64}
use mir.Val.{SFits}
use mir.Facts.{to_z-of_z}
use Rattle.book.specs.declared.record.Book.{Book}
use Rattle.head.specs.Counted.{count_at}
use Rattle.image.proofs.Walks.{Market, market, left-none, left_here, left_step, windows-none, windows-step, windows-done, sums_none, sums-step, sums-done}
use Rattle.image.proofs.Windows.{window-length, window-back}
use borrow.Author.Rules.{rules}
use Rattle.image.proofs.loading.load_prices.Goals as goal

pub loop-q-init : goal.loop-q-init
loop-q-init c =
    (left-none c.args.book c.requires.0 _, refl, windows-none _ _ _ _ _, sums_none _ _ _ _ _)

pub bounds-book-r : goal.bounds-book-r
bounds-book-r c =
    let book : Book = c.args.book in
    let q : ℕ = c.loop-q.q in
    let here : Market book q = market book c.requires.0 q c.loop-q-test.true in
    omega (arith, (here).region)

pub load_window-requires : goal.load_window-requires
load_window-requires c =
    let book : Book = c.args.book in
    let q : ℕ = c.loop-q.q in
    let here : Market book q = market book c.requires.0 q c.loop-q-test.true in
    let room : c.loop-q.at + 4 * count_at book q ≤ length c.args.bytes.now = (omega (arith, left_here book c.requires.0 q c.loop-q.at _ c.loop-q-test.true c.loop-q.invariant.0, c.requires.2)) in
    (omega (arith, here.count, window-length book q here c.loop-q.ring (c.loop-q.auto.ring ∙ c.requires.1)), room)

pub sum-requires : goal.sum-requires
sum-requires c =
    let book : Book = c.args.book in
    let q : ℕ = c.loop-q.q in
    let here : Market book q = market book c.requires.0 q c.loop-q-test.true in
    let room : c.loop-q.at + 4 * count_at book q ≤ length c.args.bytes.now = (omega (arith, left_here book c.requires.0 q c.loop-q.at _ c.loop-q-test.true c.loop-q.invariant.0, c.requires.2)) in
    (omega (arith, here.count, here.window), search rules)

pub bounds-sums-place : goal.bounds-sums-place
bounds-sums-place c =
    let book : Book = c.args.book in
    let q : ℕ = c.loop-q.q in
    let here : Market book q = market book c.requires.0 q c.loop-q-test.true in
    omega (arith, (here).place)

pub loop-q-preserved : goal.loop-q-preserved
loop-q-preserved c =
    let book : Book = c.args.book in
    let q : ℕ = c.loop-q.q in
    let l = c.loop-q in
    let t = c.args.bytes.now in
    let here : Market book q = market book c.requires.0 q c.loop-q-test.true in
    let back = window-back book q here l.ring (l.auto.ring ∙ c.requires.1) t l.at c.load_window.new.window c.load_window.auto.window c.load_window.ensures in
    let v : SFits w64 c.sum.result = search rules in (
      left_step book c.requires.0 q l.at _ c.loop-q-test.true l.invariant.0,
      simp length-set l.invariant.1,
      rw back (windows-step book t _ _ _ _ _ c.loop-q-test.true l.invariant.2),
      sums-step book t _ _ _ _ _ _ c.loop-q-test.true (to_z-of_z v ∙ c.sum.ensures.total (price_at t l.at) (λ i z h p. search rules)) l.invariant.3,
    )

pub returns : goal.returns
returns c =
    let l = c.loop-q in record { value = sums-done _ _ _ _ _ _ _ (omega arith) c.loop-q.invariant.3; ring_after = windows-done _ _ _ _ _ _ _ _ _ (omega arith) c.requires.1 c.loop-q.invariant.2 }
