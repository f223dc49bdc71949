-- `image::loading::price_verdict` meets its contract. The loop's invariant: the first bad price of the markets still to go is that of all. Assumes nothing.
use mathlib.Core.Path.{refl, sym, ◌∙◌}
use Prim.Native.Nat.{ℕ, ◌≤◌, ◌<◌, ◌+◌, ◌*◌}
use native.Mathlib.Omega.{arith}
use lib.ListN.{length}
use Rattle.book.specs.declared.record.Book.{Book}
use Rattle.head.specs.Counted.{count_at, how_many}
use Rattle.image.proofs.Walks.{Market, market, left-none, left_here, left_step, left_done, bad-none, bad-here, bad-step, bad-done, price-16, price-0}
use Rattle.image.proofs.Runs.{found-some, found-none}
use Rattle.image.proofs.loading.price_verdict.Goals as goal

pub loop-q-init : goal.loop-q-init
loop-q-init c = (omega (arith, left-none c.args.book c.requires.0 c.args.from), bad-none _ _ _ _)

pub bounds-book-q : goal.bounds-book-q
bounds-book-q c =
    let book : Book = c.args.book in
    let q : ℕ = c.loop-q.q in
    let here : Market book q = market book c.requires.0 q c.loop-q-test.true in
    omega (arith, (here).region)

pub bad_in-requires : goal.bad_in-requires
bad_in-requires c =
    let book : Book = c.args.book in
    let q : ℕ = c.loop-q.q in
    let room : c.args.from + 4 * c.loop-q.k + 4 * count_at book q ≤ length c.args.bytes.now = (omega (arith, left_here book c.requires.0 q _ _ c.loop-q-test.true c.loop-q.invariant.0, c.requires.1)) in
    room

pub returns-in-Some : goal.returns-in-Some
returns-in-Some c =
    let book : Book = c.args.book in
    let q : ℕ = c.loop-q.q in
    let f = found-some _ _ _ (sym c.bad_in.ensures ∙ c.in-Some.is) in
    let few : c.loop-q.k + c.in-Some.i < how_many book = omega (arith, f.0, f.1, left_here book c.requires.0 q _ _ c.loop-q-test.true c.loop-q.invariant.0) in
    price-16 _ _ _ (c.loop-q.k + c.in-Some.i) (sym (sym (bad-here _ _ _ _ _ _ _ c.loop-q-test.true f.0 f.1) ∙ c.loop-q.invariant.1)) few

pub loop-q-preserved : goal.loop-q-preserved
loop-q-preserved c =
    let book : Book = c.args.book in
    let q : ℕ = c.loop-q.q in
    let none = found-none _ _ (sym c.bad_in.ensures ∙ c.in_default.is) in (
      omega (arith, left_step book c.requires.0 q _ _ c.loop-q-test.true c.loop-q.invariant.0),
      sym (bad-step _ _ _ _ _ _ _ c.loop-q-test.true refl none) ∙ c.loop-q.invariant.1,
    )

pub returns : goal.returns
returns c =
    let whole : how_many c.args.book ≤ c.loop-q.k = omega (arith, left_done c.args.book c.requires.0 c.loop-q.q _ _ (omega arith) c.loop-q.invariant.0) in
    price-0 _ _ _ c.loop-q.k (sym (bad-done _ _ _ _ _ _ _ (omega arith) c.loop-q.invariant.1)) whole
