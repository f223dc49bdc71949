-- `pricing::indexing::indexed` meets its contract. The ranges that 30 asks leave room for every product. Assumes nothing.
use mathlib.Core.Path.{◌≡◌, sym, ◌∙◌}
use mathlib.Core.Bool.{true}
use native.Mathlib.Omega.{arith}
use Rattle.pricing.specs.Indexing.{index_ok, indexed}
use Rattle.pricing.proofs.Indexes.{Ranges, ranges, hundreds-most}
use Rattle.pricing.proofs.indexing.indexed.Goals as goal

pub returns-then-not-index_ok : goal.returns-then-not-index_ok
unfolding indexed
returns-then-not-index_ok c = rw (sym c.index_ok.ensures ∙ c.if-not-index_ok.true)

pub overflow_mul-hundreds : goal.overflow_mul-hundreds
overflow_mul-hundreds c =
    let passed : index_ok c.args.amount c.args.c c.args.b c.args.last ≡ true = sym c.index_ok.ensures ∙ c.if-not-index_ok.false in
    let in-ranges : Ranges c.args.amount c.args.c c.args.b = (let a = c.args in ranges a.amount a.c a.b a.last (passed)) in
    let a = c.args in
    rw (c.nearest-hundreds.ensures, c.sum.ensures, c.sum-2.ensures)
    (record { fits = omega (arith, hundreds-most a.amount a.c a.b (in-ranges)) })

pub returns : goal.returns
unfolding indexed
returns c =
    let passed : index_ok c.args.amount c.args.c c.args.b c.args.last ≡ true = sym c.index_ok.ensures ∙ c.if-not-index_ok.false in
    rw (passed, c.max.ensures, c.nearest-hundreds.ensures, c.sum.ensures, c.sum-2.ensures)
