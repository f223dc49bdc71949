-- `synthetic::draw_prices` meets its contract. The loop's invariant: `s` is the seed after `q` draws, prices are drawn up to `q`.
-- Assumes nothing.
use borrow.Author.Rules.{rules}
use mathlib.Core.Path.{◌≡◌, refl, sym, ap, ◌∙◌}
use Prim.Native.Nat.{ℕ, ◌+◌, ◌/◌, ◌%◌}
use native.Mathlib.Omega.{arith}
use lib.IntN.{ℤ}
use lib.ListN.{length-set}
use mir.Syntax.{w32}
use mir.Val.{SFits, to_z, of_z}
use mir.Facts.{to_z-of_z}
use Rattle.laws.proofs.Lists.{tab-none, tab-step}
use Rattle.drawing.specs.Drawing.{next_seed, seed_after, drawn, price_of}
use Rattle.synthetic.proofs.Seeds.{seed-none, seed-next}
use Rattle.synthetic.proofs.draw_prices.Goals as goal

abbrev price : ℕ → ℕ → ℕ → ℤ
price markets seed q = price_of (q % markets) (drawn seed q)

pub loop-q-init : goal.loop-q-init
loop-q-init c = (omega arith, refl, sym (seed-none _), tab-none _ _)

pub loop-q-preserved : goal.loop-q-preserved
loop-q-preserved c =
    let l = c.loop-q in
    let a = c.args in
    let z = c.price_of.result in
    let f : SFits w32 z = search rules in
    let s : c.next_seed-s.result ≡ seed_after (c.loop-q.q + 1) a.seed =
    c.next_seed-s.ensures ∙ ap next_seed c.loop-q.invariant.2 ∙ sym (seed-next c.loop-q.q a.seed) in
    let g : z ≡ price_of (c.loop-q.q % a.markets) (c.next_seed-s.result / 65536) = c.price_of.ensures in
    let p : z ≡ price a.markets a.seed c.loop-q.q = g ∙ ap (λ (k : ℕ). price_of (c.loop-q.q % a.markets) (k / 65536)) s in (
      omega arith,
      length-set c.loop-q.prices c.loop-q.q (to_z w32 (of_z w32 z)) ∙ c.loop-q.invariant.1,
      s,
      tab-step _ c.loop-q.q a.prices.now c.loop-q.prices (to_z w32 (of_z w32 z)) c.loop-q.invariant.3 (omega arith) (to_z-of_z f ∙ p),
    )
