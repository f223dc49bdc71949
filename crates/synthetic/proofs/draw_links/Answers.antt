-- `synthetic::draw_links` meets its contract. The loop's invariant: `s` is the seed after two draws a turn, flows and factors are drawn
-- up to `r`. Assumes nothing.
use borrow.Author.Rules.{rules}
use mathlib.Core.Path.{◌≡◌, refl, sym, ap, ◌∙◌}
use Prim.Native.Nat.{ℕ, ◌+◌, ◌*◌, ◌/◌}
use native.Mathlib.Omega.{arith}
use lib.IntN.{ℤ}
use lib.ListN.{length-set}
use mir.Syntax.{w32}
use mir.Val.{SFits, to_z, of_z}
use mir.Facts.{to_z-of_z}
use Rattle.laws.proofs.Lists.{tab-none, tab-step}
use Rattle.drawing.specs.Drawing.{next_seed, seed_after, drawn, flow_of, factor_of}
use Rattle.synthetic.proofs.Seeds.{seed-none, seed-next}
use Rattle.synthetic.proofs.draw_links.Goals as goal

abbrev flow : ℕ → ℕ → ℤ
flow seed r = flow_of (drawn seed (2 * r))

abbrev factor : ℕ → ℕ → ℕ
factor seed r = factor_of (drawn seed (2 * r + 1))

pub loop-r-init : goal.loop-r-init
loop-r-init c = (omega arith, refl, refl, sym (seed-none _), tab-none _ _, tab-none _ _)

pub loop-r-preserved : goal.loop-r-preserved
loop-r-preserved c =
    let l = c.loop-r in
    let a = c.args in
    let z = c.flow_of.result in
    let f : SFits w32 z = search rules in
    let first : c.next_seed-first.result ≡ seed_after (2 * c.loop-r.r + 1) a.seed =
    c.next_seed-first.ensures ∙ ap next_seed c.loop-r.invariant.3 ∙ sym (seed-next (2 * c.loop-r.r) a.seed) in
    let next : c.next_seed-s.result ≡ seed_after (2 * c.loop-r.r + 1 + 1) a.seed =
    c.next_seed-s.ensures ∙ ap next_seed first ∙ sym (seed-next (2 * c.loop-r.r + 1) a.seed) in
    let g : z ≡ flow_of (c.next_seed-first.result / 65536) = c.flow_of.ensures in
    let h : c.factor_of.result ≡ factor_of (c.next_seed-s.result / 65536) = c.factor_of.ensures in
    let p : z ≡ flow a.seed c.loop-r.r = g ∙ ap (λ (k : ℕ). flow_of (k / 65536)) first in
    let x : c.factor_of.result ≡ factor a.seed c.loop-r.r = h ∙ ap (λ (k : ℕ). factor_of (k / 65536)) next in
    let turn : 2 * c.loop-r.r + 1 + 1 ≡ 2 * (c.loop-r.r + 1) = omega arith in (
      omega arith,
      length-set c.loop-r.flows c.loop-r.r (to_z w32 (of_z w32 z)) ∙ c.loop-r.invariant.1,
      length-set c.loop-r.factors c.loop-r.r c.factor_of.result ∙ c.loop-r.invariant.2,
      next ∙ ap (λ (k : ℕ). seed_after k a.seed) turn,
      tab-step _ c.loop-r.r a.flows.now c.loop-r.flows (to_z w32 (of_z w32 z)) c.loop-r.invariant.4 (omega arith) (to_z-of_z f ∙ p),
      tab-step _ c.loop-r.r a.factors.now c.loop-r.factors c.factor_of.result c.loop-r.invariant.5 (omega arith) x,
    )
