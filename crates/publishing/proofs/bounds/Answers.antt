-- `publishing::bounds` meets its contract. Assumes nothing.
use Rattle.std.specs.Prelude.{None}
use borrow.Author.Rules.{rules}
use mathlib.Core.Path.{◌≡◌, refl, sym, ap, ◌∙◌}
use mathlib.Core.Bool.{Bool, true, false, beq}
use Rattle.std.specs.Bool.{Decides}
use Rattle.std.proofs.lemmas.Slice.Eq.{slice_eq-Decides}
use Prim.Native.Nat.{◌<◌}
use native.Mathlib.Omega.{arith}
use lib.ListN.{get_or, replicate, length-set}
use mir.Syntax.{w64}
use mir.Val.{SFits, to_z, of_z}
use mir.Facts.{to_z-of_z}
use Rattle.laws.proofs.Lists.{tab-none, tab-step, tab-below}
use Rattle.routes.specs.declared.Network.{Network}
use Rattle.routes.specs.Links.{powers_of}
use Rattle.pricing.specs.Passing.{fine}
use Rattle.publishing.specs.Entry.{network_of}
use Rattle.publishing.specs.Bounds.{in_cents}
use Rattle.publishing.proofs.Limits.{source, source_fits, limit_by, small, searched, search_is, all-open}
use Rattle.publishing.proofs.bounds.Goals as goal

-- what `==` says of two lists of Booleans
beq-decides : (a b : Bool) → Decides (beq a b) (a ≡ b)
beq-decides true true = (λ e. refl, λ e. refl)
beq-decides true false = (λ e. sym e, λ e. sym e)
beq-decides false true = (λ e. e, λ e. e)
beq-decides false false = (λ e. refl, λ e. refl)

pub returns-then-eq : goal.returns-then-eq
returns-then-eq c =
    let a = c.args in
    all-open a.caps a.terms c.requires.0 a.flows.now a.factors.now c.requires.1 a.sources
    ((slice_eq-Decides beq-decides a.sources (replicate 8 false) c.eq.result c.eq.ensures).0 c.if-eq.true)

pub loop-r-init : goal.loop-r-init
loop-r-init c = (omega arith, refl, tab-none _ _)

pub limit_of-limit-requires : goal.limit_of-limit-requires
limit_of-limit-requires c =
    let powered : let a = c.args in c.powers-powers.result ≡ powers_of (network_of a.terms) a.flows.now a.factors.now = (let a = c.args in
    c.powers-powers.ensures ∙ ap (λ (n : Network). powers_of n a.flows.now a.factors.now) c.network_of.ensures) in
    let sourced : let a = c.args in
    to_z w64 (of_z w64 c.source_limit-source.result) ≡ fine (source a.caps a.terms) = (let f : SFits w64 c.source_limit-source.result = search rules in
    let g = source_fits c.args.terms c.requires.0 in
    to_z-of_z f ∙ c.source_limit-source.ensures ∙ rw (to_z-of_z (g true), to_z-of_z (g false))) in
    searched c.args.terms c.requires.0 c.args.flows.now c.args.factors.now c.requires.1 (powered) c.args.caps (sourced) _ (omega arith)

pub in_cents-requires : goal.in_cents-requires
in_cents-requires c =
    let powered : let a = c.args in c.powers-powers.result ≡ powers_of (network_of a.terms) a.flows.now a.factors.now = (let a = c.args in
    c.powers-powers.ensures ∙ ap (λ (n : Network). powers_of n a.flows.now a.factors.now) c.network_of.ensures) in
    let sourced : let a = c.args in
    to_z w64 (of_z w64 c.source_limit-source.result) ≡ fine (source a.caps a.terms) = (let f : SFits w64 c.source_limit-source.result = search rules in
    let g = source_fits c.args.terms c.requires.0 in
    to_z-of_z f ∙ c.source_limit-source.ensures ∙ rw (to_z-of_z (g true), to_z-of_z (g false))) in
    let found : let a = c.args in
    c.limit_of-limit.result ≡ limit_by a.caps a.terms a.flows.now a.factors.now (λ y. get_or a.sources y false) c.loop-r.r = (c.limit_of-limit.ensures
    ∙ search_is c.args.terms c.requires.0 c.args.flows.now c.args.factors.now c.requires.1 (powered) c.args.caps (sourced) c.args.sources _ (omega arith)) in
    let a = c.args in
    rw (found) (small a.terms c.requires.0 a.flows.now a.factors.now c.requires.1 (λ y. get_or a.sources y false) c.loop-r.r (omega arith) a.caps)

pub loop-r-preserved : goal.loop-r-preserved
loop-r-preserved c =
    let powered : let a = c.args in c.powers-powers.result ≡ powers_of (network_of a.terms) a.flows.now a.factors.now = (let a = c.args in
    c.powers-powers.ensures ∙ ap (λ (n : Network). powers_of n a.flows.now a.factors.now) c.network_of.ensures) in
    let sourced : let a = c.args in
    to_z w64 (of_z w64 c.source_limit-source.result) ≡ fine (source a.caps a.terms) = (let f : SFits w64 c.source_limit-source.result = search rules in
    let g = source_fits c.args.terms c.requires.0 in
    to_z-of_z f ∙ c.source_limit-source.ensures ∙ rw (to_z-of_z (g true), to_z-of_z (g false))) in
    let found : let a = c.args in
    c.limit_of-limit.result ≡ limit_by a.caps a.terms a.flows.now a.factors.now (λ y. get_or a.sources y false) c.loop-r.r = (c.limit_of-limit.ensures
    ∙ search_is c.args.terms c.requires.0 c.args.flows.now c.args.factors.now c.requires.1 (powered) c.args.caps (sourced) c.args.sources _ (omega arith)) in
    let start : c.loop-r.r < 8 = omega (arith, c.requires.0.regions.1) in
    let turned = c.in_cents.ensures ∙ ap in_cents (found) in
    (omega arith, simp length-set (omega arith), tab-step _ _ _ _ _ c.loop-r.invariant.2 (start) turned)

pub returns : goal.returns
returns c =
    let a = c.args in
    let e : c.loop-r.r ≡ a.terms.regions = omega arith in
    c.loop-r.invariant.2 ∙ rw e (tab-below _ None 8 a.terms.regions c.requires.0.regions.1)
