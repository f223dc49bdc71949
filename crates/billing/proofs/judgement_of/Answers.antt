-- `billing::judgement_of` meets its contract: one rewriting for each way out. Assumes nothing.
use mathlib.Core.Bool.{true, false, ◌&&◌}
use mathlib.Core.Path.{◌≡◌, refl, sym, ◌∙◌}
use lib.Dec.{eqb}
use Rattle.bill_lines.proofs.Firsts.{heavy-some, heavy-none}
use Rattle.billing.proofs.judgement_of.Goals as goal

pub returns-in-Some : goal.returns-in-Some
returns-in-Some c =
    let h = heavy-some c.args.energy.now c.in-Some.heavy (sym c.first_heavy.ensures ∙ c.in-Some.is) in
    rw (c.in_ok-played.was, h.0, h.1) refl

pub returns-then-played-lines : goal.returns-then-played-lines
returns-then-played-lines c =
    let p = c.args.played in
    let light = heavy-none c.args.energy.now (sym c.first_heavy.ensures ∙ c.in_default.is) in
    let right : (eqb p.right p.count && eqb p.count c.args.lines) ≡ true = c.if-played-lines.true in
    rw (c.in_ok-played.was, light, right) refl

pub returns : goal.returns
returns c =
    let p = c.args.played in
    let light = heavy-none c.args.energy.now (sym c.first_heavy.ensures ∙ c.in_default.is) in
    let wrong : (eqb p.right p.count && eqb p.count c.args.lines) ≡ false = c.if-played-lines.false in
    rw (c.in_ok-played.was, light, wrong) refl
