-- `book_calls::opening::open_verdict` meets its contract. Assumes nothing.
use mathlib.Core.Path.{◌≡◌, sym, ap, ◌∙◌}
use mathlib.Core.Bool.{true, ◌&&◌}
use mir.Syntax.{w32, w64}
use mir.Val.{SFits}
use mir.Facts.{to_z-of_z}
use borrow.Author.Tests.{eq-eqb, ne_eqb}
use Rattle.pricing.specs.Holding.{limits_ok}
use Rattle.book.specs.Record.{verdict, is_accepted}
use Rattle.book.proofs.Ways.{is-accepted, is-refused}
use Rattle.book_calls.specs.Opening.{settings_ok}
use Rattle.book_calls.specs.Setting.{threshold_verdict}
use Rattle.book_calls.proofs.Ways.{ring_ok, open-20, open-11, open-threshold, open-19, open-0}
use borrow.Author.Rules.{rules}
use Rattle.book_calls.proofs.opening.open_verdict.Goals as goal

pub returns-then-not-shape-parents_ok : goal.returns-then-not-shape-parents_ok
returns-then-not-shape-parents_ok c =
    let settings-is : (c.shape_ok-shape.result && c.parents_ok.result && c.ends_ok-ends.result) ≡ settings_ok c.args.settings = rw (c.shape_ok-shape.ensures, c.parents_ok.ensures, c.ends_ok-ends.ensures) in
    open-20 _ _ (sym (settings-is) ∙ c.if-not-shape-parents_ok.true)

pub returns-then-ring-ring_size : goal.returns-then-ring-ring_size
returns-then-ring-ring_size c =
    let settings-is : (c.shape_ok-shape.result && c.parents_ok.result && c.ends_ok-ends.result) ≡ settings_ok c.args.settings = rw (c.shape_ok-shape.ensures, c.parents_ok.ensures, c.ends_ok-ends.ensures) in
    let settled : settings_ok c.args.settings ≡ true = sym (settings-is) ∙ c.if-not-shape-parents_ok.false in
    open-11 _ _ (settled) (ne_eqb _ _ (λ e. c.if-ring-ring_size.true (e ∙ sym c.ring_size.ensures)))

pub returns-then-not-limits_ok : goal.returns-then-not-limits_ok
returns-then-not-limits_ok c =
    let settings-is : (c.shape_ok-shape.result && c.parents_ok.result && c.ends_ok-ends.result) ≡ settings_ok c.args.settings = rw (c.shape_ok-shape.ensures, c.parents_ok.ensures, c.ends_ok-ends.ensures) in
    let settled : settings_ok c.args.settings ≡ true = sym (settings-is) ∙ c.if-not-shape-parents_ok.false in
    let sized : let a = c.args in ring_ok a.settings a.ring ≡ true = eq-eqb _ _ (c.if-ring-ring_size.false ∙ c.ring_size.ensures) in
    let says : verdict c.threshold_verdict.result
    ≡ threshold_verdict c.args.settings.threshold = (let s = c.args.settings in
    let x : SFits w64 s.threshold = search rules in
    c.threshold_verdict.ensures ∙ ap threshold_verdict (to_z-of_z x)) in
    let taken : is_accepted (threshold_verdict c.args.settings.threshold) ≡ true = ap is_accepted (is-accepted _ _ (says) _ c.in_ok-threshold_verdict.was) in
    let limits-is : let s = c.args.settings in
    c.limits_ok.result ≡ limits_ok s.cap s.floor = (let s = c.args.settings in
    let x : SFits w32 s.cap = search rules in
    let y : SFits w32 s.floor = search rules in
    rw (to_z-of_z x, to_z-of_z y) at c.limits_ok.ensures) in
    open-19 _ _ (settled) (sized) (taken) (sym (limits-is) ∙ c.if-not-limits_ok.true)

pub returns-in_err-threshold_verdict : goal.returns-in_err-threshold_verdict
returns-in_err-threshold_verdict c =
    let says : verdict c.threshold_verdict.result
    ≡ threshold_verdict c.args.settings.threshold = (let s = c.args.settings in
    let x : SFits w64 s.threshold = search rules in
    c.threshold_verdict.ensures ∙ ap threshold_verdict (to_z-of_z x)) in
    let settings-is : (c.shape_ok-shape.result && c.parents_ok.result && c.ends_ok-ends.result) ≡ settings_ok c.args.settings = rw (c.shape_ok-shape.ensures, c.parents_ok.ensures, c.ends_ok-ends.ensures) in
    let settled : settings_ok c.args.settings ≡ true = sym (settings-is) ∙ c.if-not-shape-parents_ok.false in
    let sized : let a = c.args in ring_ok a.settings a.ring ≡ true = eq-eqb _ _ (c.if-ring-ring_size.false ∙ c.ring_size.ensures) in
    let passed : c.from_residual.result ≡ c.threshold_verdict.result = search rules in
    ap verdict passed ∙ says ∙ open-threshold _ _ (settled) (sized) (is-refused _ _ (says) _ c.in_err-threshold_verdict.was).1

pub returns : goal.returns
returns c =
    let settings-is : (c.shape_ok-shape.result && c.parents_ok.result && c.ends_ok-ends.result) ≡ settings_ok c.args.settings = rw (c.shape_ok-shape.ensures, c.parents_ok.ensures, c.ends_ok-ends.ensures) in
    let settled : settings_ok c.args.settings ≡ true = sym (settings-is) ∙ c.if-not-shape-parents_ok.false in
    let sized : let a = c.args in ring_ok a.settings a.ring ≡ true = eq-eqb _ _ (c.if-ring-ring_size.false ∙ c.ring_size.ensures) in
    let says : verdict c.threshold_verdict.result
    ≡ threshold_verdict c.args.settings.threshold = (let s = c.args.settings in
    let x : SFits w64 s.threshold = search rules in
    c.threshold_verdict.ensures ∙ ap threshold_verdict (to_z-of_z x)) in
    let taken : is_accepted (threshold_verdict c.args.settings.threshold) ≡ true = ap is_accepted (is-accepted _ _ (says) _ c.in_ok-threshold_verdict.was) in
    let limits-is : let s = c.args.settings in
    c.limits_ok.result ≡ limits_ok s.cap s.floor = (let s = c.args.settings in
    let x : SFits w32 s.cap = search rules in
    let y : SFits w32 s.floor = search rules in
    rw (to_z-of_z x, to_z-of_z y) at c.limits_ok.ensures) in
    open-0 _ _ (settled) (sized) (taken) (sym (limits-is) ∙ c.if-not-limits_ok.false)
