-- `planning::left_verdict` meets its contract. Assumes nothing.
use mathlib.Core.Path.{◌≡◌, sym, ◌∙◌}
use mathlib.Core.Bool.{true}
use lib.ListN.{length}
use mir.Syntax.{w32}
use mir.Val.{SFits}
use mir.Facts.{to_z-of_z}
use Rattle.pricing.specs.Holding.{is_energy, in_range}
use Rattle.book.specs.Record.{ring_size}
use Rattle.book.specs.Validity.{valid}
use Rattle.image.specs.Storing.{prices_ok}
use Rattle.planning.proofs.Ways.{has_market, left-10, left-11, left-21, left-22, left-43, left-0}
use borrow.Author.Rules.{rules}
use Rattle.planning.proofs.left_verdict.Goals as goal

pub returns-then-not-valid : goal.returns-then-not-valid
returns-then-not-valid c = left-10 _ _ _ _ _ (sym c.valid.ensures ∙ c.if-not-valid.true)

pub returns-then-ring-ring_size : goal.returns-then-ring-ring_size
returns-then-ring-ring_size c =
    let good : valid c.args.book ≡ true = sym c.valid.ensures ∙ c.if-not-valid.false in
    left-11 _ _ _ _ _ (good) (λ e. c.if-ring-ring_size.true (e ∙ sym c.ring_size.ensures))

pub returns-then-not-region-book : goal.returns-then-not-region-book
returns-then-not-region-book c =
    let good : valid c.args.book ≡ true = sym c.valid.ensures ∙ c.if-not-valid.false in
    let sized : let a = c.args in
    length a.ring.now ≡ ring_size a.book.regions a.book.services a.book.window = c.if-ring-ring_size.false ∙ c.ring_size.ensures in
    left-21 _ _ _ _ _ (good) (sized) (c.if-not-region-book.true)

pub returns-then-not-prices_ok : goal.returns-then-not-prices_ok
returns-then-not-prices_ok c =
    let good : valid c.args.book ≡ true = sym c.valid.ensures ∙ c.if-not-valid.false in
    let sized : let a = c.args in
    length a.ring.now ≡ ring_size a.book.regions a.book.services a.book.window = c.if-ring-ring_size.false ∙ c.ring_size.ensures in
    let has : let a = c.args in has_market a.book a.region a.market ≡ true = c.if-not-region-book.false in
    left-22 _ _ _ _ _ good sized (has) (sym c.prices_ok.ensures ∙ c.if-not-prices_ok.true)

pub returns-then-not-in_range : goal.returns-then-not-in_range
returns-then-not-in_range c =
    let good : valid c.args.book ≡ true = sym c.valid.ensures ∙ c.if-not-valid.false in
    let sized : let a = c.args in
    length a.ring.now ≡ ring_size a.book.regions a.book.services a.book.window = c.if-ring-ring_size.false ∙ c.ring_size.ensures in
    let has : let a = c.args in has_market a.book a.region a.market ≡ true = c.if-not-region-book.false in
    let summed : let a = c.args in
    prices_ok a.book a.ring.now ≡ true = sym c.prices_ok.ensures ∙ c.if-not-prices_ok.false in
    let ranged : let a = c.args in
    c.in_range.result ≡ in_range (is_energy a.market) a.price = (let a = c.args in
    let f : SFits w32 a.price = search rules in
    rw (to_z-of_z f) at c.in_range.ensures) in
    left-43 _ _ _ _ _ good sized (has) (summed) (sym (ranged) ∙ c.if-not-in_range.true)

pub returns : goal.returns
returns c =
    let good : valid c.args.book ≡ true = sym c.valid.ensures ∙ c.if-not-valid.false in
    let sized : let a = c.args in
    length a.ring.now ≡ ring_size a.book.regions a.book.services a.book.window = c.if-ring-ring_size.false ∙ c.ring_size.ensures in
    let has : let a = c.args in has_market a.book a.region a.market ≡ true = c.if-not-region-book.false in
    let summed : let a = c.args in
    prices_ok a.book a.ring.now ≡ true = sym c.prices_ok.ensures ∙ c.if-not-prices_ok.false in
    let ranged : let a = c.args in
    c.in_range.result ≡ in_range (is_energy a.market) a.price = (let a = c.args in
    let f : SFits w32 a.price = search rules in
    rw (to_z-of_z f) at c.in_range.ensures) in
    left-0 _ _ _ _ _ good sized (has) (summed) (sym (ranged) ∙ c.if-not-in_range.false)
