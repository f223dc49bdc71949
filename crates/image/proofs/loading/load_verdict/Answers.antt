-- `image::loading::load_verdict` meets its contract. Assumes nothing.
use borrow.Author.Rules.{rules}
use Rattle.book.specs.Record.{verdict}
use mathlib.Core.Path.{◌≡◌, sym, ◌∙◌, ap}
use Rattle.pricing.specs.Verdict.{accepted}
use Rattle.std.specs.Prelude.{Err}
use mathlib.Core.List.{List}
use Prim.Native.Nat.{ℕ}
use Rattle.head.specs.Layout.{head_size, is_second, head_from}
use Rattle.image.specs.Loading.{head_verdict, ring_of}
use Rattle.book.proofs.Ways.{is-accepted, is-refused}
use Rattle.image.proofs.Ways.{head-ready, load-head, load-11, load-prices}
use Rattle.image.proofs.loading.load_verdict.Goals as goal

pub returns-then-ring-ring_size : goal.returns-then-ring-ring_size
returns-then-ring-ring_size c =
    let said : head_verdict c.args.bytes.now ≡ accepted = is-accepted _ _ c.good_head.ensures.answer _ c.in_ok-head.was in
    let same : c.in_ok-head.head ≡ c.args.bytes.now = c.in_ok-head.ensures.head in
    load-11 _ _ said _ (c.book-book.ensures ∙ ap head_from same) (λ q. c.if-ring-ring_size.true (q ∙ sym c.ring_size.ensures))

pub price_verdict-requires : goal.price_verdict-requires
price_verdict-requires c =
    let said : head_verdict c.args.bytes.now ≡ accepted = is-accepted _ _ c.good_head.ensures.answer _ c.in_ok-head.was in
    let same : c.in_ok-head.head ≡ c.args.bytes.now = c.in_ok-head.ensures.head in
    head-ready _ said _ (c.book-book.ensures ∙ ap head_from same) _ (c.prices_from.ensures ∙ ap (λ (l : List ℕ). head_size (is_second l)) same)

pub returns-in_err-head : goal.returns-in_err-head
returns-in_err-head c =
    let w = is-refused _ _ c.good_head.ensures.answer _ c.in_err-head.was in
    let passed_on : c.from_residual.result ≡ Err c.in_err-head.field-0.0 = search rules in
    ap verdict passed_on ∙ sym w.0 ∙ load-head _ _ w.1

pub returns : goal.returns
returns c =
    let said : head_verdict c.args.bytes.now ≡ accepted = is-accepted _ _ c.good_head.ensures.answer _ c.in_ok-head.was in
    let same : c.in_ok-head.head ≡ c.args.bytes.now = c.in_ok-head.ensures.head in
    let sized : c.args.ring ≡ ring_of c.book-book.result = c.if-ring-ring_size.false ∙ c.ring_size.ensures in
    c.price_verdict.ensures ∙ load-prices _ _ said _ (c.book-book.ensures ∙ ap head_from same) sized _ (c.prices_from.ensures ∙ ap (λ (l : List ℕ). head_size (is_second l)) same)
