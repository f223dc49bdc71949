-- `interval_rewriter::rewriting::rewrite_verdict` meets its contract: one law for each way out. Assumes nothing.
use mathlib.Core.Path.{◌≡◌, sym, ap, ◌∙◌}
use mathlib.Core.Bool.{Bool, true}
use Rattle.book.specs.Record.{markets_of, verdict}
use Rattle.book.specs.Validity.{valid}
use Rattle.interval_records.specs.Layout.{interval_length, length_for}
use Rattle.interval_rewriter.specs.AnyOrder.{records_verdict}
use Rattle.interval_rewriter.proofs.Rewrites.{rewrite-10, rewrite-23, rewrite-rest}
use Rattle.interval_rewriter.proofs.rewriting.rewrite_verdict.Goals as goal

pub returns-then-not-valid : goal.returns-then-not-valid
returns-then-not-valid c = rewrite-10 _ _ _ _ (sym c.valid.ensures ∙ c.if-not-valid.true)

pub returns-then-room-interval_length : goal.returns-then-room-interval_length
returns-then-room-interval_length c =
    let good : valid c.args.book ≡ true = sym c.valid.ensures ∙ c.if-not-valid.false in
    let long : c.interval_length.result ≡ length_for c.args.book = (let b = c.args.book in
    c.interval_length.ensures.0 ∙ ap (λ (t : Bool). interval_length t b.regions (markets_of b.services)) c.has_link-linked.ensures) in
    let a = c.args in
    rewrite-23 a.book a.bytes.now a.at a.room (good) (rw (← long) c.if-room-interval_length.true)

pub returns : goal.returns
returns c =
    let good : valid c.args.book ≡ true = sym c.valid.ensures ∙ c.if-not-valid.false in
    let long : c.interval_length.result ≡ length_for c.args.book = (let b = c.args.book in
    c.interval_length.ensures.0 ∙ ap (λ (t : Bool). interval_length t b.regions (markets_of b.services)) c.has_link-linked.ensures) in
    let a = c.args in
    let told : verdict c.records_verdict.result ≡ records_verdict c.has_link-linked.result a.book.regions (markets_of a.book.services) a.bytes.now a.at =
    c.records_verdict.ensures in
    told
    ∙ ap (λ (t : Bool). records_verdict t a.book.regions (markets_of a.book.services) a.bytes.now a.at) c.has_link-linked.ensures
    ∙ rewrite-rest a.book a.bytes.now a.at a.room (good) (rw (← long) c.if-room-interval_length.false)
