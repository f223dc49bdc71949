-- `interval_writer::writing::write_verdict` meets its contract: one law for each way out. Assumes nothing.
use borrow.Author.Rules.{rules}
use mathlib.Core.Path.{◌≡◌, ap, ◌∙◌}
use mathlib.Core.Bool.{Bool}
use Rattle.book.specs.Record.{markets_of, verdict}
use Rattle.interval_records.specs.Layout.{interval_length, length_for}
use Rattle.interval_writer.proofs.Writes.{write-lent, write-23, write-0}
use Rattle.interval_writer.proofs.writing.write_verdict.Goals as goal

pub returns-in_err-lent_verdict : goal.returns-in_err-lent_verdict
returns-in_err-lent_verdict c =
    let a = c.args in
    let passed_on : c.from_residual.result ≡ c.lent_verdict.result = search rules in
    rw (← c.interval.view_is)
    (ap verdict passed_on ∙ write-lent a.book _ _ _ _ a.room _ c.lent_verdict.ensures _ c.in_err-lent_verdict.was)

pub returns-then-room-interval_length : goal.returns-then-room-interval_length
returns-then-room-interval_length c =
    let long : c.interval_length.result ≡ length_for c.args.book = (let b = c.args.book in
    c.interval_length.ensures.0 ∙ ap (λ (t : Bool). interval_length t b.regions (markets_of b.services)) c.has_link.ensures) in
    let a = c.args in
    rw (← c.interval.view_is)
    (write-23 a.book _ _ _ _ a.room _ c.lent_verdict.ensures c.in_ok-lent_verdict.was (rw (← long) c.if-room-interval_length.true))

pub returns : goal.returns
returns c =
    let long : c.interval_length.result ≡ length_for c.args.book = (let b = c.args.book in
    c.interval_length.ensures.0 ∙ ap (λ (t : Bool). interval_length t b.regions (markets_of b.services)) c.has_link.ensures) in
    let a = c.args in
    rw (← c.interval.view_is)
    (write-0 a.book _ _ _ _ a.room _ c.lent_verdict.ensures c.in_ok-lent_verdict.was (rw (← long) c.if-room-interval_length.false))
