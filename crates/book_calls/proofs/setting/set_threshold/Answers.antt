-- `book_calls::setting::set_threshold` meets its contract. Assumes nothing.
use mathlib.Core.Path.{◌≡◌, sym, ap, ◌∙◌}
use mathlib.Core.Bool.{true}
use mir.Facts.{to_z-of_z}
use Rattle.book.specs.Record.{verdict}
use Rattle.book.specs.Validity.{valid}
use Rattle.book_calls.specs.Setting.{set_threshold, threshold_verdict}
use Rattle.book_calls.proofs.Ways.{threshold-refused, threshold-set}
use Rattle.book_calls.proofs.setting.set_threshold.Goals as goal

pub returns-then-not-valid : goal.returns-then-not-valid
unfolding set_threshold
returns-then-not-valid c = rw (sym c.valid.ensures ∙ c.if-not-valid.true)

pub returns-in-Err : goal.returns-in-Err
returns-in-Err c =
    let ok : valid c.args.book ≡ true = sym c.valid.ensures ∙ c.if-not-valid.false in
    let says : verdict c.threshold_verdict-answer.result ≡ threshold_verdict c.args.threshold = c.threshold_verdict-answer.ensures ∙ ap threshold_verdict (to_z-of_z c.ranges.threshold) in
    let a = c.args in
    threshold-refused a.book (ok) a.threshold _ (says) _ c.in-Err.is

pub returns : goal.returns
returns c =
    let ok : valid c.args.book ≡ true = sym c.valid.ensures ∙ c.if-not-valid.false in
    let says : verdict c.threshold_verdict-answer.result ≡ threshold_verdict c.args.threshold = c.threshold_verdict-answer.ensures ∙ ap threshold_verdict (to_z-of_z c.ranges.threshold) in
    threshold-set c.args.book (ok) c.args.threshold _ (says) _ c.in_default.is (to_z-of_z c.ranges.threshold)
