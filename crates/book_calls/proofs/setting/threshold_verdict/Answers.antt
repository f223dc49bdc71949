-- `book_calls::setting::threshold_verdict` meets its contract. Assumes nothing.
use mathlib.Core.Path.{◌≡◌, sym, ◌∙◌}
use mathlib.Core.Bool.{true}
use mir.Facts.{to_z-of_z}
use Rattle.book.specs.Validity.{threshold_ok}
use Rattle.book_calls.specs.Setting.{in_hundreds}
use Rattle.book_calls.proofs.Ways.{threshold-18, threshold-44, threshold-0}
use Rattle.book_calls.proofs.setting.threshold_verdict.Goals as goal

pub returns-then-not-threshold_ok : goal.returns-then-not-threshold_ok
returns-then-not-threshold_ok c =
    let in-range : c.threshold_ok.result ≡ threshold_ok c.args.threshold = rw (to_z-of_z c.ranges.threshold) at c.threshold_ok.ensures in
    threshold-18 c.args.threshold (sym (in-range) ∙ c.if-not-threshold_ok.true)

pub returns-then-not-in_hundreds : goal.returns-then-not-in_hundreds
returns-then-not-in_hundreds c =
    let in-range : c.threshold_ok.result ≡ threshold_ok c.args.threshold = rw (to_z-of_z c.ranges.threshold) at c.threshold_ok.ensures in
    let ok : threshold_ok c.args.threshold ≡ true = sym (in-range) ∙ c.if-not-threshold_ok.false in
    let hundreds-is : c.in_hundreds.result ≡ in_hundreds c.args.threshold = rw (to_z-of_z c.ranges.threshold) at c.in_hundreds.ensures in
    threshold-44 c.args.threshold (ok) (sym (hundreds-is) ∙ c.if-not-in_hundreds.true)

pub returns : goal.returns
returns c =
    let in-range : c.threshold_ok.result ≡ threshold_ok c.args.threshold = rw (to_z-of_z c.ranges.threshold) at c.threshold_ok.ensures in
    let ok : threshold_ok c.args.threshold ≡ true = sym (in-range) ∙ c.if-not-threshold_ok.false in
    let hundreds-is : c.in_hundreds.result ≡ in_hundreds c.args.threshold = rw (to_z-of_z c.ranges.threshold) at c.in_hundreds.ensures in
    threshold-0 c.args.threshold (ok) (sym (hundreds-is) ∙ c.if-not-in_hundreds.false)
