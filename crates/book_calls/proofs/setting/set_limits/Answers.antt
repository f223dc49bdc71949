-- `book_calls::setting::set_limits` meets its contract. Assumes nothing.
use mathlib.Core.Path.{◌≡◌, refl, sym, ◌∙◌}
use mathlib.Core.Bool.{true}
use mir.Facts.{to_z-of_z}
use Rattle.pricing.specs.Holding.{limits_ok}
use Rattle.book.specs.Validity.{valid}
use Rattle.book_calls.specs.Setting.{set_limits, limits_verdict}
use Rattle.book_calls.proofs.Ways.{limits-0}
use Rattle.book_calls.proofs.setting.set_limits.Goals as goal

pub returns-then-not-valid : goal.returns-then-not-valid
unfolding set_limits
returns-then-not-valid c = rw (sym c.valid.ensures ∙ c.if-not-valid.true)

pub returns-then-not-limits_ok : goal.returns-then-not-limits_ok
unfolding limits_verdict set_limits
returns-then-not-limits_ok c =
    let ok : valid c.args.book ≡ true = sym c.valid.ensures ∙ c.if-not-valid.false in
    let limits-is : let a = c.args in c.limits_ok.result ≡ limits_ok a.cap a.floor = rw (to_z-of_z c.ranges.cap, to_z-of_z c.ranges.floor) at c.limits_ok.ensures in
    rw (ok, sym (limits-is) ∙ c.if-not-limits_ok.true) refl

pub returns : goal.returns
returns c =
    let ok : valid c.args.book ≡ true = sym c.valid.ensures ∙ c.if-not-valid.false in
    let limits-is : let a = c.args in c.limits_ok.result ≡ limits_ok a.cap a.floor = rw (to_z-of_z c.ranges.cap, to_z-of_z c.ranges.floor) at c.limits_ok.ensures in
    let a = c.args in
    limits-0 a.book a.cap a.floor _ _ (ok) (sym (limits-is) ∙ c.if-not-limits_ok.false) (to_z-of_z c.ranges.cap) (to_z-of_z c.ranges.floor)
