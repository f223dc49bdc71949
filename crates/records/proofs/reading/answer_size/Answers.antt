-- `records::reading::answer_size` meets its contract. Assumes nothing.
use mathlib.Core.Path.{◌≡◌, sym, ◌∙◌}
use native.Mathlib.Omega.{arith}
use Rattle.records.proofs.Readings.{answer-entry, answer-report, answer-plain}
use Rattle.records.proofs.reading.answer_size.Goals as goal

pub returns-in-65 : goal.returns-in-65
returns-in-65 c = answer-entry _ _ (sym c.get_u16.ensures ∙ c.in-65.is) _ c.get_u32.ensures

pub returns-in-68 : goal.returns-in-68
returns-in-68 c =
    let report : c.get_u16.result ≡ 68 = c.in-68.is in
    answer-report _ _ (λ e. omega (arith, e, c.get_u16.ensures, report)) (sym c.get_u16.ensures ∙ report)

pub returns-in_default : goal.returns-in_default
returns-in_default c = answer-plain _ _ (λ e. omega (arith, e, c.get_u16.ensures)) (λ e. omega (arith, e, c.get_u16.ensures))
