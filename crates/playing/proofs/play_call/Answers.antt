-- `playing::play_call` meets its contract: each kind of call by its own function. Assumes nothing.
use mathlib.Core.Path.{◌≡◌, sym, ◌∙◌}
use native.Mathlib.Omega.{arith}
use Rattle.records.specs.Reading.{kind_at}
use Rattle.playing.proofs.Calling.{head-asks, entry-asks, threshold-asks, limits-asks, report-asks, restart-asks, entry-made, threshold-made, limits-made, report-made, restart-made}
use Rattle.playing.proofs.play_call.Goals as goal

pub get_u16-requires : goal.get_u16-requires
get_u16-requires c = let a = c.args in head-asks a.book a.ring.now a.other.now a.image.now a.numbers.now a.factors.now a.table.now a.calls.now a.at a.out a.answers.now c.requires.at_in_bounds.0 c.requires.at_in_bounds.1 c.requires.answers_value

pub play_entry-requires : goal.play_entry-requires
play_entry-requires c =
    let a = c.args in
    let r = entry-asks a.book a.ring.now a.other.now a.image.now a.numbers.now a.factors.now a.table.now a.calls.now a.at a.out a.answers.now c.requires.at_in_bounds.0 c.requires.at_in_bounds.1 c.requires.answers_value (sym c.get_u16.ensures ∙ c.in-65.is) in record { at_in_bounds = r.0; at_in_bounds_2 = r.1.0; at_in_bounds_3 = r.1.1 }

pub returns-in-65 : goal.returns-in-65
returns-in-65 c =
    let a = c.args in
    let kind : kind_at a.calls.now a.at ≡ 65 = sym c.get_u16.ensures ∙ c.in-65.is in
    let e = c.play_entry.ensures in
    let r = entry-made a.book a.ring.now a.other.now a.image.now a.numbers.now a.factors.now a.table.now a.calls.now a.at a.out a.answers.now kind e.value e.ring_after e.numbers_after e.factors_after e.table_after e.answers_after in
    record { swapped_value = r.0; answers_after = r.1 }

pub play_threshold-requires : goal.play_threshold-requires
play_threshold-requires c =
    let a = c.args in
    threshold-asks a.book a.ring.now a.other.now a.image.now a.numbers.now a.factors.now a.table.now a.calls.now a.at a.out a.answers.now c.requires.at_in_bounds.0 c.requires.at_in_bounds.1 c.requires.answers_value (sym c.get_u16.ensures ∙ c.in-66.is)

pub returns-in-66 : goal.returns-in-66
returns-in-66 c =
    let a = c.args in
    let kind : kind_at a.calls.now a.at ≡ 66 = sym c.get_u16.ensures ∙ c.in-66.is in
    let e = c.play_threshold.ensures in
    let r = threshold-made a.book a.ring.now a.other.now a.image.now a.numbers.now a.factors.now a.table.now a.calls.now a.at a.out a.answers.now kind e.value e.answers_after in
    record { swapped_value = r.0; answers_after = r.1 }

pub play_limits-requires : goal.play_limits-requires
play_limits-requires c =
    let a = c.args in
    limits-asks a.book a.ring.now a.other.now a.image.now a.numbers.now a.factors.now a.table.now a.calls.now a.at a.out a.answers.now c.requires.at_in_bounds.0 c.requires.at_in_bounds.1 c.requires.answers_value (sym c.get_u16.ensures ∙ c.in-67.is)

pub returns-in-67 : goal.returns-in-67
returns-in-67 c =
    let a = c.args in
    let kind : kind_at a.calls.now a.at ≡ 67 = sym c.get_u16.ensures ∙ c.in-67.is in
    let e = c.play_limits.ensures in
    let r = limits-made a.book a.ring.now a.other.now a.image.now a.numbers.now a.factors.now a.table.now a.calls.now a.at a.out a.answers.now kind e.value e.answers_after in
    record { swapped_value = r.0; answers_after = r.1 }

pub play_report-requires : goal.play_report-requires
play_report-requires c =
    let a = c.args in
    report-asks a.book a.ring.now a.other.now a.image.now a.numbers.now a.factors.now a.table.now a.calls.now a.at a.out a.answers.now c.requires.at_in_bounds.0 c.requires.at_in_bounds.1 c.requires.answers_value (sym c.get_u16.ensures ∙ c.in-68.is)

pub returns-in-68 : goal.returns-in-68
returns-in-68 c =
    let a = c.args in
    let kind : kind_at a.calls.now a.at ≡ 68 = sym c.get_u16.ensures ∙ c.in-68.is in
    let e = c.play_report.ensures in
    let r = report-made a.book a.ring.now a.other.now a.image.now a.numbers.now a.factors.now a.table.now a.calls.now a.at a.out a.answers.now kind e.value e.answers_after in
    record { swapped_value = r.0; answers_after = r.1 }

pub play_restart-requires : goal.play_restart-requires
play_restart-requires c =
    let a = c.args in
    let not-65 : kind_at a.calls.now a.at ≡ 65 → ⊥ = λ e. omega (arith, e, c.get_u16.ensures) in
    let not-66 : kind_at a.calls.now a.at ≡ 66 → ⊥ = λ e. omega (arith, e, c.get_u16.ensures) in
    let not-67 : kind_at a.calls.now a.at ≡ 67 → ⊥ = λ e. omega (arith, e, c.get_u16.ensures) in
    let not-68 : kind_at a.calls.now a.at ≡ 68 → ⊥ = λ e. omega (arith, e, c.get_u16.ensures) in
    restart-asks a.book a.ring.now a.other.now a.image.now a.numbers.now a.factors.now a.table.now a.calls.now a.at a.out a.answers.now c.requires.at_in_bounds.0 c.requires.at_in_bounds.1 c.requires.answers_value not-65 not-66 not-67 not-68

pub returns-in_default : goal.returns-in_default
returns-in_default c =
    let a = c.args in
    let not-65 : kind_at a.calls.now a.at ≡ 65 → ⊥ = λ e. omega (arith, e, c.get_u16.ensures) in
    let not-66 : kind_at a.calls.now a.at ≡ 66 → ⊥ = λ e. omega (arith, e, c.get_u16.ensures) in
    let not-67 : kind_at a.calls.now a.at ≡ 67 → ⊥ = λ e. omega (arith, e, c.get_u16.ensures) in
    let not-68 : kind_at a.calls.now a.at ≡ 68 → ⊥ = λ e. omega (arith, e, c.get_u16.ensures) in
    let e = c.play_restart.ensures in
    let r = restart-made a.book a.ring.now a.other.now a.image.now a.numbers.now a.factors.now a.table.now a.calls.now a.at a.out a.answers.now not-65 not-66 not-67 not-68 e.swapped_value e.book_value e.other_after e.image_after e.answers_after in
    record { swapped_value = r.0; answers_after = r.1 }
