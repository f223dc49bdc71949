-- `schedule::pass::half_of` meets its contract. Assumes nothing.
use mathlib.Core.Path.{◌≡◌, sym, ◌∙◌}
use mathlib.Core.Bool.{true}
use Rattle.pricing.specs.Holding.{is_energy}
use Rattle.schedule.specs.Working.{all_in_range}
use Rattle.schedule.proofs.Schedules.{six-small}
use Rattle.schedule.proofs.pass.half_of.Goals as goal

pub small_sum-requires : goal.small_sum-requires
small_sum-requires c =
    let passed : let a = c.args in all_in_range (is_energy a.market) a.six ≡ true = sym c.all_in_range.ensures ∙ c.if-all_in_range.true in
    let a = c.args in six-small (is_energy a.market) a.six (passed)
