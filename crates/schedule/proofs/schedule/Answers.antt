-- `schedule::schedule` meets its contract: it tells what `made` does. Assumes nothing.
use mathlib.Core.Path.{◌≡◌}
use Rattle.laws.proofs.Integers.{signed}
use Rattle.schedule.specs.Schedule.{schedule}
use Rattle.schedule.specs.Working.{made_by}
use Rattle.schedule.proofs.schedule.Goals as goal

pub returns-in-Ok : goal.returns-in-Ok
returns-in-Ok c =
    let a = c.args in
    let made : made_by c.made.result ≡ schedule a.halves a.cap a.floor a.energy a.prices.now a.kinds.now = simp (signed, c.ranges.cap, c.ranges.floor) at c.made.ensures in
    rw c.in-Ok.is at made

pub returns-in-Err : goal.returns-in-Err
returns-in-Err c =
    let a = c.args in
    let made : made_by c.made.result ≡ schedule a.halves a.cap a.floor a.energy a.prices.now a.kinds.now = simp (signed, c.ranges.cap, c.ranges.floor) at c.made.ensures in
    rw c.in-Err.is at made
