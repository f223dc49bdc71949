-- `billing::play_day` meets its contract. The loop's invariant: so many intervals from here come to the whole day. Assumes nothing.
use mathlib.Core.Path.{◌≡◌}
use Prim.Native.Nat.{◌-◌}
use lib.ListN.{length}
use Rattle.billing.specs.Billing.{bill_of}
use Rattle.billing.proofs.Days.{Held}
use Rattle.billing.proofs.play_day.Given as goal

abbrev pub invariant-loop-at : goal.invariant-loop-at
invariant-loop-at l =
    Held (bill_of l.records l.schedule l.region l.lines) l.initial.book l.initial.work l.book l.work l.at l.count l.right
    × (length l.work ≡ length l.initial.work)

abbrev pub decreases-loop-at : goal.decreases-loop-at
decreases-loop-at l = length l.records - l.at
