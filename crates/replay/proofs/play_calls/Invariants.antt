-- `replay::play_calls` meets its contract. The loop's invariant: so many calls from here come to all calls from the start. Assumes nothing.
use mathlib.Core.Path.{◌≡◌}
use mathlib.Core.Bool.{false}
use Prim.Native.Nat.{◌-◌}
use lib.ListN.{length}
use Rattle.playing.specs.Playing.{state_of}
use Rattle.replay.proofs.Looping.{Held}
use Rattle.replay.proofs.play_calls.Given as goal

abbrev pub invariant-loop-next : goal.invariant-loop-next
invariant-loop-next l =
    Held l.calls (state_of false l.initial.book l.initial.ring l.initial.other l.initial.image l.initial.numbers l.initial.factors l.initial.table 38 14 l.initial.answers) l.turned (state_of l.turned l.book l.ring l.other l.image l.numbers l.factors l.table l.at l.out l.answers)
    × (length l.ring ≡ length l.initial.ring)
    × (length l.other ≡ length l.initial.other)
    × (length l.image ≡ length l.initial.image)
    × (length l.numbers ≡ length l.initial.numbers)
    × (length l.factors ≡ length l.initial.factors)
    × (length l.table ≡ length l.initial.table)
    × (length l.answers ≡ length l.initial.answers)

abbrev pub decreases-loop-next : goal.decreases-loop-next
decreases-loop-next l = length l.calls - l.at
