-- `head::counted::sum_counts` meets its contract. The loop's invariant: what is still to go is the same at every turn. Assumes nothing.
use mathlib.Core.Path.{◌≡◌}
use Prim.Native.Nat.{◌≤◌, ◌-◌, ◌+◌, ◌*◌}
use lib.ListN.{get_or}
use Rattle.laws.specs.Lists.{sum_from}
use Rattle.head.proofs.counted.sum_counts.Given as goal

abbrev pub invariant-loop-count : goal.invariant-loop-count
invariant-loop-count l =
    let i = l.count-index in
    (i ≤ 8) × (l.sum ≤ 65535 * i) × (l.sum + sum_from (8 - i) i (λ k. get_or l.fn.counts k 0) ≡ sum_from 8 0 (λ k. get_or l.fn.counts k 0))
