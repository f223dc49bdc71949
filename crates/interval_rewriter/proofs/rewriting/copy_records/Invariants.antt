-- `interval_rewriter::rewriting::copy_records` meets its contract. What is still to go is the same at every turn. Assumes nothing.
use mathlib.Core.Path.{◌≡◌}
use Prim.Native.Nat.{◌≤◌, ◌-◌, ◌+◌, ◌*◌}
use lib.ListN.{length}
use lib.Seq.{sets}
use Rattle.laws.specs.Lists.{joined}
use Rattle.interval_records.specs.Layout.{head_length, region_length}
use Rattle.interval_rewriter.specs.Rewriting.{record_bytes}
use Rattle.interval_rewriter.proofs.rewriting.copy_records.Given as goal

abbrev pub invariant-loop-r : goal.invariant-loop-r
invariant-loop-r l =
    let f = record_bytes l.regions l.markets l.bytes (l.at + head_length) in
    (l.r ≤ l.regions) × (length l.buffer ≡ length l.initial.buffer)
    × (sets l.buffer (12 + l.r * region_length l.markets) (joined (l.regions - l.r) l.r f) ≡ sets l.initial.buffer head_length (joined l.regions 0 f))
