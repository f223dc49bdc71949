-- `interval_writer::writing::put_regions` meets its contract. What is still to go is the same at every turn. Assumes nothing.
use mathlib.Core.Path.{◌≡◌}
use Prim.Native.Nat.{◌≤◌, ◌-◌, ◌+◌, ◌*◌}
use lib.ListN.{length}
use lib.Seq.{sets}
use Rattle.laws.specs.Lists.{joined}
use Rattle.book.specs.Record.{markets_of}
use Rattle.interval_records.specs.Layout.{head_length, region_record}
use Rattle.interval_writer.proofs.writing.put_regions.Given as goal

abbrev pub invariant-loop-r : goal.invariant-loop-r
invariant-loop-r l =
    let f = region_record (markets_of l.services) l.interval in
    (l.r ≤ l.regions) × (length l.buffer ≡ length l.initial.buffer)
    × (sets l.buffer (12 + l.r * l.size) (joined (l.regions - l.r) l.r f) ≡ sets l.initial.buffer head_length (joined l.regions 0 f))
