-- `interval_records::in_order::records_verdict` meets its contract. The loop's invariant: the records passed are there, and the first refusal
-- is that of the records still to go. Assumes nothing.
use mathlib.Core.Path.{◌≡◌}
use Prim.Native.Nat.{ℕ, ◌+◌, ◌-◌, ◌≤◌}
use lib.ListN.{length}
use Rattle.pricing.specs.Verdict.{Verdict}
use Rattle.book.specs.Record.{markets_of}
use Rattle.interval_records.specs.Layout.{head_length}
use Rattle.interval_records.specs.Record.{record_place, first_refusal}
use Rattle.interval_records.specs.Working.{Says, tested_verdict}
use Rattle.interval_records.proofs.in_order.records_verdict.Given as goal

abbrev pub invariant-loop-k : goal.invariant-loop-k
invariant-loop-k g l =
    (l.k ≤ l.regions) × (record_place (markets_of l.services) (l.at + head_length) l.k ≤ length l.bytes)
    × ((own : ℕ → Verdict) → Says (goal.F-post g l.test) (markets_of l.services) l.bytes (l.at + head_length) l.regions own
    → let f = tested_verdict own (markets_of l.services) l.bytes (l.at + head_length) in first_refusal (l.regions - l.k) l.k f ≡ first_refusal l.regions 0 f)
