-- The call at a place, as the ledger machine is fed it. Assumes nothing.
use Rattle.std.specs.Prelude.{false, List, ℕ, eqb, pos, replicate}
use Rattle.laws.specs.Base.{pick}
use Rattle.ledger.specs.Calls.{Call, entry, threshold, limits, report, restart}
use Rattle.records.specs.declared.reading.Room.{Room}
use Rattle.records.specs.Reading.{kind_at, lengths_at, entry_at, entry_number, table_at}
use Rattle.playing.specs.Playing.{threshold_in, cap_in, floor_in, region_in, market_in}

-- of rings and buffers P is fed the lengths alone, so that any contents do
pub record Lengths : Type 0 where
  pub room : Room
  pub other : ℕ
  pub image : ℕ

unfoldable pub call_at : Lengths → List ℕ → ℕ → Call
call_at m c at =
    pick (eqb (kind_at c at) 65) (entry (replicate (lengths_at c at).ring (pos 0)) (entry_number c at) (entry_at c at) (table_at c at))
    (pick (eqb (kind_at c at) 66) (threshold (threshold_in c at))
    (pick (eqb (kind_at c at) 67) (limits (cap_in c at) (floor_in c at))
    (pick (eqb (kind_at c at) 68) (report (region_in c at) (market_in c at))
    (restart false (replicate m.image 0) (replicate m.other (pos 0))))))
