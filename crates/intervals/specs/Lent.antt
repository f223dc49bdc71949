-- The lengths of the four slices that a call on interval records is lent, and a test load. Assumes nothing.
use Rattle.std.specs.Prelude.{Bool, ◌&&◌, ℕ, eqb, length}
use Rattle.book.specs.declared.record.Book.{Book}
use Rattle.book.specs.Record.{table_size, link_count}
use Rattle.interval_records.specs.Layout.{Interval}

-- 11: "R × M prices .., R marks .., R flows, R factors", and the additional link's flow and factor "as an extra last place"
abbrev pub lengths_ok : Book → ℕ → ℕ → ℕ → ℕ → Bool
lengths_ok b prices marked flows factors =
    eqb prices (table_size b.regions b.services) && eqb marked b.regions && eqb flows (link_count b) && eqb factors (link_count b)

abbrev pub slices_ok : Book → Interval → Bool
slices_ok b v = lengths_ok b (length v.prices) (length v.marked) (length v.flows) (length v.factors)
