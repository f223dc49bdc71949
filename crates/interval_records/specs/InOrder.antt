-- The region records of an interval in number order: what 45 says. Assumes nothing.
use Rattle.std.specs.Prelude.{Bool, not, List, ℕ, ◌+◌, eqb}
use Rattle.laws.specs.Base.{pick}
use Rattle.pricing.specs.Verdict.{Verdict, accepted, refused}
use Rattle.book.specs.Record.{is_accepted}
use Rattle.interval_records.specs.Layout.{head_length}
use Rattle.interval_records.specs.Record.{due_verdict, link_verdict, head_verdict, record_place, region_at, first_refusal}

-- of one region's record 40, 41, then "45: a region record that isn't the next region; in the reader it takes the place of 42"
unfoldable pub next_verdict : ℕ → List ℕ → ℕ → ℕ → Verdict
next_verdict markets bytes first k =
    let due = due_verdict 17 markets bytes (record_place markets first k) in
    pick (not (is_accepted due)) due
    (pick (not (eqb (region_at markets bytes first k) k)) (refused 45)
    accepted)

-- "Region records now follow their head as 0, 1 and so on"
abbrev pub regions_verdict : ℕ → ℕ → List ℕ → ℕ → Verdict
regions_verdict regions markets bytes first = first_refusal regions 0 (next_verdict markets bytes first)

-- the head, the regions, and the additional link's record "after the last region"
unfoldable pub ordered_verdict : Bool → ℕ → ℕ → List ℕ → ℕ → Verdict
ordered_verdict linked regions markets bytes at =
    let head = head_verdict regions markets bytes at in
    let others = regions_verdict regions markets bytes (at + head_length) in
    pick (not (is_accepted head)) head
    (pick (not (is_accepted others)) others
    (link_verdict linked markets bytes (record_place markets (at + head_length) regions)))
