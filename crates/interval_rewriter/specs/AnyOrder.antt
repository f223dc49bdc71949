-- The region records of an interval of the earlier form, "in any order": what 42 says, and which record is a region's. Assumes nothing.
use Rattle.std.specs.Prelude.{Bool, not, ◌||◌, List, ℕ, ◌+◌, ltb, eqb}
use Rattle.laws.specs.Base.{pick}
use Rattle.laws.specs.Lists.{any_below, first_below}
use Rattle.pricing.specs.Verdict.{Verdict, accepted, refused}
use Rattle.book.specs.Record.{is_accepted}
use Rattle.interval_records.specs.Layout.{head_length}
use Rattle.interval_records.specs.Record.{due_verdict, link_verdict, head_verdict, record_place, region_at, first_refusal}

-- 42 "a region from R up or given before"
abbrev pub stray : ℕ → ℕ → List ℕ → ℕ → ℕ → Bool
stray regions markets bytes first k =
    not (ltb (region_at markets bytes first k) regions)
    || any_below k (λ j. eqb (region_at markets bytes first j) (region_at markets bytes first k))

-- of one region's record 40, 41, then 42
unfoldable pub region_verdict : ℕ → ℕ → List ℕ → ℕ → ℕ → Verdict
region_verdict regions markets bytes first k =
    let due = due_verdict 17 markets bytes (record_place markets first k) in
    pick (not (is_accepted due)) due
    (pick (stray regions markets bytes first k) (refused 42)
    accepted)

-- record after record, "per record 40, 41, 42"
abbrev pub regions_verdict : ℕ → ℕ → List ℕ → ℕ → Verdict
regions_verdict regions markets bytes first = first_refusal regions 0 (region_verdict regions markets bytes first)

-- the head, the regions, and the additional link's record "after the last region"
unfoldable pub records_verdict : Bool → ℕ → ℕ → List ℕ → ℕ → Verdict
records_verdict linked regions markets bytes at =
    let head = head_verdict regions markets bytes at in
    let others = regions_verdict regions markets bytes (at + head_length) in
    pick (not (is_accepted head)) head
    (pick (not (is_accepted others)) others
    (link_verdict linked markets bytes (record_place markets (at + head_length) regions)))

-- the record of a region, among the R that follow the head
abbrev pub record_of : ℕ → ℕ → List ℕ → ℕ → ℕ → ℕ
record_of regions markets bytes first r = first_below regions (λ k. eqb (region_at markets bytes first k) r)
