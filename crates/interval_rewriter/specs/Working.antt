-- Whether a region has a record, and which, and what 42 says of a region that was read: words of functions below the call, whose promise
-- does not speak of them. Assumes nothing.
use Rattle.std.specs.Prelude.{not, ◌||◌, List, ℕ, Option, Some, None, eqb, ltb}
use Rattle.laws.specs.Base.{pick}
use Rattle.laws.specs.Lists.{any_below}
use Rattle.pricing.specs.Verdict.{Verdict, accepted, refused}
use Rattle.interval_records.specs.Record.{region_at}
use Rattle.interval_rewriter.specs.AnyOrder.{record_of}

abbrev pub record_found : ℕ → ℕ → List ℕ → ℕ → ℕ → Option ℕ
record_found regions markets bytes first r =
    let k = record_of regions markets bytes first r in pick (ltb k regions) (Some k) None

-- 42 of record k, which names this region
abbrev pub stray_verdict : ℕ → ℕ → List ℕ → ℕ → ℕ → ℕ → Verdict
stray_verdict regions markets bytes first k region =
    pick (not (ltb region regions) || any_below k (λ j. eqb (region_at markets bytes first j) region)) (refused 42) accepted
