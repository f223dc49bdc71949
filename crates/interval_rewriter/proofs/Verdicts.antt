-- What the tests of interval records in any order come to: a region's record by each way out, 42 by the way the code takes, and the records
-- of it. Assumes nothing.
use mathlib.Core.Path.{◌≡◌, refl}
use mathlib.Core.Bool.{Bool, true, false, not, ◌||◌}
use mathlib.Core.List.{List}
use Prim.Native.Nat.{ℕ, ◌+◌}
use lib.Dec.{eqb, ltb}
use Rattle.laws.specs.Lists.{any_below}
use Rattle.pricing.specs.Verdict.{Verdict, accepted, refused}
use Rattle.book.specs.Record.{is_accepted}
use Rattle.interval_records.specs.Layout.{head_length}
use Rattle.interval_records.specs.Record.{due_verdict, record_place, region_at}
use Rattle.interval_records.specs.Working as common
use Rattle.interval_rewriter.specs.AnyOrder.{stray, region_verdict, records_verdict}
use Rattle.interval_rewriter.specs.Working.{stray_verdict}

-- ---- a region's record: its own refusals, then 42
module _ (regions markets : ℕ) (bytes : List ℕ) (first k : ℕ) where
  abbrev due : Verdict
  due = due_verdict 17 markets bytes (record_place markets first k)

  pub region-due : is_accepted due ≡ false → due ≡ region_verdict regions markets bytes first k
  unfolding region_verdict
  region-due a = rw a refl

  module _ (a : is_accepted due ≡ true) where
    pub region-42 : stray regions markets bytes first k ≡ true → refused 42 ≡ region_verdict regions markets bytes first k
    unfolding region_verdict
    region-42 s = rw (a, s) refl

    pub region-0 : stray regions markets bytes first k ≡ false → accepted ≡ region_verdict regions markets bytes first k
    unfolding region_verdict
    region-0 s = rw (a, s) refl

  -- 42 of the region that was read
  pub stray-by : (region : ℕ) (given : Bool) → region ≡ region_at markets bytes first k
      → given ≡ any_below k (λ j. eqb (region_at markets bytes first j) region)
      → (not (ltb region regions) || given) ≡ stray regions markets bytes first k
  stray-by region given r g = rw (g, r) refl

-- ---- 42 of the region that was read
module _ (regions markets : ℕ) (bytes : List ℕ) (first k region : ℕ) (given : Bool) (g : given ≡ any_below k (λ j. eqb (region_at markets bytes first j) region)) where
  pub stray-42 : (not (ltb region regions) || given) ≡ true → refused 42 ≡ stray_verdict regions markets bytes first k region
  stray-42 e =
      let s : (not (ltb region regions) || any_below k (λ j. eqb (region_at markets bytes first j) region)) ≡ true = rw g at e in
      rw s refl

  pub stray-0 : (not (ltb region regions) || given) ≡ false → accepted ≡ stray_verdict regions markets bytes first k region
  stray-0 e =
      let s : (not (ltb region regions) || any_below k (λ j. eqb (region_at markets bytes first j) region)) ≡ false = rw g at e in
      rw s refl

-- ---- the records in any order: 42 is the test of each
abbrev pub stray-own : ℕ → ℕ → List ℕ → ℕ → ℕ → Verdict
stray-own regions markets bytes at k = stray_verdict regions markets bytes (at + head_length) k (region_at markets bytes (at + head_length) k)

pub records-any : (linked : Bool) (regions markets : ℕ) (bytes : List ℕ) (at : ℕ)
    → common.records_verdict (stray-own regions markets bytes at) linked regions markets bytes at ≡ records_verdict linked regions markets bytes at
unfolding common.records_verdict records_verdict common.tested_verdict region_verdict
records-any linked regions markets bytes at = refl
