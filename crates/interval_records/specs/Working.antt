-- The records of an interval, whatever is asked of a region's record that passed 40 and 41: words of the one function below both orders.
-- Assumes nothing.
use Rattle.std.specs.Prelude.{◌≡◌, Result, Bool, not, List, ℕ, ◌+◌, ◌<◌, ◌≤◌, length}
use Rattle.laws.specs.Base.{pick}
use Rattle.pricing.specs.Verdict.{Verdict}
use Rattle.book.specs.declared.record.Refusal.{Refusal}
use Rattle.book.specs.Record.{is_accepted, verdict}
use Rattle.interval_records.specs.Layout.{head_length, region_length}
use Rattle.interval_records.specs.Record.{due_verdict, link_verdict, head_verdict, record_place, region_at, first_refusal}

-- what is known of record k and its region when it is tested
abbrev pub Stands : ℕ → List ℕ → ℕ → ℕ → ℕ → ℕ → Type 0
Stands markets bytes first regions k region =
    (k < regions) × (region < 256) × (region ≡ region_at markets bytes first k)
    × (record_place markets first k + region_length markets ≤ length bytes)

-- that a test, called so, says `own k` of record k
abbrev pub Says : (ℕ → ℕ → Result Unit Refusal → Type 0) → ℕ → List ℕ → ℕ → ℕ → (ℕ → Verdict) → Type 0
Says post markets bytes first regions own =
    (k region : ℕ) (answer : Result Unit Refusal) → Stands markets bytes first regions k region → post k region answer
    → verdict answer ≡ own k

-- of one region's record 40, 41, then its own test
unfoldable pub tested_verdict : (ℕ → Verdict) → ℕ → List ℕ → ℕ → ℕ → Verdict
tested_verdict own markets bytes first k =
    let due = due_verdict 17 markets bytes (record_place markets first k) in
    pick (not (is_accepted due)) due (own k)

abbrev pub regions_verdict : (ℕ → Verdict) → ℕ → ℕ → List ℕ → ℕ → Verdict
regions_verdict own regions markets bytes first = first_refusal regions 0 (tested_verdict own markets bytes first)

unfoldable pub records_verdict : (ℕ → Verdict) → Bool → ℕ → ℕ → List ℕ → ℕ → Verdict
records_verdict own linked regions markets bytes at =
    let head = head_verdict regions markets bytes at in
    let others = regions_verdict own regions markets bytes (at + head_length) in
    pick (not (is_accepted head)) head
    (pick (not (is_accepted others)) others
    (link_verdict linked markets bytes (record_place markets (at + head_length) regions)))
