-- One interval record: where it stands, and what 40 and 41 say of it. Assumes nothing.
use Rattle.std.specs.Prelude.{Bool, not, ◌&&◌, ◌||◌, List, ℕ, zero, suc, ◌+◌, ◌-◌, ◌*◌, leb, eqb, length}
use Rattle.laws.specs.Base.{pick}
use Rattle.laws.specs.Bytes.{number_at}
use Rattle.pricing.specs.Verdict.{Verdict, accepted, refused}
use Rattle.book.specs.Record.{is_accepted}
use Rattle.interval_records.specs.Layout.{head_length, region_length, link_length}

-- ---- what a record says first
abbrev pub length_at : List ℕ → ℕ → ℕ
length_at bytes p = number_at bytes p 4

abbrev pub kind_at : List ℕ → ℕ → ℕ
kind_at bytes p = number_at bytes (p + 4) 2

-- the length of a record of a known kind, 0 for an unknown one
abbrev pub known_length : ℕ → ℕ → ℕ
known_length markets kind =
    pick (eqb kind 16) head_length
    (pick (eqb kind 17) (region_length markets)
    (pick (eqb kind 18) link_length 0))

-- passes 40: "a record missing or cut short, a length below 6 or, for a known kind, another than it has"
unfoldable pub whole : ℕ → List ℕ → ℕ → Bool
whole markets bytes p =
    leb 6 (length bytes - p)
    && (leb 6 (length_at bytes p) && leb (length_at bytes p) (length bytes - p)
    && (eqb (known_length markets (kind_at bytes p)) 0 || eqb (length_at bytes p) (known_length markets (kind_at bytes p))))

-- 40, then 41 "a kind .. that doesn't belong there": a record of the kind that is due
unfoldable pub due_verdict : ℕ → ℕ → List ℕ → ℕ → Verdict
due_verdict kind markets bytes p =
    pick (not (whole markets bytes p)) (refused 40)
    (pick (not (eqb (kind_at bytes p) kind)) (refused 41)
    accepted)

-- ---- the additional link's record: "read .. exactly when the book has the link"
unfoldable pub link_verdict : Bool → ℕ → List ℕ → ℕ → Verdict
link_verdict linked markets bytes p = pick linked (due_verdict 18 markets bytes p) accepted

-- ---- the head: 40, 41 for its kind, 41 for its region total
unfoldable pub head_verdict : ℕ → ℕ → List ℕ → ℕ → Verdict
head_verdict regions markets bytes at =
    pick (not (is_accepted (due_verdict 16 markets bytes at))) (due_verdict 16 markets bytes at)
    (pick (not (eqb (number_at bytes (at + 11) 1) regions)) (refused 41)
    accepted)

-- ---- the region records, the first of them at a place
abbrev pub record_place : ℕ → ℕ → ℕ → ℕ
record_place markets first k = first + k * region_length markets

-- the region that record k names
abbrev pub region_at : ℕ → List ℕ → ℕ → ℕ → ℕ
region_at markets bytes first k = number_at bytes (record_place markets first k + 6) 1

-- the first refusal of n records from record k up: "per record 40, 41", then 42 of the earlier form and 45 in the reader
unfoldable pub first_refusal : ℕ → ℕ → (ℕ → Verdict) → Verdict
first_refusal zero k verdict = accepted
first_refusal (suc n) k verdict = pick (is_accepted (verdict k)) (first_refusal n (suc k) verdict) (verdict k)
