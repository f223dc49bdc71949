-- What the tests of interval records come to, by the way the code takes: one law for each way out. Assumes nothing.
use mathlib.Core.Path.{◌≡◌, refl}
use mathlib.Core.Bool.{Bool, true, false, not, ◌&&◌, ◌||◌}
use mathlib.Core.List.{List}
use Prim.Native.Nat.{ℕ, suc, ◌+◌, ◌-◌, ◌*◌, ◌<◌, ◌≤◌}
use native.Mathlib.Nat.{mul-le-mul_right}
use native.Mathlib.Numerals.{add-one}
use native.Mathlib.Omega.{arith}
use borrow.Author.Tests.{eq-eqb, ne_eqb, le-leb, lt-leb}
use lib.Dec.{eqb, leb}
use lib.ListN.{length}
use Rattle.laws.specs.Base.{pick}
use Rattle.laws.specs.Bytes.{number_at}
use Rattle.pricing.specs.Verdict.{Verdict, accepted, refused}
use Rattle.book.specs.Record.{is_accepted}
use Rattle.interval_records.specs.Layout.{head_length, region_length, link_length}
use Rattle.interval_records.specs.Record.{length_at, kind_at, known_length, whole, due_verdict, link_verdict, head_verdict, record_place, region_at, first_refusal}
use Rattle.interval_records.specs.InOrder.{next_verdict, ordered_verdict}
use Rattle.interval_records.specs.Working.{tested_verdict, regions_verdict, records_verdict}

-- ---- the length of a known kind
module _ (markets kind : ℕ) where
  pub known-head : kind ≡ 16 → head_length ≡ known_length markets kind
  known-head e = rw (eq-eqb kind 16 e) refl

  module _ (n : kind ≡ 16 → ⊥) where
    pub known-region : kind ≡ 17 → region_length markets ≡ known_length markets kind
    known-region e = rw (ne_eqb kind 16 n, eq-eqb kind 17 e) refl

    module _ (m : kind ≡ 17 → ⊥) where
      pub known-link : kind ≡ 18 → link_length ≡ known_length markets kind
      known-link e = rw (ne_eqb kind 16 n, ne_eqb kind 17 m, eq-eqb kind 18 e) refl

      pub known-none : (kind ≡ 18 → ⊥) → 0 ≡ known_length markets kind
      known-none e = rw (ne_eqb kind 16 n, ne_eqb kind 17 m, ne_eqb kind 18 e) refl

-- ---- one record: 40, then 41
module _ (markets : ℕ) (bytes : List ℕ) (p : ℕ) where
  pub whole-missing : length bytes - p < 6 → false ≡ whole markets bytes p
  unfolding whole
  whole-missing h = rw (lt-leb 6 (length bytes - p) h) refl

  pub whole_by : 6 ≤ length bytes - p → (size : ℕ) (fits : Bool) → size ≡ length_at bytes p
      → fits ≡ (eqb (known_length markets (kind_at bytes p)) 0 || eqb size (known_length markets (kind_at bytes p)))
      → ((leb 6 size && leb size (length bytes - p)) && fits) ≡ whole markets bytes p
  unfolding whole
  whole_by h size fits s f = rw (le-leb 6 (length bytes - p) h, f, s) refl

  module _ (kind : ℕ) where
    pub due-40 : whole markets bytes p ≡ false → refused 40 ≡ due_verdict kind markets bytes p
    unfolding due_verdict
    due-40 w = rw w refl

    module _ (w : whole markets bytes p ≡ true) where
      pub due-41 : (kind_at bytes p ≡ kind → ⊥) → refused 41 ≡ due_verdict kind markets bytes p
      unfolding due_verdict
      due-41 k = rw (w, ne_eqb (kind_at bytes p) kind k) refl

      pub due-0 : kind_at bytes p ≡ kind → accepted ≡ due_verdict kind markets bytes p
      unfolding due_verdict
      due-0 k = rw (w, eq-eqb (kind_at bytes p) kind k) refl

-- ---- the additional link's record
module _ (linked : Bool) (markets : ℕ) (bytes : List ℕ) (p : ℕ) where
  pub link-none : linked ≡ false → accepted ≡ link_verdict linked markets bytes p
  unfolding link_verdict
  link-none e = rw e refl

  pub link-due : linked ≡ true → due_verdict 18 markets bytes p ≡ link_verdict linked markets bytes p
  unfolding link_verdict
  link-due e = rw e refl

-- ---- the head: its own refusals, then 41 for its region total
module _ (regions markets : ℕ) (bytes : List ℕ) (at : ℕ) where
  pub head-due : is_accepted (due_verdict 16 markets bytes at) ≡ false → due_verdict 16 markets bytes at ≡ head_verdict regions markets bytes at
  unfolding head_verdict
  head-due a = rw a refl

  module _ (a : is_accepted (due_verdict 16 markets bytes at) ≡ true) where
    pub head-41 : (number_at bytes (at + 11) 1 ≡ regions → ⊥) → refused 41 ≡ head_verdict regions markets bytes at
    unfolding head_verdict
    head-41 t = rw (a, ne_eqb (number_at bytes (at + 11) 1) regions t) refl

    pub head-0 : number_at bytes (at + 11) 1 ≡ regions → accepted ≡ head_verdict regions markets bytes at
    unfolding head_verdict
    head-0 t = rw (a, eq-eqb (number_at bytes (at + 11) 1) regions t) refl

-- ---- a region's record: 40 and 41, then its own test
module _ (own : ℕ → Verdict) (markets : ℕ) (bytes : List ℕ) (first k : ℕ) where
  abbrev due : Verdict
  due = due_verdict 17 markets bytes (record_place markets first k)

  pub tested-due : is_accepted due ≡ false → due ≡ tested_verdict own markets bytes first k
  unfolding tested_verdict
  tested-due a = rw a refl

  pub tested-own : is_accepted due ≡ true → own k ≡ tested_verdict own markets bytes first k
  unfolding tested_verdict
  tested-own a = rw a refl

-- ---- records one after the other: those before record j are there where all n are
pub room_at : (first size n j room : ℕ) → j < n → first + n * size ≤ room → first + j * size + size ≤ room
room_at first size n j room l h = omega (arith, mul-le-mul_right size l)

-- ---- the first refusal of the records from k up
pub first-all : (n : ℕ) (f : ℕ → Verdict) → first_refusal (n - 0) 0 f ≡ first_refusal n 0 f
first-all n f = let e : n - 0 ≡ n = omega arith in rw e refl

module _ (n k : ℕ) (f : ℕ → Verdict) where
  pub first-stop : k < n → is_accepted (f k) ≡ false → f k ≡ first_refusal (n - k) k f
  unfolding first_refusal
  first-stop l a = let e : n - k ≡ suc (n - suc k) = omega arith in rw (e, a) refl

  pub first_step : k < n → is_accepted (f k) ≡ true → first_refusal (n - (k + 1)) (k + 1) f ≡ first_refusal (n - k) k f
  unfolding first_refusal
  first_step l a = let e : n - k ≡ suc (n - suc k) = omega arith in rw (add-one, e, a) refl

  pub first_done : n ≤ k → accepted ≡ first_refusal (n - k) k f
  unfolding first_refusal
  first_done l = let e : n - k ≡ 0 = omega arith in rw e refl

-- ---- the head, then the regions' records, then the additional link's
module _ (own : ℕ → Verdict) (linked : Bool) (regions markets : ℕ) (bytes : List ℕ) (at : ℕ) where
  pub records-head : is_accepted (head_verdict regions markets bytes at) ≡ false
      → head_verdict regions markets bytes at ≡ records_verdict own linked regions markets bytes at
  unfolding records_verdict
  records-head a = rw a refl

  module _ (a : is_accepted (head_verdict regions markets bytes at) ≡ true) where
    abbrev regional : Verdict
    regional = regions_verdict own regions markets bytes (at + head_length)

    pub records-region : is_accepted regional ≡ false → regional ≡ records_verdict own linked regions markets bytes at
    unfolding records_verdict
    records-region r = rw (a, r) refl

    pub records-rest : is_accepted regional ≡ true
        → link_verdict linked markets bytes (record_place markets (at + head_length) regions) ≡ records_verdict own linked regions markets bytes at
    unfolding records_verdict
    records-rest r = rw (a, r) refl

-- ---- the records in number order: 45 is the test of each
abbrev pub next-own : ℕ → List ℕ → ℕ → ℕ → Verdict
next-own markets bytes at k = pick (not (eqb (region_at markets bytes (at + head_length) k) k)) (refused 45) accepted

pub records-ordered : (linked : Bool) (regions markets : ℕ) (bytes : List ℕ) (at : ℕ)
    → records_verdict (next-own markets bytes at) linked regions markets bytes at ≡ ordered_verdict linked regions markets bytes at
unfolding records_verdict ordered_verdict tested_verdict next_verdict
records-ordered linked regions markets bytes at = refl

-- 45 of the region that was read
module _ (region k : ℕ) where
  pub next-45 : (region ≡ k → ⊥) → refused 45 ≡ pick (not (eqb region k)) (refused 45) accepted
  next-45 n = rw (ne_eqb region k n) refl

  pub next-0 : region ≡ k → accepted ≡ pick (not (eqb region k)) (refused 45) accepted
  next-0 e = rw (eq-eqb region k e) refl
