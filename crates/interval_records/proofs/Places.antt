-- What is had of every verdict on an interval's records by having it of an acceptance and of each refusal; no refusal has a place.
-- Assumes nothing.
use mathlib.Core.Bool.{Bool, true, false, not}
use mathlib.Core.List.{List}
use Prim.Native.Nat.{ℕ, zero, suc, ◌+◌}
use lib.Dec.{eqb}
use Rattle.laws.specs.Base.{pick}
use Rattle.laws.specs.Bytes.{number_at}
use Rattle.pricing.specs.Verdict.{Verdict, accepted, refused}
use Rattle.book.specs.Record.{is_accepted}
use Rattle.book.proofs.Places.{Placeless, no_place, taken}
use Rattle.interval_records.specs.Layout.{head_length}
use Rattle.interval_records.specs.Record.{kind_at, whole, due_verdict, link_verdict, head_verdict, record_place, region_at, first_refusal}
use Rattle.interval_records.specs.InOrder.{next_verdict, regions_verdict, ordered_verdict}

module _ (P : Verdict → Type 0) (acceptance : P accepted) where
  choice : (t : Bool) {v w : Verdict} → P v → P w → P (pick t v w)
  choice true a b = a
  choice false a b = b

  each_first : (n k : ℕ) (f : ℕ → Verdict) → ((j : ℕ) → P (f j)) → P (first_refusal n k f)
  unfolding first_refusal
  each_first zero k f h = acceptance
  each_first (suc n) k f h = choice (is_accepted (f k)) (each_first n (suc k) f h) (h k)

  module _ (cut : P (refused 40)) (kinds : P (refused 41)) (M : ℕ) (bytes : List ℕ) where
    each-due : (kind p : ℕ) → P (due_verdict kind M bytes p)
    unfolding due_verdict
    each-due kind p = choice (not (whole M bytes p)) cut (choice (not (eqb (kind_at bytes p) kind)) kinds acceptance)

    each-link : (linked : Bool) (p : ℕ) → P (link_verdict linked M bytes p)
    unfolding link_verdict
    each-link linked p = choice linked (each-due 18 p) acceptance

    each-head : (R at : ℕ) → P (head_verdict R M bytes at)
    unfolding head_verdict
    each-head R at =
        choice (not (is_accepted (due_verdict 16 M bytes at))) (each-due 16 at)
        (choice (not (eqb (number_at bytes (at + 11) 1) R)) kinds acceptance)

    module _ (order : P (refused 45)) where
      each_next : (first k : ℕ) → P (next_verdict M bytes first k)
      unfolding next_verdict
      each_next first k =
          choice (not (is_accepted (due_verdict 17 M bytes (record_place M first k)))) (each-due 17 (record_place M first k))
          (choice (not (eqb (region_at M bytes first k) k)) order acceptance)

      pub each-ordered : (linked : Bool) (R at : ℕ) → P (ordered_verdict linked R M bytes at)
      unfolding ordered_verdict
      each-ordered linked R at =
          choice (not (is_accepted (head_verdict R M bytes at))) (each-head R at)
          (choice (not (is_accepted (regions_verdict R M bytes (at + head_length))))
          (each_first R 0 (next_verdict M bytes (at + head_length)) (each_next (at + head_length)))
          (each-link linked (record_place M (at + head_length) R)))

-- ---- no place
module _ (R M : ℕ) (bytes : List ℕ) where
  pub due-place : (kind p : ℕ) → Placeless (due_verdict kind M bytes p)
  due-place = each-due Placeless taken (no_place 40) (no_place 41) M bytes

  pub head-place : (at : ℕ) → Placeless (head_verdict R M bytes at)
  head-place = each-head Placeless taken (no_place 40) (no_place 41) M bytes R

  pub first-place : (n k : ℕ) (f : ℕ → Verdict) → ((j : ℕ) → Placeless (f j)) → Placeless (first_refusal n k f)
  first-place = each_first Placeless taken

  pub link-place : (linked : Bool) (p : ℕ) → Placeless (link_verdict linked M bytes p)
  link-place = each-link Placeless taken (no_place 40) (no_place 41) M bytes

  pub ordered-place : (linked : Bool) (at : ℕ) → Placeless (ordered_verdict linked R M bytes at)
  ordered-place linked = each-ordered Placeless taken (no_place 40) (no_place 41) M bytes (no_place 45) linked R
