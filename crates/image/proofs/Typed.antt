-- A book that rule 10 accepts and whose arrays have their lengths: its numbers fit the fields of a head. Assumes nothing.
use mathlib.Core.Path.{◌≡◌, subst}
use mathlib.Core.Bool.{Bool, true, false, not, ◌&&◌}
use mathlib.Core.List.{List}
use mathlib.Core.Logic.{◌⊎◌, inl, inr, ⊎_elim}
use Prim.Native.Nat.{ℕ, ◌+◌, ◌*◌, ◌/◌, ◌%◌, ◌^◌, ◌<◌, ◌≤◌}
use native.Mathlib.Nat.{mul-le-mul}
use native.Mathlib.Omega.{arith}
use lib.IntN.{ℤ, pos, negsuc}
use lib.ListN.{length, get_or, replicate, get_or-eq_default}
use lib.Signed.{le_z}
use lib.Dec.{eqb, ltb}
use borrow.Author.Tests.{eqb-true, ltb-true}
use mir.Syntax.{w32, w64}
use mir.Val.{SFits}
use mir.Facts.{Fits-of_z}
use Rattle.laws.proofs.Tests.{and_left, and_right, lt-or-ge, by-test}
use Rattle.laws.proofs.Integers.{test-le, in-range}
use Rattle.laws.proofs.Fields.{Fit, none, more, fit_append, fit_row}
use Rattle.laws.specs.Lists.{sum_from}
use Rattle.laws.proofs.Joined.{sum-most}
use Rattle.pricing.specs.Holding.{limits_ok}
use Rattle.book.specs.declared.record.Book.{Book}
use Rattle.book.specs.Validity.{threshold_ok, ends_ok}
use Rattle.book.proofs.Validities.{Valid}
use Rattle.head.specs.Layout.{widths, firsts, seconds, values, kind_of, length_of, tail_widths, tail}
use Rattle.head.proofs.Tails.{head-within}

-- what a book's type says and rule 10 does not: the lengths of the arrays that an image holds
pub record Typed (b : Book) : Type 0 where
  pub parents : length b.parents ≡ 8
  pub counts : length b.counts ≡ 8
  pub sums : length b.sums ≡ 88
  pub marks : length b.marks ≡ 88

-- ---- the signed fields
pub threshold-fits : (z : ℤ) → threshold_ok z ≡ true → SFits w64 z
threshold-fits z e =
    in-range w64 z (omega (arith, test-le (pos 1) z (and_left (le_z (pos 1) z) (le_z z (pos 100000000000)) e), test-le z (pos 100000000000) (and_right (le_z (pos 1) z) (le_z z (pos 100000000000)) e)))

pub limits-fit : (cap floor : ℤ) → limits_ok cap floor ≡ true → SFits w32 cap × SFits w32 floor
limits-fit cap floor e =
    let a = le_z (pos 1) cap in
    let b = le_z cap (pos 10000000) in
    let c = le_z (negsuc 9999999) floor in
    let d = le_z floor (negsuc 0) in
    let abc = and_left (a && b && c) d e in
    let ab = and_left (a && b) c abc in (
      in-range w32 cap (omega (arith, test-le (pos 1) cap (and_left a b ab), test-le cap (pos 10000000) (and_right a b ab))),
      in-range w32 floor (omega (arith, test-le (negsuc 9999999) floor (and_right (a && b) c abc), test-le floor (negsuc 0) (and_right (a && b && c) d e))),
    )

-- the number of a kind
kind-most : (second : Bool) → kind_of second ≤ 2
kind-most true = omega arith
kind-most false = omega arith

-- an end is a region or 255
pub ends-are : (R : ℕ) (parents : List ℕ) (from to : ℕ) → ends_ok R parents from to ≡ true → ((from ≡ 255) × (to ≡ 255)) ⊎ ((from < R) × (to < R))
ends-are R parents from to e =
    by-test (eqb from 255 && eqb to 255)
    (λ t. inl (eqb-true from 255 (and_left (eqb from 255) (eqb to 255) t), eqb-true to 255 (and_right (eqb from 255) (eqb to 255) t)))
    (λ t. let q = rw t at e in
    let a = and_left (ltb from R && ltb to R && not (eqb from to)) (not (eqb (get_or parents from 255) to)) (and_left (ltb from R && ltb to R && not (eqb from to) && not (eqb (get_or parents from 255) to)) (not (eqb (get_or parents to 255) from)) q) in
    let c = and_left (ltb from R && ltb to R) (not (eqb from to)) a in
    inr (ltb-true from R (and_left (ltb from R) (ltb to R) c), ltb-true to R (and_right (ltb from R) (ltb to R) c)))

ends-fit : (R : ℕ) (parents : List ℕ) (from to : ℕ) → R ≤ 8 → ends_ok R parents from to ≡ true → (from < 256) × (to < 256)
ends-fit R parents from to h e = ⊎_elim (λ q. (omega (arith, q.0), omega (arith, q.1))) (λ q. (omega (arith, q.0), omega (arith, q.1))) (ends-are R parents from to e)

-- ---- the whole head
module _ (b : Book) (v : Valid b) (t : Typed b) where
  -- an element of an array, and zero past its end
  each : (l : List ℕ) (n m : ℕ) → length l ≡ n → 0 < m → ((i : ℕ) → i < n → get_or l i 0 < m) → (i : ℕ) → get_or l i 0 < m
  each l n m e z h i = ⊎_elim (λ k. h i k) (λ k. rw (get_or-eq_default l 0 {n = i} (omega arith)) z) (lt-or-ge i n)

  parent-fits : (i : ℕ) → get_or b.parents i 0 < 256
  parent-fits = each b.parents 8 256 t.parents (omega arith) (λ i h. ⊎_elim (λ e. omega arith) (λ p. omega arith) (v.parent i h))

  count_most : (i : ℕ) → i < 8 → get_or b.counts i 0 ≤ 2016
  count_most i h = ⊎_elim (λ k. omega (arith, v.count i k, v.window)) (λ k. omega (arith, v.no-count i k h)) (lt-or-ge i b.regions)

  count_fits : (i : ℕ) → get_or b.counts i 0 < 65536
  count_fits = each b.counts 8 65536 t.counts (omega arith) (λ i h. omega (arith, count_most i h))

  mark-fits : (i : ℕ) → get_or b.marks i 0 < 256
  mark-fits =
      each b.marks 88 256 t.marks (omega arith)
      (λ k h. ⊎_elim
      (λ r. ⊎_elim (λ m. omega (arith, v.mark k h r (omega arith))) (λ m. omega (arith, v.no-mark k h (inr (omega arith)))) (lt-or-ge (k % 11) (b.services + 1)))
      (λ r. omega (arith, v.no-mark k h (inl r)))
      (lt-or-ge (k / 11) b.regions))

  length-fits : (second : Bool) → length_of second b < 256 ^ 4
  length-fits second =
      let s : sum_from 8 0 (λ r. get_or b.counts r 0) ≤ 8 * 2016 = sum-most 8 0 2016 (λ r. get_or b.counts r 0) (λ j h. count_most (0 + j) (omega arith)) in
      let m : b.services + 1 ≤ 11 = omega (arith, v.services) in
      omega (arith, mul-le-mul m s, head-within second)

  -- no region is 255 or more, so that an end fits a byte
  end_fits : (b.from < 256) × (b.to < 256)
  end_fits = ends-fit b.regions b.parents b.from b.to (omega (arith, v.regions)) v.ends

  pub tail-fits : Fit tail_widths (tail b)
  unfolding tail_widths tail
  tail-fits =
      let a : b.from < 256 ^ 1 = omega (arith, end_fits.0) in
      let c : b.to < 256 ^ 1 = omega (arith, end_fits.1) in
      let z : 0 < 256 ^ 2 = omega arith in
      let f : 4294967295 < 256 ^ 4 = omega arith in
      more a (more c (more z (more f none)))

  pub fit_of : (second : Bool) → Fit widths (values (length_of second b) (kind_of second) b)
  unfolding widths values firsts seconds
  fit_of second =
      let l = limits-fit b.cap b.floor v.limits in
      fit_append
      (more (length-fits second) (more (omega (arith, kind-most second)) (more (omega (arith, v.regions)) (more (omega (arith, v.services)) (more (omega (arith, v.window)) (more (omega (arith, v.halves)) (more (omega arith) none)))))))
      (fit_append (subst (λ (k : ℕ). Fit (replicate k 1) b.parents) t.parents (fit_row 1 b.parents (λ i. omega (arith, parent-fits i))))
      (fit_append
      (more (omega (arith, v.entries)) (more (omega (arith, v.position, v.halves)) (more (omega arith)
      (more (omega (arith, (Fits-of_z (threshold-fits b.threshold v.threshold)).fits)) (more (omega (arith, (Fits-of_z l.0).fits)) (more (omega (arith, (Fits-of_z l.1).fits)) none))))))
      (fit_append (subst (λ (k : ℕ). Fit (replicate k 2) b.counts) t.counts (fit_row 2 b.counts (λ i. omega (arith, count_fits i))))
      (subst (λ (k : ℕ). Fit (replicate k 1) b.marks) t.marks (fit_row 1 b.marks (λ i. omega (arith, mark-fits i)))))))
