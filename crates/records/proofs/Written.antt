-- Laws of the records of answers: their parts put one after the other, and how long they are. Assumes nothing.
use mathlib.Core.Path.{◌≡◌, refl, ap, ◌∙◌}
use mathlib.Core.List.{List, ◌++◌}
use Prim.Native.Nat.{ℕ, ◌+◌, ◌*◌}
use native.Mathlib.Omega.{arith}
use lib.IntN.{ℤ}
use lib.ListN.{length, length-append}
use lib.Seq.{sets}
use mir.Syntax.{w64}
use mir.Val.{of_z}
use Rattle.laws.specs.Lists.{places_of}
use Rattle.laws.specs.Bytes.{le, words}
use Rattle.laws.proofs.Bytes.{length-le}
use Rattle.laws.proofs.Fields.{part_then}
use Rattle.laws.proofs.Joined.{places-whole}
use Rattle.laws.proofs.Words.{length-words}
use Rattle.pricing.specs.Verdict.{Verdict}
use Rattle.book_calls.specs.Report.{Numbers}
use Rattle.records.specs.Writing.{head_of, entry_record, values_of, report_record}

-- four numbers of these widths
module _ (a b c d x y z u : ℕ) (l k m n o : List ℕ) (at p q r : ℕ) where
  pub four : p ≡ at + a → q ≡ p + b → r ≡ q + c → k ≡ sets l at (le a x) → m ≡ sets k p (le b y) → n ≡ sets m q (le c z) → o ≡ sets n r (le d u)
      → o ≡ sets l at (le a x ++ (le b y ++ (le c z ++ le d u)))
  four e f g s t v w =
      part_then l k o (le a x) _ at p (omega (arith, length-le a x)) s
      (part_then k m o (le b y) _ p q (omega (arith, length-le b y)) t (part_then m n o (le c z) _ q r (omega (arith, length-le c z)) v w))

-- ---- the head of a record
module _ (l k m n o : List ℕ) (at size kind : ℕ) (v : Verdict) where
  pub head-put : (x y : ℕ) → x ≡ v.number → y ≡ v.place → k ≡ sets l at (le 4 size) → m ≡ sets k (at + 4) (le 2 kind) → n ≡ sets m (at + 6) (le 4 x) → o ≡ sets n (at + 10) (le 4 y)
      → o ≡ sets l at (head_of size kind v)
  unfolding head_of
  head-put x y e f =
      rw (← e, ← f) (four 4 2 4 4 size kind x y l k m n o at (at + 4) (at + 6) (at + 10) refl (omega arith) (omega arith))

pub length-head : (size kind : ℕ) (v : Verdict) → length (head_of size kind v) ≡ 14
unfolding head_of
length-head size kind v = simp (length-append, length-le)

-- ---- the answer to an entry
module _ (l k m n : List ℕ) (at : ℕ) (v : Verdict) (count : ℕ) (table : List ℤ) where
  pub entry-put : (u : Verdict) (x : ℕ) → u ≡ v → x ≡ count → k ≡ sets l at (head_of (18 + 4 * length table) 65 u) → m ≡ sets k (at + 14) (le 4 x) → n ≡ sets m (at + 18) (words (places_of table 0 (length table)))
      → n ≡ sets l at (entry_record v count table)
  entry-put u x e f g h i =
      let s = head_of (18 + 4 * length table) 65 u in
      rw (← e, ← f)
      (part_then l k n s (le 4 x ++ words table) at (at + 14) (omega (arith, length-head (18 + 4 * length table) 65 u)) g
      (part_then k m n (le 4 x) (words table) (at + 14) (at + 18) (omega (arith, length-le 4 x)) h
      (i ∙ ap (λ (t : List ℤ). sets m (at + 18) (words t)) (places-whole table))))

pub length-entry : (v : Verdict) (count : ℕ) (table : List ℤ) → length (entry_record v count table) ≡ 18 + 4 * length table
length-entry v count table = simp (length-append, length-le, length-head, length-words) (omega arith)

-- ---- the answer to a report
module _ (l j k m n o : List ℕ) (at : ℕ) (i : Numbers) where
  pub report-put : (x : ℕ) → x ≡ of_z w64 i.sum → j ≡ sets l at (head_of 34 68 i.verdict) → k ≡ sets j (at + 14) (le 8 x) → m ≡ sets k (at + 22) (le 4 i.counted) → n ≡ sets m (at + 26) (le 4 i.mark) → o ≡ sets n (at + 30) (le 4 i.entries)
      → o ≡ sets l at (report_record i)
  unfolding values_of
  report-put x e f g h s t =
      let p = at + 14 in
      let w = four 8 4 4 4 x i.counted i.mark i.entries j k m n o p (at + 22) (at + 26) (at + 30) (omega arith) (omega arith) (omega arith) g h s t in
      part_then l j o (head_of 34 68 i.verdict) _ at p (omega (arith, length-head 34 68 i.verdict)) f (rw (← e) w)

length-values : (n : Numbers) → length (values_of n) ≡ 20
unfolding values_of
length-values n = simp (length-append, length-le)

pub length-report : (n : Numbers) → length (report_record n) ≡ 34
length-report n = simp (length-append, length-head, length-values)
