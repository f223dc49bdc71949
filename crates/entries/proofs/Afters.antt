-- Step 6, and the book after an entry, from what the code computes. Assumes nothing.
use mathlib.Core.Path.{◌≡◌, ◌∙◌}
use mathlib.Core.Bool.{Bool, true, false}
use mathlib.Core.List.{List}
use mathlib.Core.Logic.{◌⊎◌, ⊎_elim}
use Prim.Native.Nat.{ℕ, ◌+◌, ◌*◌, ◌/◌, ◌%◌, ◌<◌, ◌≤◌}
use native.Mathlib.Omega.{arith}
use borrow.Author.Tests.{lt-ltb}
use lib.Dec.{ltb}
use lib.IntN.{ℤ, pos}
use lib.ListN.{get_or}
use lib.Signed.{le_z, lt_z}
use Rattle.laws.specs.Base.{pick}
use Rattle.laws.proofs.Tests.{and_left}
use Rattle.laws.proofs.Integers.{integers}
use Rattle.laws.proofs.Lists.{get_or-tabulate, tabulate-same}
use Rattle.book.specs.declared.record.Book.{Book}
use Rattle.book.specs.Validity.{threshold_ok}
use Rattle.book.proofs.Validities.{Valid, used, unused, used-or}
use Rattle.publishing.specs.Entry.{Offer}
use Rattle.counting.specs.Windows.{sums_after}
use Rattle.counting.specs.Periods.{last_of_day, mark_after, marks_after}
use Rattle.entries.specs.Entering.{book_after}
use Rattle.counting.specs.Working.{offered, entering, counts_by, nexts_by, marks_by}
use Rattle.counting.proofs.Picks.{same-pick}

-- a sum of zero is above no threshold
no-mark : (threshold : ℤ) (last : Bool) → threshold_ok threshold ≡ true → mark_after threshold last (pos 0) 0 ≡ 0
no-mark threshold last e =
    let l = and_left (le_z (pos 1) threshold) (le_z threshold (pos 100000000000)) e in
    let z : lt_z threshold (pos 0) ≡ false = omega integers in
    rw z (same-pick last 0)

module _ (b : Book) (v : Valid b) (ring : List ℤ) (o : Offer) (last : Bool) where
  -- an unused place stays without sum and mark
  free : (k : ℕ) → k < 88 → (b.regions ≤ k / 11) ⊎ (b.services < k % 11) → mark_after b.threshold last (get_or (sums_after b ring o) k (pos 0)) (get_or b.marks k 0) ≡ get_or b.marks k 0
  free k h z =
      let s : get_or (sums_after b ring o) k (pos 0) ≡ pos 0 = get_or-tabulate _ 88 k (pos 0) h ∙ rw (unused b.regions b.services k z) (v.no-sum k h z) in
      rw (s, v.no-mark k h z) (no-mark b.threshold last v.threshold)

  pub marks-are : marks_by (11 * b.regions) b.threshold last (sums_after b ring o) b.marks ≡ marks_after b.regions b.services b.threshold last (sums_after b ring o) b.marks
  marks-are =
      tabulate-same 88 _ _ (λ k h. ⊎_elim
      (λ l. rw (used b.regions b.services k l.0 l.1, lt-ltb k (11 * b.regions) (omega (arith, l.0))))
      (λ z. rw (unused b.regions b.services k z, free k h z) (same-pick (ltb k (11 * b.regions)) (get_or b.marks k 0)))
      (used-or b.regions b.services k))

pub after_is : (b : Book) (v : Valid b) (ring prices : List ℤ) (marked : List ℕ) (last : Bool) (position : ℕ) (counts nexts : List ℕ) (sums : List ℤ) (marks : List ℕ)
    → last ≡ last_of_day b.halves b.position
    → position ≡ pick last 0 (b.position + 1)
    → counts ≡ counts_by b.regions b.window marked b.counts
    → nexts ≡ nexts_by b.regions b.window marked b.nexts
    → sums ≡ sums_after b ring (offered prices marked)
    → marks ≡ marks_by (11 * b.regions) b.threshold last sums b.marks
    → ◌≡◌ {A = Book} (record {
      regions = b.regions;
      services = b.services;
      window = b.window;
      halves = b.halves;
      parents = b.parents;
      from = b.from;
      to = b.to;
      threshold = b.threshold;
      cap = b.cap;
      floor = b.floor;
      entries = b.entries + 1;
      position = position;
      counts = counts;
      nexts = nexts;
      sums = sums;
      marks = marks;
    }) (book_after b ring (entering prices marked))
after_is b v ring prices marked last position counts nexts sums marks l p c n s m =
    rw (m, s, marks-are b v ring (offered prices marked) last, p, c, n, l)
