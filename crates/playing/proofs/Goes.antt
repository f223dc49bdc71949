-- What a call that is played has passed: its record stands whole, its contents fit, and so does its answer. Assumes nothing.
use mathlib.Core.Path.{◌≡◌, ◌∙◌}
use mathlib.Core.Bool.{Bool, true, false, not, ◌&&◌}
use mathlib.Core.List.{List}
use Prim.Native.Nat.{ℕ, ◌+◌, ◌-◌, ◌≤◌}
use borrow.Author.Tests.{eqb-true, eqb-false, ltb-false, leb-true, not-true}
use lib.Dec.{eqb, leb, ltb}
use lib.ListN.{length}
use Rattle.laws.specs.Base.{pick}
use Rattle.laws.specs.Bytes.{number_at}
use Rattle.laws.proofs.Tests.{and_left, and_right, by-test}
use Rattle.records.specs.declared.reading.Lengths.{Lengths}
use Rattle.records.specs.declared.reading.Room.{Room}
use Rattle.records.specs.Reading.{size_at, kind_at, lengths_at, entry_size, entry_size_at, size_for, call_size, fits, answer_size, goes}

module _ (m : Room) (l : Lengths) (t : fits m l ≡ true) where
  abbrev x₁ : Bool
  x₁ = leb (l.prices + l.flows + l.schedule) m.numbers

  abbrev x₂ : Bool
  x₂ = leb l.factors m.factors

  abbrev x₃ : Bool
  x₃ = leb l.table m.table

  abbrev x₄ : Bool
  x₄ = leb l.ring m.ring

  pub fits-numbers : l.prices + l.flows + l.schedule ≤ m.numbers
  fits-numbers = leb-true _ _ (and_left x₁ (x₂ && (x₃ && x₄)) t)

  pub fits-factors : l.factors ≤ m.factors
  fits-factors = leb-true _ _ (and_left x₂ (x₃ && x₄) (and_right x₁ (x₂ && (x₃ && x₄)) t))

  pub fits-table : l.table ≤ m.table
  fits-table = leb-true _ _ (and_left x₃ x₄ (and_right x₂ (x₃ && x₄) (and_right x₁ (x₂ && (x₃ && x₄)) t)))

  pub fits-ring : l.ring ≤ m.ring
  fits-ring = leb-true _ _ (and_right x₃ x₄ (and_right x₂ (x₃ && x₄) (and_right x₁ (x₂ && (x₃ && x₄)) t)))

-- ---- a whole record
module _ (c : List ℕ) (at : ℕ) where
  -- what call_size says where it isn't 0
  pub record Whole : Type 0 where
    pub head : 6 ≤ length c - at
    pub inside : size_at c at ≤ length c - at
    pub by_kind : size_at c at ≡ size_for c at (kind_at c at)
    pub size : call_size c at ≡ size_at c at
    pub some : call_size c at ≡ 0 → ⊥

  cut : ltb (length c - at) 6 ≡ true → call_size c at ≡ 0
  unfolding call_size
  cut t = rw t

  short : ltb (length c - at) 6 ≡ false → ltb (length c - at) (size_at c at) ≡ true → call_size c at ≡ 0
  unfolding call_size
  short t u = rw (t, u)

  wrong : ltb (length c - at) 6 ≡ false → ltb (length c - at) (size_at c at) ≡ false → eqb (size_at c at) (size_for c at (kind_at c at)) ≡ false → call_size c at ≡ 0
  unfolding call_size
  wrong t u v = rw (t, u, v)

  right : ltb (length c - at) 6 ≡ false → ltb (length c - at) (size_at c at) ≡ false → eqb (size_at c at) (size_for c at (kind_at c at)) ≡ true → call_size c at ≡ size_at c at
  unfolding call_size
  right t u v = rw (t, u, v)

  entry-kind : kind_at c at ≡ 65 → size_for c at (kind_at c at) ≡ entry_size_at c at
  unfolding size_for
  entry-kind k = rw k

  cut-entry : ltb (length c - at) 40 ≡ true → entry_size_at c at ≡ 0
  unfolding entry_size_at
  cut-entry t = rw t

  odd-entry : ltb (length c - at) 40 ≡ false → not (eqb (number_at c (at + 11) 1) 0) ≡ true → entry_size_at c at ≡ 0
  unfolding entry_size_at
  odd-entry t u = rw (t, u)

  right-entry : ltb (length c - at) 40 ≡ false → not (eqb (number_at c (at + 11) 1) 0) ≡ false → entry_size_at c at ≡ entry_size (lengths_at c at)
  unfolding entry_size_at
  right-entry t u = rw (t, u)

  pub whole : eqb (call_size c at) 0 ≡ false → Whole
  whole e =
      let z : call_size c at ≡ 0 → ⊥ = eqb-false (call_size c at) 0 e in
      by-test (ltb (length c - at) 6) (λ t. absurd (z (cut t)))
      (λ t. by-test (ltb (length c - at) (size_at c at)) (λ u. absurd (z (short t u)))
      (λ u. by-test (eqb (size_at c at) (size_for c at (kind_at c at)))
      (λ v. record { head = ltb-false _ _ t; inside = ltb-false _ _ u; by_kind = eqb-true _ _ v; size = right t u v; some = z })
      (λ v. absurd (z (wrong t u v)))))

  -- an entry's record
  pub entry_whole : Whole → kind_at c at ≡ 65 → (40 ≤ length c - at) × (call_size c at ≡ entry_size (lengths_at c at))
  entry_whole w k =
      let e : call_size c at ≡ entry_size_at c at = w.size ∙ w.by_kind ∙ entry-kind k in
      by-test (ltb (length c - at) 40) (λ t. absurd (w.some (e ∙ cut-entry t)))
      (λ t. by-test (not (eqb (number_at c (at + 11) 1) 0)) (λ u. absurd (w.some (e ∙ odd-entry t u)))
      (λ u. (ltb-false _ _ t, e ∙ right-entry t u)))

  -- a record of eight bytes after its head
  pub eight-whole : Whole → (k : ℕ) → kind_at c at ≡ k → eqb k 65 ≡ false → (leb 66 k && leb k 68) ≡ true → call_size c at ≡ 14
  unfolding size_for
  eight-whole w k e u t = w.size ∙ w.by_kind ∙ rw (e, u, t)

-- ---- a call that is played
module _ (m : Room) (c : List ℕ) (at left : ℕ) (t : goes m c at left ≡ true) where
  pub goes-whole : Whole c at
  unfolding goes
  goes-whole = whole c at (not-true _ (and_left (not (eqb (call_size c at) 0)) _ t))

  pub goes-fits : eqb (kind_at c at) 65 ≡ true → fits m (lengths_at c at) ≡ true
  unfolding goes
  goes-fits e =
      let u = and_left (pick (eqb (kind_at c at) 65) (fits m (lengths_at c at)) true) (leb (answer_size c at) left) (and_right (not (eqb (call_size c at) 0)) _ t) in rw e at u

  pub goes-room : answer_size c at ≤ left
  unfolding goes
  goes-room =
      leb-true _ _ (and_right (pick (eqb (kind_at c at) 65) (fits m (lengths_at c at)) true) (leb (answer_size c at) left) (and_right (not (eqb (call_size c at) 0)) _ t))
