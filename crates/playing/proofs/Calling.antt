-- The call at a place, by its kind: what the functions for it ask, and what they make together. Assumes nothing.
use mathlib.Core.Path.{◌≡◌, refl, sym, ◌∙◌}
use mathlib.Core.Bool.{Bool, true, false}
use mathlib.Core.List.{List, ◌++◌}
use mathlib.Core.Logic.{◌⊎◌, inl, inr}
use Prim.Native.Nat.{ℕ, ◌+◌, ◌-◌, ◌*◌, ◌≤◌}
use native.Mathlib.Omega.{arith}
use borrow.Author.Tests.{eq-eqb, ne_eqb}
use lib.Dec.{eqb}
use lib.IntN.{ℤ}
use lib.ListN.{length, drop}
use lib.Seq.{sets}
use Rattle.laws.specs.Base.{pick}
use Rattle.book.specs.declared.record.Book.{Book}
use Rattle.book_calls.specs.Setting.{set_threshold, set_limits}
use Rattle.book_calls.specs.Report.{report_of}
use Rattle.image.specs.Storing as Storing
use Rattle.records.specs.Reading.{kind_at, lengths_at, entry_size, signed_at, factors_at, call_size, answer_size}
use Rattle.records.specs.Writing.{plain_record, report_record}
use Rattle.playing.specs.Playing.{State, state_of, room_of, playable, threshold_in, cap_in, floor_in, region_in, market_in, entered_at, entered_record, restart_verdict, swapped, restarted_book, reloaded, step, swaps}
use Rattle.playing.specs.Fed.{Lengths}
use Rattle.playing.proofs.Goes.{Whole, goes-whole, goes-fits, goes-room, entry_whole, eight-whole, fits-numbers, fits-factors, fits-table, fits-ring}
use Rattle.playing.proofs.ByKind.{entry-says, threshold-says, limits-says, report-says, restart-says}

module _ (b : Book) (ring other : List ℤ) (image : List ℕ) (numbers : List ℤ) (factors : List ℕ) (table : List ℤ) (c : List ℕ) (at out : ℕ) (answers : List ℕ) where
  abbrev pub before : State
  before = state_of false b ring other image numbers factors table at out answers

  -- any lengths do: what a call makes of a state does not look at them
  abbrev m : Lengths
  m = record { room = room_of before; other = 0; image = 0 }

  -- ---- what is asked
  module _ (inside : at ≤ length c) (room : out ≤ length answers) (t : playable c before ≡ true) where
    whole : Whole c at
    whole = goes-whole (room_of before) c at (length answers - out) t

    fitting : answer_size c at ≤ length answers - out
    fitting = goes-room (room_of before) c at (length answers - out) t

    pub head-asks : at + 4 + 2 ≤ length c
    head-asks = omega (arith, whole.head)

    pub entry-asks : kind_at c at ≡ 65
        → ((at + 40 ≤ length c) × (at + entry_size (lengths_at c at) ≤ length c) × (out + (18 + 4 * (lengths_at c at).table) ≤ length answers))
        × ((((lengths_at c at).prices + (lengths_at c at).flows + (lengths_at c at).schedule ≤ length numbers) × ((lengths_at c at).factors ≤ length factors))
        × (((lengths_at c at).table ≤ length table) × ((lengths_at c at).ring ≤ length ring)))
    entry-asks k =
        let w = entry_whole c at whole k in
        let f = goes-fits (room_of before) c at (length answers - out) t (eq-eqb (kind_at c at) 65 k) in
        let l = lengths_at c at in
        let n = (entry-says m c before k).size_is in (
          (omega (arith, w.0), omega (arith, w.0, w.1, whole.inside, whole.size), omega (arith, n, fitting)),
          (
            (fits-numbers (room_of before) l f, fits-factors (room_of before) l f),
            (fits-table (room_of before) l f, fits-ring (room_of before) l f),
          ),
        )

    pub threshold-asks : kind_at c at ≡ 66 → (at + 14 ≤ length c) × (out + 14 ≤ length answers)
    threshold-asks k =
        let w = eight-whole c at whole 66 k refl refl in
        (omega (arith, w, whole.inside, whole.size, whole.head), omega (arith, (threshold-says m c before k).size_is, fitting))

    pub limits-asks : kind_at c at ≡ 67 → (at + 14 ≤ length c) × (out + 14 ≤ length answers)
    limits-asks k =
        let w = eight-whole c at whole 67 k refl refl in
        (omega (arith, w, whole.inside, whole.size, whole.head), omega (arith, (limits-says m c before k).size_is, fitting))

    pub report-asks : kind_at c at ≡ 68 → (at + 14 ≤ length c) × (out + 34 ≤ length answers)
    report-asks k =
        let w = eight-whole c at whole 68 k refl refl in
        (omega (arith, w, whole.inside, whole.size, whole.head), omega (arith, (report-says m c before k).size_is, fitting))

    pub restart-asks : (kind_at c at ≡ 65 → ⊥) → (kind_at c at ≡ 66 → ⊥) → (kind_at c at ≡ 67 → ⊥) → (kind_at c at ≡ 68 → ⊥) → out + 14 ≤ length answers
    restart-asks e f g h =
        omega (arith, (restart-says m c before (ne_eqb (kind_at c at) 65 e) (ne_eqb (kind_at c at) 66 f) (ne_eqb (kind_at c at) 67 g) (ne_eqb (kind_at c at) 68 h)).size_is, fitting)

  -- ---- what is made
  abbrev Made : Bool → Book → List ℤ → List ℤ → List ℕ → List ℤ → List ℕ → List ℤ → List ℕ → Type 0
  Made x b₁ ring₁ other₁ image₁ numbers₁ factors₁ table₁ answers₁ =
      (x ≡ swaps c before) × (state_of x b₁ ring₁ other₁ image₁ numbers₁ factors₁ table₁ (at + call_size c at) (out + answer_size c at) answers₁ ≡ step c before)

  -- the state after a call that leaves the rings in their places, from its fields
  fields : (x : State) {b₁ : Book} {ring₁ : List ℤ} {numbers₁ : List ℤ} {factors₁ : List ℕ} {table₁ : List ℤ} {answers₁ : List ℕ}
      → b₁ ≡ x.book → ring₁ ≡ x.ring → other ≡ x.other → image ≡ x.image → numbers₁ ≡ x.numbers → factors₁ ≡ x.factors → table₁ ≡ x.table
      → at + call_size c at ≡ x.at → out + answer_size c at ≡ x.out → answers₁ ≡ x.answers
      → state_of false b₁ ring₁ other image numbers₁ factors₁ table₁ (at + call_size c at) (out + answer_size c at) answers₁ ≡ x
  fields x e₀ e₁ e₂ e₃ e₄ e₅ e₆ e₇ e₈ e₉ = λ i. record {
    book = e₀ i;
    ring = e₁ i;
    other = e₂ i;
    image = e₃ i;
    numbers = e₄ i;
    factors = e₅ i;
    table = e₆ i;
    at = e₇ i;
    out = e₈ i;
    answers = e₉ i;
  }

  no-swap : (k : ℕ) → kind_at c at ≡ k → (k ≡ 65) ⊎ ((k ≡ 66) ⊎ ((k ≡ 67) ⊎ (k ≡ 68))) → false ≡ swaps c before
  unfolding swaps
  no-swap k e (inl h) = rw (e, h)
  no-swap k e (inr (inl h)) = rw (e, h)
  no-swap k e (inr (inr (inl h))) = rw (e, h)
  no-swap k e (inr (inr (inr h))) = rw (e, h)

  pub entry-made : kind_at c at ≡ 65 → {b₁ : Book} {ring₁ : List ℤ} {numbers₁ : List ℤ} {factors₁ : List ℕ} {table₁ : List ℤ} {answers₁ : List ℕ}
      → b₁ ≡ (entered_at c at b ring).book → ring₁ ≡ (entered_at c at b ring).ring ++ drop (lengths_at c at).ring ring
      → numbers₁ ≡ sets numbers 0 (signed_at c at) → factors₁ ≡ sets factors 0 (factors_at c at) → table₁ ≡ (entered_at c at b ring).table ++ drop (lengths_at c at).table table
      → answers₁ ≡ sets answers out (entered_record (entered_at c at b ring))
      → Made false b₁ ring₁ other image numbers₁ factors₁ table₁ answers₁
  entry-made k e₀ e₁ e₂ e₃ e₄ e₅ =
      let s = entry-says m c before k in
      (no-swap 65 k (inl refl), fields _ e₀ e₁ refl refl e₂ e₃ e₄ refl refl e₅ ∙ sym s.after_is)

  pub threshold-made : kind_at c at ≡ 66 → {b₁ : Book} {answers₁ : List ℕ} → b₁ ≡ (set_threshold b (threshold_in c at)).book → answers₁ ≡ sets answers out (plain_record 66 (set_threshold b (threshold_in c at)).verdict)
      → Made false b₁ ring other image numbers factors table answers₁
  threshold-made k e₀ e₁ =
      let s = threshold-says m c before k in
      (no-swap 66 k (inr (inl refl)), fields _ e₀ refl refl refl refl refl refl refl refl e₁ ∙ sym s.after_is)

  pub limits-made : kind_at c at ≡ 67 → {b₁ : Book} {answers₁ : List ℕ} → b₁ ≡ (set_limits b (cap_in c at) (floor_in c at)).book → answers₁ ≡ sets answers out (plain_record 67 (set_limits b (cap_in c at) (floor_in c at)).verdict)
      → Made false b₁ ring other image numbers factors table answers₁
  limits-made k e₀ e₁ =
      let s = limits-says m c before k in
      (no-swap 67 k (inr (inr (inl refl))), fields _ e₀ refl refl refl refl refl refl refl refl e₁ ∙ sym s.after_is)

  pub report-made : kind_at c at ≡ 68 → {b₁ : Book} {answers₁ : List ℕ} → b₁ ≡ b → answers₁ ≡ sets answers out (report_record (report_of b (region_in c at) (market_in c at)))
      → Made false b₁ ring other image numbers factors table answers₁
  report-made k e₀ e₁ =
      let s = report-says m c before k in
      (no-swap 68 k (inr (inr (inr refl))), fields _ e₀ refl refl refl refl refl refl refl refl e₁ ∙ sym s.after_is)

  abbrev o : Storing.Outcome
  o = Storing.stored false b ring image

  swaps-restart : eqb (kind_at c at) 65 ≡ false → eqb (kind_at c at) 66 ≡ false → eqb (kind_at c at) 67 ≡ false → eqb (kind_at c at) 68 ≡ false → swaps c before ≡ swapped o other
  unfolding swaps
  swaps-restart e f g h = rw (e, f, g, h)

  pub restart-made : (kind_at c at ≡ 65 → ⊥) → (kind_at c at ≡ 66 → ⊥) → (kind_at c at ≡ 67 → ⊥) → (kind_at c at ≡ 68 → ⊥)
      → {x : Bool} {b₁ : Book} {other₁ : List ℤ} {image₁ answers₁ : List ℕ}
      → x ≡ swapped o other → b₁ ≡ restarted_book o other b → other₁ ≡ reloaded o other → image₁ ≡ o.buffer → answers₁ ≡ sets answers out (plain_record 69 (restart_verdict o other))
      → Made x b₁ ring other₁ image₁ numbers factors table answers₁
  restart-made n₅ n₆ n₇ n₈ e₀ e₁ e₂ e₃ e₄ =
      let a = ne_eqb (kind_at c at) 65 n₅ in
      let d = ne_eqb (kind_at c at) 66 n₆ in
      let f = ne_eqb (kind_at c at) 67 n₇ in
      let g = ne_eqb (kind_at c at) 68 n₈ in
      let s = restart-says m c before a d f g in (
        e₀ ∙ sym (swaps-restart a d f g),
        (λ i. record {
          book = e₁ i;
          ring = pick (e₀ i) (e₂ i) ring;
          other = pick (e₀ i) ring (e₂ i);
          image = e₃ i;
          numbers = numbers;
          factors = factors;
          table = table;
          at = at + call_size c at;
          out = out + answer_size c at;
          answers = e₄ i;
        }) ∙ sym s.after_is,
      )
