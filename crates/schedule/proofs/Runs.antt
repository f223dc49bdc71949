-- The running totals and counts: before the first day, half-hour by half-hour of a day, and day by day. Assumes nothing.
use mathlib.Core.Path.{◌≡◌, refl, sym, ap, ◌∙◌}
use mathlib.Core.Bool.{Bool, true, not}
use mathlib.Core.List.{List, [], append-nil}
use mathlib.Core.Logic.{⊎_elim}
use Prim.Native.Nat.{ℕ, ◌+◌, ◌*◌, ◌/◌, ◌%◌, ◌≤◌, ◌<◌}
use native.Mathlib.Nat.{div-add-mod'}
use native.Mathlib.Numerals.{add-one}
use native.Mathlib.Omega.{arith}
use borrow.Author.Tests.{ne_eqb, eqb-true, eqb-false, lt-ltb, le-ltb}
use lib.Dec.{eqb, ltb}
use lib.IntN.{ℤ, pos, nat_abs}
use lib.ListN.{length, get_or, set, replicate, length-set, get_or-replicate, get_or-eq_default}
use lib.Seq.{ext_get_or, get_or-set_same, get_or-set_other}
use Rattle.laws.specs.Base.{pick}
use Rattle.laws.specs.Lists.{tabulate, places_of, all_below, first_below, total}
use Rattle.laws.proofs.Lists.{length_run, get_or-tabulate, tabulate-same, tabulate-const, all_same, first_below-same, first_below-all, first_below-split, flat-div, flat-mod}
use Rattle.laws.proofs.Tests.{by-test, lt-or-ge}
use Rattle.pricing.specs.Holding.{in_range}
use Rattle.schedule.specs.Schedule.{prices_of}
use Rattle.schedule.specs.Running.{so_far, totals_of, counts_of, bad_in}
use Rattle.std.specs.Prelude.{Some, None}
use Rattle.std.specs.Option.{option_or}
use Rattle.schedule.specs.Working.{Room, below, found_in, all_in_range, bad_with}

-- the days that half-hour j has gone through when the half-hours below h of day d have been
abbrev pub during : ℕ → ℕ → ℕ → ℕ
during d h j = pick (ltb j h) (d + 1) d

-- ---- 96 numbers that f makes of the prices so far, z at the half-hours from H up: totals and counts alike
module _ {A : Type 0} (f : List ℤ → A) (z : A) (H : ℕ) (prices : List ℤ) (kinds : List ℕ) where
  abbrev cell : (ℕ → ℕ) → ℕ → A
  cell days k = pick (ltb (k % 48) H) (f (so_far H prices kinds (days (k % 48)) k)) z

  -- where half-hour h has gone through `days h` days
  abbrev pub table : (ℕ → ℕ) → List A
  table days = tabulate 96 (cell days)

  pub table_at : (days : ℕ → ℕ) (k : ℕ) → k < 96 → get_or (table days) k z ≡ cell days k
  table_at days k h = get_or-tabulate (cell days) 96 k z h

  pub table-size : (days : ℕ → ℕ) → length (table days) ≡ 96
  table-size days = length_run (cell days) 96 0

  -- the place of a half-hour and kind
  pub table-there : (days : ℕ → ℕ) (kind h : ℕ) → kind ≤ 1 → h < 48 → h < H → get_or (table days) (kind * 48 + h) z ≡ f (prices_of H prices kinds kind h (days h))
  table-there days kind h one in-day below =
      table_at days (kind * 48 + h) (omega arith) ∙ rw (flat-div kind h 48 in-day, flat-mod kind h 48 in-day, lt-ltb h H below)

  -- before the first day
  none_yet : f [] ≡ z → replicate 96 z ≡ table (λ _. 0)
  unfolding prices_of
  none_yet e = sym (tabulate-same 96 (cell (λ _. 0)) (λ _. z) (λ k h. rw e (by-test (ltb (k % 48) H) (λ t. rw t) (λ t. rw t))) ∙ tabulate-const z 96)

  -- before the first half-hour of a day, and after its last
  pub day-none : (d : ℕ) → table (λ _. d) ≡ table (during d 0)
  day-none d = tabulate-same 96 (cell (λ _. d)) (cell (during d 0)) (λ k h. rw (le-ltb (k % 48) 0 (omega arith)))

  pub day-done : (d : ℕ) → table (during d H) ≡ table (λ _. d + 1)
  day-done d = tabulate-same 96 (cell (during d H)) (cell (λ _. d + 1)) (λ k h. by-test (ltb (k % 48) H) (λ t. rw t) (λ t. rw t))

  -- a day of another kind brings a half-hour nothing
  other-kind : (d kind h : ℕ) → (get_or kinds d 0 ≡ kind → ⊥) → prices_of H prices kinds kind h d ≡ prices_of H prices kinds kind h (d + 1)
  unfolding prices_of
  other-kind d kind h e = rw (add-one, ne_eqb (get_or kinds d 0) kind e) (sym (append-nil (prices_of H prices kinds kind h d)))

  -- one half-hour of day d
  module _ (d h : ℕ) (in-day : h < 48) (below : h < H) (kind : get_or kinds d 0 ≤ 1) where
    abbrev place : ℕ
    place = get_or kinds d 0 * 48 + h

    same-elsewhere : (k : ℕ) → (k ≡ place → ⊥) → so_far H prices kinds (during d h (k % 48)) k ≡ so_far H prices kinds (during d (h + 1) (k % 48)) k
    same-elsewhere k e =
        by-test (eqb (k % 48) h)
        (λ t. let q : k % 48 ≡ h = eqb-true (k % 48) h t in
        let w : k / 48 * 48 + k % 48 ≡ k = div-add-mod' k 48 in
        let o : get_or kinds d 0 ≡ k / 48 → ⊥ = λ p. e (sym w ∙ (λ i. sym p i * 48 + q i)) in
        rw (q, le-ltb h h (omega arith), lt-ltb h (h + 1) (omega arith)) (other-kind d (k / 48) h o))
        (λ t. let q : k % 48 ≡ h → ⊥ = eqb-false (k % 48) h t in
        ⊎_elim
        (λ (b : k % 48 < h). rw (lt-ltb (k % 48) h b, lt-ltb (k % 48) (h + 1) (omega arith)))
        (λ (b : h ≤ k % 48). rw (le-ltb (k % 48) h b, le-ltb (k % 48) (h + 1) (omega arith)))
        (lt-or-ge (k % 48) h))

    -- what stood at its place
    pub half-was : (l : List A) → l ≡ table (during d h) → get_or l place z ≡ f (prices_of H prices kinds (get_or kinds d 0) h d)
    half-was l e = rw e (table-there (during d h) (get_or kinds d 0) h kind in-day below ∙ rw (le-ltb h h (omega arith)))

    -- and what stands there with the day's prices
    pub half_step : (l : List A) (v : A) → l ≡ table (during d h) → v ≡ f (prices_of H prices kinds (get_or kinds d 0) h (d + 1)) → set l place v ≡ table (during d (h + 1))
    half_step l v e q =
        ap (λ (t : List A). set t place v) e
        ∙ ext_get_or z (set (table (during d h)) place v) (table (during d (h + 1)))
        (length-set (table (during d h)) place v ∙ table-size (during d h) ∙ sym (table-size (during d (h + 1))))
        (λ k p. there k (omega (arith, length-set (table (during d h)) place v, table-size (during d h))))
      where
        there : (k : ℕ) → k < 96 → get_or (set (table (during d h)) place v) k z ≡ get_or (table (during d (h + 1))) k z
        there k p =
            by-test (eqb k place)
            (λ t. rw (eqb-true k place t)
            (get_or-set_same (table (during d h)) place v z (omega (arith, table-size (during d h))) ∙ q
            ∙ sym (table-there (during d (h + 1)) (get_or kinds d 0) h kind in-day below ∙ rw (lt-ltb h (h + 1) (omega arith)))))
            (λ t. let w : k ≡ place → ⊥ = eqb-false k place t in
            get_or-set_other (table (during d h)) place k v z w
            ∙ table_at (during d h) k p ∙ ap (λ (s : List ℤ). pick (ltb (k % 48) H) (f s) z) (same-elsewhere k w) ∙ sym (table_at (during d (h + 1)) k p))

-- the two tables before the first day
module _ (H : ℕ) (prices : List ℤ) (kinds : List ℕ) where
  pub totals-none : replicate 96 (pos 0) ≡ totals_of H prices kinds 0
  unfolding total
  totals-none = none_yet total (pos 0) H prices kinds refl

  pub counts-none : replicate 96 0 ≡ counts_of H prices kinds 0
  counts-none = none_yet length 0 H prices kinds refl

-- ---- no total is too large: none yet, and with another number in place k
pub room-none : Room 0 (replicate 96 (pos 0))
room-none k =
    ⊎_elim
    (λ (h : k < 96). rw (get_or-replicate 96 k (pos 0) (pos 0) h) (omega arith))
    (λ (h : 96 ≤ k). rw (get_or-eq_default (replicate 96 (pos 0)) (pos 0) h) (omega arith))
    (lt-or-ge k 96)

pub room-set : (n k : ℕ) (l : List ℤ) (v : ℤ) → ((i : ℕ) → nat_abs (get_or l i (pos 0)) ≤ n) → k < length l → nat_abs v ≤ n → (i : ℕ) → nat_abs (get_or (set l k v) i (pos 0)) ≤ n
room-set n k l v all p q i =
    by-test (eqb i k)
    (λ t. rw (eqb-true i k t, get_or-set_same l k v (pos 0) p) q)
    (λ t. rw (get_or-set_other l k i v (pos 0) (eqb-false i k t)) (all i))

-- ---- the first bad price, half-hour by half-hour
-- b is the first before `from`, j which of the six is the first, or 6
next-bad : (all : Bool) (b j from : ℕ) → (all ≡ true → j ≡ 6)
    → pick all (below from b) (option_or (below from b) (below (from + 6) (from + j))) ≡ below (from + 6) (pick (ltb b from) b (from + j))
next-bad all b j from whole =
    ⊎_elim
    (λ (h : b < from). rw (lt-ltb b from h) (rw (lt-ltb b (from + 6) (omega arith)) (by-test all (λ e. rw e) (λ e. rw e))))
    (λ (h : from ≤ b). rw (le-ltb b from h)
    (by-test all
    (λ e. let z = whole e in rw (e, le-ltb (from + j) (from + 6) (omega arith)))
    (λ e. rw e)))
    (lt-or-ge b from)

-- with the six from there on
pub bad-step : (energy : Bool) (prices : List ℤ) (from : ℕ) → bad_with energy (places_of prices from 6) (found_in energy prices from) from ≡ found_in energy prices (from + 6)
bad-step energy prices from =
    rw (in-range, first_out-is, first_below-split from 6 (λ k. not (in_range energy (get_or prices k (pos 0)))))
    (next-bad (all_below 6 there) (bad_in energy prices from) (first_below 6 (λ j. not (there j))) from (first_below-all 6 there))
  where
    there : ℕ → Bool
    there j = in_range energy (get_or prices (from + j) (pos 0))

    at : (j : ℕ) → j < 6 → in_range energy (get_or (places_of prices from 6) j (pos 0)) ≡ there j
    at j h = ap (in_range energy) (get_or-tabulate (λ i. get_or prices (from + i) (pos 0)) 6 j (pos 0) h)

    in-range : all_in_range energy (places_of prices from 6) ≡ all_below 6 there
    in-range = all_same 6 (λ j. in_range energy (get_or (places_of prices from 6) j (pos 0))) there at

    first_out-is : first_below 6 (λ j. not (in_range energy (get_or (places_of prices from 6) j (pos 0)))) ≡ first_below 6 (λ j. not (there j))
    first_out-is = first_below-same 6 (λ j. not (in_range energy (get_or (places_of prices from 6) j (pos 0)))) (λ j. not (there j)) (λ j h. ap not (at j h))

-- ---- what a place of the first n says, and none
pub some-is : (n k p : ℕ) → below n k ≡ Some p → (k < n) × (p ≡ k)
some-is n k p e =
    ⊎_elim
    (λ (h : k < n). let q : Some k ≡ Some p = rw (lt-ltb k n h) at e in (h, cc))
    (λ (h : n ≤ k). let q : None ≡ Some p = rw (le-ltb k n h) at e in cc)
    (lt-or-ge k n)

pub none-is : (n k : ℕ) → below n k ≡ None → n ≤ k
none-is n k e =
    ⊎_elim
    (λ (h : k < n). let q : Some k ≡ None = rw (lt-ltb k n h) at e in cc)
    (λ (h : n ≤ k). h)
    (lt-or-ge k n)
