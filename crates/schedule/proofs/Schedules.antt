-- Laws of the schedule's definitions: of the days of a kind, of a half-hour's prices and of a row. Assumes nothing.
use mathlib.Core.Path.{◌≡◌, refl, sym, ap, ◌∙◌}
use mathlib.Core.Bool.{Bool, true, false, not, ◌&&◌}
use mathlib.Core.List.{List, [], ◌∷◌, ◌++◌}
use mathlib.Core.Logic.{⊎_elim}
use Prim.Native.Nat.{ℕ, zero, suc, ◌+◌, ◌*◌, ◌^◌, ◌≤◌, ◌<◌}
use native.Mathlib.Nat.{mul-le-mul_right}
use native.Mathlib.Numerals.{add-one}
use native.Mathlib.Omega.{arith}
use borrow.Author.Tests.{eq-eqb, ne_eqb, eqb-true, eqb-false, lt-ltb, le-ltb, ltb-true, ltb-false, leb-true, not-false}
use lib.Dec.{eqb, leb, ltb}
use lib.IntN.{ℤ, pos, negsuc, nat_abs, ◌+ℤ◌}
use lib.Signed.{le_z}
use lib.ListN.{length, get_or, set, take, length-append, length-set, get_or-eq_default}
use lib.Seq.{ext_get_or, get_or-set_same, get_or-set_other}
use Rattle.laws.specs.Base.{pick}
use Rattle.laws.specs.Lists.{run, tabulate, puts, first_below, total}
use mir.Syntax.{Width}
use mir.Val.{SFits, hbits}
use Rattle.laws.proofs.Integers.{abs-add, abs-fits}
use Rattle.laws.proofs.Lists.{all-at, any_at, length_run, get_or-tabulate, tabulate-same, first_below-passed, first_below-all, first_below-some, flat-lt}
use Rattle.laws.proofs.Tests.{true-is, and_left, and_right, by-test, lt-or-ge}
use Rattle.laws.proofs.Totals.{total-append, total-next, total_size}
use Rattle.pricing.specs.Verdict.{accepted, refused, refused_at}
use Rattle.pricing.specs.Holding.{lowest, in_range, limits_ok}
use Rattle.schedule.specs.Schedule.{half_hour, prices_of, each_kind, has_kind, sizes_ok, kinds_ok, first_bad, mean, scheduled, row, zeros, refused_by, schedule}
use Rattle.schedule.specs.Running.{totals_of, counts_of}
use Rattle.schedule.specs.Working.{Days, Small, Countable, all_in_range, counted_on, Means, held_mean, row_by}
use Rattle.schedule.proofs.Runs.{table, table-there, during, day-none, day-done, half_step}

-- a total of numbers of at most 10,000,000 each
abbrev Bounded : List ℤ → Type 0
Bounded l = nat_abs (total l) ≤ length l * 10000000

bounded-none : Bounded []
unfolding total
bounded-none = omega arith

bounded-append : (l m : List ℤ) → Bounded l → Bounded m → Bounded (l ++ m)
bounded-append l m p q = rw (total-append l m, length-append l m) (omega (arith, abs-add (total l) (total m)))

-- ---- the sum of six numbers, one by one, in a width with room for six of the largest size
pub sum_step : (w : Width) (b : ℕ) → 6 * b < 2 ^ hbits w → (six : List ℤ) → length six ≡ 6 → (j : ℕ) → j < 6 → (sum : ℤ) → sum ≡ total (take j six) → nat_abs sum ≤ j * b → nat_abs (get_or six j (pos 0)) ≤ b
    → (sum +ℤ get_or six j (pos 0) ≡ total (take (j + 1) six)) × (nat_abs (sum +ℤ get_or six j (pos 0)) ≤ (j + 1) * b) × SFits w (sum +ℤ get_or six j (pos 0))
sum_step w b room six size j in-six sum is small next =
    let large : nat_abs (sum +ℤ get_or six j (pos 0)) ≤ (j + 1) * b = omega (arith, abs-add sum (get_or six j (pos 0))) in (
      ap (λ (z : ℤ). z +ℤ get_or six j (pos 0)) is ∙ sym (total-next six j (omega arith)),
      large,
      abs-fits w (sum +ℤ get_or six j (pos 0)) (let in-six' : j + 1 ≤ 6 = omega arith in let all = mul-le-mul_right b in-six' in omega arith),
    )

-- ---- the six prices of a half-hour
pub six-are : (f : ℕ → ℤ) {p0 p1 p2 p3 p4 p5 : ℤ} → p0 ≡ f 0 → p1 ≡ f 1 → p2 ≡ f 2 → p3 ≡ f 3 → p4 ≡ f 4 → p5 ≡ f 5
    → p0 ∷ p1 ∷ p2 ∷ p3 ∷ p4 ∷ p5 ∷ [] ≡ tabulate 6 f
unfolding run
six-are f e0 e1 e2 e3 e4 e5 = λ i. e0 i ∷ e1 i ∷ e2 i ∷ e3 i ∷ e4 i ∷ e5 i ∷ []

module _ (H : ℕ) (prices : List ℤ) (d h : ℕ) where
  pub half_length : length (half_hour H prices d h) ≡ 6
  half_length = length_run (λ j. get_or prices (d * (6 * H) + 6 * h + j) (pos 0)) 6 0

  half-bounded : ((k : ℕ) → nat_abs (get_or prices k (pos 0)) ≤ 10000000) → Bounded (half_hour H prices d h)
  half-bounded most =
      total_size 10000000 (half_hour H prices d h)
      (λ k p. rw (get_or-tabulate (λ j. get_or prices (d * (6 * H) + 6 * h + j) (pos 0)) 6 k (pos 0) (omega (arith, half_length))) (most (d * (6 * H) + 6 * h + k)))

-- they lie within the 28 days
pub within : {H : ℕ} {prices : List ℤ} {kinds : List ℕ} → Days H prices kinds → (d h : ℕ) → d < 28 → h < H → (d * (6 * H) + 6 * h + 6 ≤ length prices) × (length prices ≤ 8064)
within {H} w d h p q = (omega (arith, w.size, flat-lt d (6 * h + 5) 28 (6 * H) p (omega arith)), omega (arith, w.size, w.halves))

-- ---- the prices of a half-hour and kind, day by day
module _ (H : ℕ) (prices : List ℤ) (kinds : List ℕ) (kind h : ℕ) where
  taken : (d : ℕ) → get_or kinds d 0 ≡ kind → prices_of H prices kinds kind h (d + 1) ≡ prices_of H prices kinds kind h d ++ half_hour H prices d h
  unfolding prices_of
  taken d e = rw (add-one, eq-eqb (get_or kinds d 0) kind e)

  -- a day of the kind: the total and the count with its six
  pub prices-taken : (d : ℕ) → get_or kinds d 0 ≡ kind → total (prices_of H prices kinds kind h d) +ℤ total (half_hour H prices d h) ≡ total (prices_of H prices kinds kind h (d + 1))
  prices-taken d e = rw (taken d e) (sym (total-append (prices_of H prices kinds kind h d) (half_hour H prices d h)))

  pub prices-longer : (d : ℕ) → get_or kinds d 0 ≡ kind → length (prices_of H prices kinds kind h d) + 6 ≡ length (prices_of H prices kinds kind h (d + 1))
  prices-longer d e = rw (taken d e, length-append (prices_of H prices kinds kind h d) (half_hour H prices d h), half_length H prices d h)

  -- at most six a day
  pub prices-most : (n : ℕ) → length (prices_of H prices kinds kind h n) ≤ 6 * n
  unfolding prices_of
  prices-most zero = omega arith
  prices-most (suc n) =
      rw (length-append (prices_of H prices kinds kind h n) (pick (eqb (get_or kinds n 0) kind) (half_hour H prices n h) []))
      (by-test (eqb (get_or kinds n 0) kind)
      (λ e. rw e (omega (arith, half_length H prices n h, prices-most n)))
      (λ e. rw e (omega (arith, prices-most n))))

  -- some, where a day is of the kind
  pub prices-some : (n d : ℕ) → d < n → eqb (get_or kinds d 0) kind ≡ true → 1 ≤ length (prices_of H prices kinds kind h n)
  unfolding prices_of
  prices-some zero d p e = absurd (omega arith)
  prices-some (suc n) d p e =
      rw (length-append (prices_of H prices kinds kind h n) (pick (eqb (get_or kinds n 0) kind) (half_hour H prices n h) []))
      (⊎_elim
      (λ (q : d < n). omega (arith, prices-some n d q e))
      (λ (q : n ≤ d). let s : n ≡ d = omega arith in rw (ap (λ (i : ℕ). eqb (get_or kinds i 0) kind) s ∙ e) (omega (arith, half_length H prices n h)))
      (lt-or-ge d n))

  -- none is large, so their total is not
  pub prices-bounded : ((k : ℕ) → nat_abs (get_or prices k (pos 0)) ≤ 10000000) → (n : ℕ) → Bounded (prices_of H prices kinds kind h n)
  unfolding prices_of
  prices-bounded most zero = bounded-none
  prices-bounded most (suc n) =
      bounded-append (prices_of H prices kinds kind h n) (pick (eqb (get_or kinds n 0) kind) (half_hour H prices n h) [])
      (prices-bounded most n)
      (by-test (eqb (get_or kinds n 0) kind) (λ e. rw e (half-bounded H prices n h most)) (λ e. rw e bounded-none))

-- ---- a day's counts
module _ {H : ℕ} {prices : List ℤ} {kinds : List ℕ} (w : Days H prices kinds) (d : ℕ) (in-weeks : d < 28) where
  abbrev from : ℕ
  from = get_or kinds d 0 * 48

  one : get_or kinds d 0 ≤ 1
  one = w.kind d in-weeks

  before : (h : ℕ) → h < H → get_or (counts_of H prices kinds d) (from + h) 0 ≡ length (prices_of H prices kinds (get_or kinds d 0) h d)
  before h p = table-there length 0 H prices kinds (λ _. d) (get_or kinds d 0) h one (omega (arith, w.halves)) p

  pub countable : Countable H from (counts_of H prices kinds d)
  countable =
      record {
        places = omega (arith, one, w.halves);
        room = λ h p. omega (arith, before h p, prices-most H prices kinds (get_or kinds d 0) h d);
      }

  counted-to : (h : ℕ) → h ≤ H → counted_on h from (counts_of H prices kinds d) ≡ table length 0 H prices kinds (during d h)
  unfolding puts
  counted-to zero p = day-none length 0 H prices kinds d
  counted-to (suc h) p =
      let n : suc h ≡ h + 1 = omega arith in
      half_step length 0 H prices kinds d h (omega (arith, w.halves)) p one (counted_on h from (counts_of H prices kinds d)) (get_or (counts_of H prices kinds d) (from + h) 0 + 6) (counted-to h (omega arith))
      (ap (λ (x : ℕ). x + 6) (before h p) ∙ prices-longer H prices kinds (get_or kinds d 0) h d refl)
      ∙ ap (λ (x : ℕ). table length 0 H prices kinds (during d x)) (sym n)

  -- they are those of the days so far, this one included
  pub day-counted : counted_on H from (counts_of H prices kinds d) ≡ counts_of H prices kinds (d + 1)
  day-counted = counted-to H (omega arith) ∙ day-done length 0 H prices kinds d

-- ---- a row that is filled from the front: f at the places below h, zeros from there up
module _ (f : ℕ → ℤ) where
  abbrev pub filled : ℕ → List ℤ
  filled h = tabulate 48 (λ k. pick (ltb k h) (f k) (pos 0))

  pub filled_none : zeros ≡ filled 0
  unfolding run
  filled_none = refl

  filled_at : (h k : ℕ) → k < 48 → get_or (filled h) k (pos 0) ≡ pick (ltb k h) (f k) (pos 0)
  filled_at h k p = get_or-tabulate (λ k. pick (ltb k h) (f k) (pos 0)) 48 k (pos 0) p

  filled-length : (h : ℕ) → length (filled h) ≡ 48
  filled-length h = length_run (λ k. pick (ltb k h) (f k) (pos 0)) 48 0

  pub filled-step : (h : ℕ) {l : List ℤ} {v : ℤ} → l ≡ filled h → h < 48 → v ≡ f h → set l h v ≡ filled (h + 1)
  filled-step h i b e =
      rw (i, e)
      (ext_get_or (pos 0) (set (filled h) h (f h)) (filled (h + 1)) (rw (length-set, filled-length) (sym (filled-length (h + 1)))) (λ k p. at k (omega (arith, length-set (filled h) h (f h), filled-length h))))
    where
      at : (k : ℕ) → k < 48 → get_or (set (filled h) h (f h)) k (pos 0) ≡ get_or (filled (h + 1)) k (pos 0)
      at k p =
          by-test (eqb k h)
          (λ t. rw (eqb-true k h t, get_or-set_same (filled h) h (f h) (pos 0) (omega (arith, filled-length h)), filled_at (h + 1) h b, lt-ltb h (h + 1) (omega arith)))
          (λ t.
          rw (get_or-set_other (filled h) h k (f h) (pos 0) (eqb-false k h t), filled_at h k p, filled_at (h + 1) k p)
          (by-test (ltb k h)
          (λ s. rw (s, lt-ltb k (h + 1) (omega (arith, ltb-true k h s))))
          (λ s. rw (s, le-ltb k (h + 1) (omega (arith, ltb-false k h s, eqb-false k h t))))))

-- ---- what the refusals that were passed leave
range_size : (energy : Bool) (z : ℤ) → in_range energy z ≡ true → nat_abs z ≤ 10000000
range_size energy (pos n) e = leb-true n 10000000 (and_right (le_z (lowest energy (negsuc 9999999)) (pos n)) (leb n 10000000) e)
range_size true (negsuc n) e = omega (arith, leb-true n 9999999 (and_left (leb n 9999999) true e))
range_size false (negsuc n) e = absurd (true-is e)

-- six prices in range
pub six-small : (energy : Bool) (six : List ℤ) → all_in_range energy six ≡ true → Small six
six-small energy six e j h = range_size energy (get_or six j (pos 0)) (all-at 6 (λ j. in_range energy (get_or six j (pos 0))) e j h)

-- all six are in range exactly if the first that is not is none of them
pub all-by-first : (energy : Bool) (six : List ℤ) → eqb (first_below 6 (λ j. not (in_range energy (get_or six j (pos 0))))) 6 ≡ all_in_range energy six
all-by-first energy six =
    by-test (all_in_range energy six)
    (λ e. rw e (eq-eqb first 6 (first_below-all 6 there e)))
    (λ e. rw e (ne_eqb first 6 (λ n. let l = first_below-some 6 there e in omega arith)))
  where
    there : ℕ → Bool
    there j = in_range energy (get_or six j (pos 0))

    first : ℕ
    first = first_below 6 (λ j. not (there j))

module _ (H : ℕ) (prices : List ℤ) (kinds : List ℕ) (e : sizes_ok H prices kinds ≡ true) where
  pub sizes : ((1 ≤ H) × (H ≤ 48)) × ((length prices ≡ 28 * (6 * H)) × (length kinds ≡ 28))
  sizes =
      let a = leb 1 H in
      let b = leb H 48 in
      let p = eqb (length prices) (28 * (6 * H)) in
      let k = eqb (length kinds) 28 in
      let abp = and_left (a && b && p) k e in
      let ab = and_left (a && b) p abp in (
        (leb-true 1 H (and_left a b ab), leb-true H 48 (and_right a b ab)),
        (eqb-true (length prices) (28 * (6 * H)) (and_right (a && b) p abp), eqb-true (length kinds) 28 (and_right (a && b && p) k e)),
      )

  -- what the pass is given
  pub days : kinds_ok kinds ≡ true → Days H prices kinds
  days k =
      let each = and_left (each_kind kinds) (has_kind kinds 0) (and_left (each_kind kinds && has_kind kinds 0) (has_kind kinds 1) k) in
      record {
        halves = sizes.0;
        size = sizes.1.0;
        days = sizes.1.1;
        kind = λ d p. leb-true (get_or kinds d 0) 1 (all-at 28 (λ d. leb (get_or kinds d 0) 1) each d p);
      }

-- both kinds, where the kinds pass
pub both-kinds : (kinds : List ℕ) → kinds_ok kinds ≡ true → (has_kind kinds 0 ≡ true) × (has_kind kinds 1 ≡ true)
both-kinds kinds e = (
  and_right (each_kind kinds) (has_kind kinds 0) (and_left (each_kind kinds && has_kind kinds 0) (has_kind kinds 1) e),
  and_right (each_kind kinds && has_kind kinds 0) (has_kind kinds 1) e,
)

-- every price is at most 10,000,000, where none is out of range
ranged : (energy : Bool) (prices : List ℤ) → length prices ≤ first_bad energy prices → (k : ℕ) → nat_abs (get_or prices k (pos 0)) ≤ 10000000
ranged energy prices none k =
    ⊎_elim
    (λ (p : k < length prices). range_size energy (get_or prices k (pos 0)) (not-false (in_range energy (get_or prices k (pos 0))) (first_below-passed (length prices) (λ k. not (in_range energy (get_or prices k (pos 0)))) k (omega arith))))
    (λ (p : length prices ≤ k). rw (get_or-eq_default prices (pos 0) p) (omega arith))
    (lt-or-ge k (length prices))

-- ---- the totals and counts of all 28 days
module _ {H : ℕ} {prices : List ℤ} {kinds : List ℕ} (w : Days H prices kinds) (kind : ℕ) (one : kind ≤ 1) where
  -- have means
  pub means : (energy : Bool) → length prices ≤ first_bad energy prices → has_kind kinds kind ≡ true → Means H (totals_of H prices kinds 28) (counts_of H prices kinds 28) kind
  means energy none has =
      record {
        halves = w.halves.1;
        kinds = one;
        meaned = λ h p.
            let q : h < 48 = omega (arith, w.halves) in
            let d = any_at 28 (λ d. eqb (get_or kinds d 0) kind) has in
            rw (table-there total (pos 0) H prices kinds (λ _. 28) kind h one q p, table-there length 0 H prices kinds (λ _. 28) kind h one q p) (
              (prices-some H prices kinds kind h 28 d.0 d.1 d.2, omega (arith, prices-most H prices kinds kind h 28)),
              prices-bounded H prices kinds kind h (ranged energy prices none) 28,
            );
      }

  -- and make the row
  pub row_is : (low cap : ℤ) → row_by H low cap (totals_of H prices kinds 28) (counts_of H prices kinds 28) kind ≡ row H low cap prices kinds kind
  unfolding held_mean scheduled mean
  row_is low cap = tabulate-same 48 _ _ (λ h q. by-test (ltb h H) (λ t. rw t (at h q (ltb-true h H t))) (λ t. rw t))
    where
      at : (h : ℕ) → h < 48 → h < H → held_mean (get_or (totals_of H prices kinds 28) (kind * 48 + h) (pos 0)) (get_or (counts_of H prices kinds 28) (kind * 48 + h) 0) low cap ≡ scheduled H low cap prices kinds kind h
      at h q p = rw (table-there total (pos 0) H prices kinds (λ _. 28) kind h one q p, table-there length 0 H prices kinds (λ _. 28) kind h one q p)

-- ---- the schedule, a law for each way out
module _ (H : ℕ) (cap floor : ℤ) (energy : Bool) (prices : List ℤ) (kinds : List ℕ) where
  pub says-31 : sizes_ok H prices kinds ≡ false → refused_by (refused 31) ≡ schedule H cap floor energy prices kinds
  unfolding schedule
  says-31 a = rw a

  module _ (a : sizes_ok H prices kinds ≡ true) where
    pub says-32 : kinds_ok kinds ≡ false → refused_by (refused 32) ≡ schedule H cap floor energy prices kinds
    unfolding schedule
    says-32 b = rw (a, b)

    module _ (b : kinds_ok kinds ≡ true) where
      pub says-19 : limits_ok cap floor ≡ false → refused_by (refused 19) ≡ schedule H cap floor energy prices kinds
      unfolding schedule
      says-19 d = rw (a, b, d)

      module _ (d : limits_ok cap floor ≡ true) where
        pub says-16 : first_bad energy prices < length prices → refused_by (refused_at 16 (first_bad energy prices)) ≡ schedule H cap floor energy prices kinds
        unfolding schedule
        says-16 f = rw (a, b, d, lt-ltb (first_bad energy prices) (length prices) f)

        pub says-made : length prices ≤ first_bad energy prices → record { verdict = accepted; weekday = row H (lowest energy floor) cap prices kinds 0; weekend = row H (lowest energy floor) cap prices kinds 1 } ≡ schedule H cap floor energy prices kinds
        unfolding schedule
        says-made f = rw (a, b, d, le-ltb (first_bad energy prices) (length prices) f)
