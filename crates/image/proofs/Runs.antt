-- A window's counted prices as two slices, those up to its end and those from its first place on; a window as a slice of its ring; and a
-- loaded window as its prices and zeros. Assumes nothing.
use mathlib.Core.Path.{◌≡◌, refl, sym, ap, ap₂, ◌∙◌}
use mathlib.Core.Bool.{Bool, true, false, ◌&&◌}
use Rattle.std.specs.Prelude.{Option, Some, None, MatchOption}
use mathlib.Core.List.{List, [], ◌++◌, append-nil, append_assoc}
use Prim.Native.Nat.{ℕ, ◌+◌, ◌*◌, ◌-◌, ◌<◌, ◌≤◌, min}
use native.Mathlib.Omega.{arith}
use borrow.Author.Tests.{lt-ltb, le-ltb, ltb-true, ltb-false, eqb-true, eqb-false}
use borrow.Rule.Slice.PartMut.{put_mid}
use lib.Dec.{ltb, eqb}
use lib.IntN.{ℤ, pos, ◌+ℤ◌}
use lib.Signed.{le_z}
use mir.Syntax.{w64}
use mir.Val.{SFits, of_z, to_z}
use mir.Facts.{to_z-of_z}
use lib.ListN.{length, get_or, get_or-append, take, drop, replicate, length-append, length-drop, drop_of_length-le}
use lib.Seq.{sets, sets-eq, length-sets, drop-drop, length-take-le, get_or-take, get_or-drop, get_or-append-add}
use Rattle.laws.specs.Base.{pick}
use Rattle.laws.specs.Lists.{tabulate, all_below, first_below, total, places_of}
use Rattle.laws.specs.Bytes.{words, price_at}
use Rattle.laws.proofs.Bytes.{sets-append, take-sets}
use Rattle.laws.proofs.Words.{length-words, words_append}
use Rattle.laws.proofs.Lists.{length_run, tabulate-parts, tabulate-same, tabulate-const, get_or-tabulate, all_below-parts, all_same, first_below-found, first_below-none}
use Rattle.laws.proofs.Integers.{integers, le_test}
use Rattle.laws.proofs.Tests.{by-test}
use Rattle.laws.proofs.Joined.{tabulate-list, places-whole}
use Rattle.laws.proofs.Totals.{total-append}
use Rattle.pricing.specs.Holding.{is_energy, in_range}
use Rattle.head.specs.Counted.{wrap, window_of}
use Rattle.image.specs.Working.{found}
use Rattle.image.specs.Loading.{loaded_window}
use Rattle.image.specs.Storing.{window_ok}

-- how many are in the first run: it ends within the window, at its end where a price is left, and the others end before the oldest
pub record Older (w s n m : ℕ) : Type 0 where
  pub part : m ≤ n
  pub within : s + m ≤ w
  pub others : n - m ≤ s
  pub at-end : m < n → s + m ≡ w

pub older : (w s n : ℕ) → s ≤ w → n ≤ w → Older w s n (min n (w - s))
older w s n hs hn = record { part = omega arith; within = omega arith; others = omega arith; at-end = λ h. omega arith }

-- the same of a ring's places
module _ (ring : List ℤ) (base w s n m : ℕ) (o : Older w s n m) where
  first : (k : ℕ) → k < m → get_or ring (base + wrap w (s + k)) (pos 0) ≡ get_or ring (base + s + k) (pos 0)
  first k h =
      let p : s + k < w = omega (arith, o.within) in
      ap (λ (i : ℕ). get_or ring i (pos 0)) (rw (lt-ltb (s + k) w p) (omega arith))

  second : (k : ℕ) → k < n - m → get_or ring (base + wrap w (s + (m + k))) (pos 0) ≡ get_or ring (base + k) (pos 0)
  second k h =
      let e : s + m ≡ w = o.at-end (omega arith) in
      let p : w ≤ s + (m + k) = omega arith in
      ap (λ (i : ℕ). get_or ring i (pos 0)) (rw (le-ltb (s + (m + k)) w p) (omega arith))

  pub window-runs : window_of ring base w s n ≡ places_of ring (base + s) m ++ places_of ring base (n - m)
  window-runs = tabulate-parts m n _ _ _ o.part first second

  pub all_runs : (market : ℕ) → all_below n (λ i. in_range (is_energy market) (get_or ring (base + wrap w (s + i)) (pos 0)))
      ≡ (all_below m (λ i. in_range (is_energy market) (get_or ring (base + s + i) (pos 0))) && all_below (n - m) (λ i. in_range (is_energy market) (get_or ring (base + i) (pos 0))))
  all_runs market = all_below-parts m n _ _ _ o.part (λ k h. ap (in_range (is_energy market)) (first k h)) (λ k h. ap (in_range (is_energy market)) (second k h))

  pub total_runs : total (window_of ring base w s n) ≡ total (places_of ring (base + s) m) +ℤ total (places_of ring base (n - m))
  total_runs = ap total window-runs ∙ total-append (places_of ring (base + s) m) (places_of ring base (n - m))

-- the two slices are the prices in their order
pub runs : (g : List ℤ) (s n m : ℕ) → Older (length g) s n m → take m (drop s g) ++ take (n - m) g ≡ window_of g 0 (length g) s n
runs g s n m o =
    let older = take m (drop s g) in
    let newer = take (n - m) g in
    sym (tabulate-parts m n _ (λ k. get_or older k (pos 0)) (λ k. get_or newer k (pos 0)) o.part first second
    ∙ ap₂ ◌++◌ (tabulate-list (pos 0) older m (length-take-le m (drop s g) (omega (arith, length-drop s g, o.within)))) (tabulate-list (pos 0) newer (n - m) (length-take-le (n - m) g (omega (arith, o.others, o.within)))))
  where
    first : (k : ℕ) → k < m → get_or g (0 + wrap (length g) (s + k)) (pos 0) ≡ get_or (take m (drop s g)) k (pos 0)
    first k h =
        let p : s + k < length g = omega (arith, o.within) in
        ap (λ (i : ℕ). get_or g i (pos 0)) (rw (lt-ltb (s + k) (length g) p) (omega arith)) ∙ sym (get_or-take m (drop s g) k (pos 0) h ∙ get_or-drop s g k (pos 0))

    second : (k : ℕ) → k < n - m → get_or g (0 + wrap (length g) (s + (m + k))) (pos 0) ≡ get_or (take (n - m) g) k (pos 0)
    second k h =
        let e : s + m ≡ length g = o.at-end (omega arith) in
        let p : length g ≤ s + (m + k) = omega arith in
        ap (λ (i : ℕ). get_or g i (pos 0)) (rw (le-ltb (s + (m + k)) (length g) p) (omega arith)) ∙ sym (get_or-take (n - m) g k (pos 0) h)

-- what is had of two slices that are the prices in their order
module _ (f : ℕ → ℤ) (n : ℕ) (a b : List ℤ) (e : a ++ b ≡ tabulate n f) where
  pub runs-length : length a + length b ≡ n
  runs-length = sym (length-append a b) ∙ ap length e ∙ length_run f n 0

  pub runs-total : total (tabulate n f) ≡ total (tabulate (length a) (λ i. get_or a i (pos 0))) +ℤ total (tabulate (length b) (λ i. get_or b i (pos 0)))
  runs-total =
      ap total (sym e) ∙ total-append a b
      ∙ sym (ap₂ ◌+ℤ◌ (ap total (tabulate-list (pos 0) a (length a) refl)) (ap total (tabulate-list (pos 0) b (length b) refl)))

  pub put-runs : (l : List ℕ) (at : ℕ) → sets (sets l at (words (places_of a 0 (length a)))) (at + 4 * length a) (words (places_of b 0 (length b))) ≡ sets l at (words (tabulate n f))
  put-runs l at =
      let p : at + 4 * length a ≡ at + length (words a) = omega (arith, length-words a) in
      rw (places-whole a, places-whole b, p, ← sets-append l at (words a) (words b), ← words_append a b, e)

  pub runs-all : (t : ℤ → Bool) → all_below n (λ i. t (f i)) ≡ (all_below (length a) (λ i. t (get_or a i (pos 0))) && all_below (length b) (λ i. t (get_or b i (pos 0))))
  runs-all t =
      let l = runs-length in
      let m : n - length a ≡ length b = omega arith in
      let one : (k : ℕ) → k < n → f k ≡ get_or (a ++ b) k (pos 0) = λ k h. sym (ap (λ (x : List ℤ). get_or x k (pos 0)) e ∙ get_or-tabulate f n k (pos 0) h) in
      all_below-parts (length a) n _ (λ i. t (get_or a i (pos 0))) (λ i. t (get_or b i (pos 0))) (omega arith)
      (λ k h. ap t (one k (omega arith) ∙ get_or-append a b (pos 0) k h))
      (λ k h. ap t (one (length a + k) (omega arith) ∙ get_or-append-add a b k (pos 0)))
      ∙ ap (λ (k : ℕ). all_below (length a) (λ i. t (get_or a i (pos 0))) && all_below k (λ i. t (get_or b i (pos 0)))) m

-- the test that a sum is its total
pub eqb-le : (x y : ℤ) → SFits w64 x → SFits w64 y → eqb (of_z w64 x) (of_z w64 y) ≡ (le_z x y && le_z y x)
eqb-le x y f h = by (eqb (of_z w64 x) (of_z w64 y)) refl
  where
    by : (t : Bool) → eqb (of_z w64 x) (of_z w64 y) ≡ t → t ≡ (le_z x y && le_z y x)
    by true e =
        let q : x ≡ y = sym (to_z-of_z f) ∙ ap (to_z w64) (eqb-true (of_z w64 x) (of_z w64 y) e) ∙ to_z-of_z h in
        rw (q, le_test y y (omega arith)) refl
    by false e =
        let n : x ≡ y → ⊥ = λ q. eqb-false (of_z w64 x) (of_z w64 y) e (ap (of_z w64) q) in
        by-test (le_z x y) (λ a. by-test (le_z y x) (λ b. absurd (n (omega integers))) (λ b. rw (a, b) refl)) (λ a. rw a refl)

-- a window as a slice of its ring
wrap-below : (w j : ℕ) → 0 < w → j < w + w → wrap w j < w
wrap-below w j h l = by (ltb j w) refl
  where
    by : (t : Bool) → ltb j w ≡ t → pick t j (j - w) < w
    by true e = ltb-true j w e
    by false e = omega (arith, ltb-false j w e)

module _ (ring : List ℤ) (base k w s n : ℕ) (e : k ≡ w) (fits : base + w ≤ length ring) (some : 0 < w) (hs : s ≤ w) (hn : n ≤ w) where
  abbrev v : List ℤ
  v = take k (drop base ring)

  pub slice-length : length v ≡ w
  slice-length = length-take-le k (drop base ring) (omega (arith, length-drop base ring)) ∙ e

  slice-at : (i : ℕ) → i < n → get_or v (0 + wrap (length v) (s + i)) (pos 0) ≡ get_or ring (base + wrap w (s + i)) (pos 0)
  slice-at i h =
      let x = wrap w (s + i) in
      let z : 0 + x ≡ x = omega arith in
      let below : x < w = wrap-below w (s + i) some (omega arith) in
      ap (λ (m : ℕ). get_or v (0 + wrap m (s + i)) (pos 0)) slice-length ∙ ap (λ (m : ℕ). get_or v m (pos 0)) z
      ∙ get_or-take k (drop base ring) x (pos 0) (omega (arith, below)) ∙ get_or-drop base ring x (pos 0)

  pub slice-window : window_of v 0 (length v) s n ≡ window_of ring base w s n
  slice-window = tabulate-same n _ _ slice-at

  pub slice-ok : (market : ℕ) (sum : ℤ) → window_ok v 0 (length v) s n market sum ≡ window_ok ring base w s n market sum
  slice-ok market sum =
      ap₂ (λ (ok : Bool) (t : ℤ). ok && (le_z t sum && le_z sum t)) (all_same n _ _ (λ i h. ap (in_range (is_energy market)) (slice-at i h))) (ap total slice-window)

-- a slice of a list put back as its stores
pub mid-sets : {A : Type 0} (l vs : List A) (at n : ℕ) → length vs ≡ n → at + n ≤ length l → put_mid at n l vs ≡ sets l at vs
mid-sets {A} l vs at n e h =
    sym (sets-eq vs l at (omega arith) ∙ append_assoc (take at l) vs (drop (at + length vs) l)
    ∙ ap (λ (r : List A). take at l ++ (vs ++ r)) (ap (λ (k : ℕ). drop (at + k) l) e ∙ sym (drop-drop n at l)))

-- a loaded window: its prices, then zeros
pub load-runs : (l : List ℕ) (g N F : List ℤ) (n from : ℕ) → n ≤ length g → N ≡ sets g 0 (tabulate n (price_at l from)) → F ≡ replicate (length (take (length N - n) (drop n N))) (pos 0)
    → put_mid n (length N - n) N F ≡ loaded_window l (length g) n from
load-runs l g N F n from h e z =
    let a = tabulate n (price_at l from) in
    let w = length g in
    let same : length N ≡ w = ap length e ∙ length-sets g 0 a in
    let k : length (take (length N - n) (drop n N)) ≡ w - n = length-take-le (length N - n) (drop n N) (omega (arith, length-drop n N)) ∙ ap (λ (m : ℕ). m - n) same in
    let front : take n N ≡ a = ap (take n) e ∙ take-sets g a 0 n (length_run (price_at l from) n 0) (omega arith) in
    let none : drop (length N - n) (drop n N) ≡ [] = drop-drop (length N - n) n N ∙ drop_of_length-le N {i = n + (length N - n)} (omega arith) in
    let o : loaded_window l w n from ≡ a ++ tabulate (w - n) (λ _. pos 0) =
    tabulate-parts n w _ _ _ h
    (λ i p. rw (lt-ltb i n p))
    (λ i p. let q : n ≤ n + i = omega arith in rw (le-ltb (n + i) n q)) in
    ap₂ (λ (x y : List ℤ). x ++ (F ++ y)) front none
    ∙ ap (λ (x : List ℤ). a ++ x) (append-nil F ∙ z ∙ ap (λ (m : ℕ). replicate m (pos 0)) k ∙ sym (tabulate-const (pos 0) (w - n)))
    ∙ sym o

-- the first number that passes a test, as an Option
pub found-first : (n : ℕ) (t : ℕ → Bool) (o : Option ℕ) → MatchOption o ((k : ℕ) → 0 ≤ k → k < n → t k ≡ false) (λ i. (0 ≤ i) × (i < n) × (t i ≡ true) × ((k : ℕ) → 0 ≤ k → k < i → t k ≡ false))
    → o ≡ found n (first_below n t)
found-first n t None h = let z : n ≤ n = omega arith in rw (first_below-none n t (λ k p. h k (omega arith) p), le-ltb n n z)
found-first n t (Some i) h = rw (first_below-found n i t h.1 (λ k q. h.3 k (omega arith) q) h.2, lt-ltb i n h.1)

pub found-some : (n i j : ℕ) → found n i ≡ Some j → (j ≡ i) × (j < n)
found-some n i j = by (ltb i n) refl
  where
    by : (t : Bool) → ltb i n ≡ t → pick t (Some i) None ≡ Some j → (j ≡ i) × (j < n)
    by true e h = let q : i ≡ j = cc in (sym q, omega (arith, ltb-true i n e))
    by false e h = cc

pub found-none : (n i : ℕ) → found n i ≡ None → n ≤ i
found-none n i = by (ltb i n) refl
  where
    by : (t : Bool) → ltb i n ≡ t → pick t (Some i) None ≡ None → n ≤ i
    by true e h = cc
    by false e h = ltb-false i n e
