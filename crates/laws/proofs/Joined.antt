-- Laws of lists that are joined, of sums of lengths, and of scattered stores. Assumes nothing.
use mathlib.Core.Path.{◌≡◌, refl, sym, ap, ap₂, ◌∙◌}
use mathlib.Core.List.{List, ◌++◌}
use mathlib.Core.Logic.{⊎_elim}
use Prim.Native.Nat.{ℕ, zero, suc, ◌+◌, ◌*◌, ◌-◌, ◌/◌, ◌<◌, ◌≤◌}
use native.Mathlib.Nat.{not-suc-le-zero, suc-mul, mul-zero}
use native.Mathlib.Omega.{arith}
use lib.Arith.{digits_div}
use lib.IntN.{ℤ, pos}
use lib.ListN.{length, get_or, take, drop, length-append, get_or-append}
use lib.Seq.{ext_get_or, get_or-append-add, get_or-set_same, get_or-set_other, drop-cons}
use Rattle.laws.specs.Lists.{run, tabulate, puts, joined, sum_from, places_of}
use Rattle.laws.proofs.Tests.{lt-or-ge}
use Rattle.laws.proofs.Lists.{length_run, get_or-tabulate, length-puts}

-- ---- sums
pub sum-last : (n i : ℕ) (f : ℕ → ℕ) → sum_from (suc n) i f ≡ sum_from n i f + f (i + n)
unfolding sum_from
sum-last zero i f = let e : i + 0 ≡ i = omega arith in rw e (omega arith)
sum-last (suc n) i f = let e : i + suc n ≡ suc i + n = omega arith in rw e (omega (arith, sum-last n (suc i) f))

-- the first n of them
pub sum-next : (n : ℕ) (f : ℕ → ℕ) → sum_from (suc n) 0 f ≡ sum_from n 0 f + f n
sum-next n f = let e : 0 + n ≡ n = omega arith in rw e at (sum-last n 0 f)

pub sum-split : (a b i : ℕ) (f : ℕ → ℕ) → sum_from (a + b) i f ≡ sum_from a i f + sum_from b (i + a) f
unfolding sum_from
sum-split zero b i f = let z : 0 + b ≡ b = omega arith in let y : i + 0 ≡ i = omega arith in rw (z, y) (omega arith)
sum-split (suc a) b i f =
    let e : suc a + b ≡ suc (a + b) = omega arith in
    let g : i + suc a ≡ suc i + a = omega arith in
    rw (e, g) (omega (arith, sum-split a b (suc i) f))

-- number k of part q, among the first n
pub sum_below : (f : ℕ → ℕ) (n q k : ℕ) → q < n → k < f q → sum_from q 0 f + k < sum_from n 0 f
sum_below f n q k h l =
    let e : n ≡ suc q + (n - suc q) = omega arith in
    rw e (omega (arith, sum-split (suc q) (n - suc q) 0 f, sum-next q f))

pub sum_same : (n i v : ℕ) (f : ℕ → ℕ) → ((j : ℕ) → j < n → f (i + j) ≡ v) → sum_from n i f ≡ n * v
unfolding sum_from
sum_same zero i v f h = omega arith
sum_same (suc n) i v f h =
    let e : f i ≡ v = ap f (omega arith) ∙ h 0 (omega arith) in
    omega (arith, e, sum_same n (suc i) v f (λ j l. ap f (omega arith) ∙ h (suc j) (omega arith)), suc-mul n v)

pub sum-most : (n i v : ℕ) (f : ℕ → ℕ) → ((j : ℕ) → j < n → f (i + j) ≤ v) → sum_from n i f ≤ n * v
unfolding sum_from
sum-most zero i v f h = omega arith
sum-most (suc n) i v f h =
    let e : f i ≡ f (i + 0) = ap f (omega arith) in
    let g : (j : ℕ) → j < n → f (suc i + j) ≤ v = λ j l. let y : f (suc i + j) ≡ f (i + suc j) = ap f (omega arith) in omega (arith, h (suc j) (omega arith)) in
    omega (arith, h 0 (omega arith), sum-most n (suc i) v f g, suc-mul n v)

-- R blocks of M equal numbers
pub sum-blocks : (M R r : ℕ) (g : ℕ → ℕ) → sum_from (R * M) (r * M) (λ q. g (q / M)) ≡ M * sum_from R r g
unfolding sum_from
sum-blocks M zero r g = let z : zero * M ≡ 0 = omega arith in rw z (sym (mul-zero M))
sum-blocks M (suc R) r g =
    let e : suc R * M ≡ M + R * M = omega (arith, suc-mul R M) in
    let f : r * M + M ≡ suc r * M = omega (arith, suc-mul r M) in
    rw (e, sum-split M (R * M) (r * M) (λ q. g (q / M)), sum_same M (r * M) (g r) (λ q. g (q / M)) (λ j l. ap g (digits_div r l)), f, sum-blocks M R (suc r) g) (omega arith)

-- ---- an element of a list that is put together
module _ {A : Type 0} where
  pub at_left : (xs ys : List A) (n j : ℕ) (d : A) → length xs ≡ n → j < n → get_or (xs ++ ys) j d ≡ get_or xs j d
  at_left xs ys n j d e h = get_or-append xs ys d j (omega arith)

  pub at_right : (xs ys : List A) (n j : ℕ) (d : A) → length xs ≡ n → n ≤ j → get_or (xs ++ ys) j d ≡ get_or ys (j - n) d
  at_right xs ys n j d e h = let q : j ≡ length xs + (j - n) = omega arith in ap (λ (k : ℕ). get_or (xs ++ ys) k d) q ∙ get_or-append-add xs ys (j - n) d

  -- a list is the table of its elements
  pub tabulate-list : (d : A) (l : List A) (n : ℕ) → length l ≡ n → tabulate n (λ i. get_or l i d) ≡ l
  tabulate-list d l n e =
      ext_get_or d _ l (length_run _ n 0 ∙ sym e) (λ i h. get_or-tabulate _ n i d (omega (arith, length_run (λ i. get_or l i d) n 0)))

  -- a part of a list is the table of its elements
  pub take-run : (d : A) (l : List A) (n i : ℕ) → i + n ≤ length l → take n (drop i l) ≡ run n i (λ k. get_or l k d)
  unfolding run
  take-run d l zero i h = refl
  take-run d l (suc n) i h = rw (drop-cons l i d (omega arith), take-run d l n (suc i) (omega arith))

-- all places of a list of numbers
pub places-whole : (l : List ℤ) → places_of l 0 (length l) ≡ l
places-whole l =
    let f : ℕ → ℤ = λ i. get_or l (0 + i) (pos 0) in
    ext_get_or (pos 0) _ l (length_run f (length l) 0)
    (λ i h. let z : 0 + i ≡ i = omega arith in get_or-tabulate f (length l) i (pos 0) (omega (arith, length_run f (length l) 0)) ∙ ap (λ (k : ℕ). get_or l k (pos 0)) z)

-- ---- lists one after the other, f i of the length c i
module _ {A : Type 0} where
  pub joined_same : (f g : ℕ → List A) (n i : ℕ) → ((p : ℕ) → i ≤ p → p < i + n → f p ≡ g p) → joined n i f ≡ joined n i g
  unfolding joined
  joined_same f g zero i e = refl
  joined_same f g (suc n) i e = ap₂ ◌++◌ (e i (omega arith) (omega arith)) (joined_same f g n (suc i) (λ p a c. e p (omega arith) (omega arith)))

  pub length-joined : (f : ℕ → List A) (c : ℕ → ℕ) (n i : ℕ) → ((p : ℕ) → i ≤ p → p < i + n → length (f p) ≡ c p) → length (joined n i f) ≡ sum_from n i c
  unfolding joined sum_from
  length-joined f c zero i e = refl
  length-joined f c (suc n) i e =
      length-append (f i) (joined n (suc i) f)
      ∙ omega (arith, e i (omega arith) (omega arith), length-joined f c n (suc i) (λ p a b. e p (omega arith) (omega arith)))

  -- element k of list p
  pub joined_at : (f : ℕ → List A) (c : ℕ → ℕ) (d : A) (n i : ℕ) → ((p : ℕ) → i ≤ p → p < i + n → length (f p) ≡ c p) → (p k : ℕ) → p < n → k < c (i + p)
      → get_or (joined n i f) (sum_from p i c + k) d ≡ get_or (f (i + p)) k d
  unfolding joined sum_from
  joined_at f c d zero i e p k h l = absurd (not-suc-le-zero h)
  joined_at f c d (suc n) i e zero k h l =
      let z : i + 0 ≡ i = omega arith in
      let y : 0 + k ≡ k = omega arith in
      let l' : k < c i = rw z at l in
      rw (z, y) (at_left (f i) (joined n (suc i) f) (c i) k d (e i (omega arith) (omega arith)) l')
  joined_at f c d (suc n) i e (suc p) k h l =
      let z : i + suc p ≡ suc i + p = omega arith in
      let l' : k < c (suc i + p) = rw z at l in
      let y : c i + sum_from p (suc i) c + k ≡ length (f i) + (sum_from p (suc i) c + k) = omega (arith, e i (omega arith) (omega arith)) in
      rw (z, y, get_or-append-add (f i) (joined n (suc i) f) (sum_from p (suc i) c + k) d)
      (joined_at f c d n (suc i) (λ q a b. e q (omega arith) (omega arith)) p k (omega arith) l')

-- ---- scattered stores: a place that store i was the last to hit
pub get_or-puts-same : {A : Type 0} (l : List A) (at : ℕ → ℕ) (v : ℕ → A) (n i : ℕ) (d : A) → i < n → ((j : ℕ) → j < n → at i ≡ at j → i ≡ j) → at i < length l
    → get_or (puts l at v n) (at i) d ≡ v i
unfolding puts
get_or-puts-same l at v zero i d h u k = absurd (not-suc-le-zero h)
get_or-puts-same l at v (suc n) i d h u k =
    ⊎_elim
    (λ (b : i < n). get_or-set_other (puts l at v n) (at n) (at i) (v n) d (λ e. let z : i ≡ n = u n (omega arith) e in omega arith)
    ∙ get_or-puts-same l at v n i d b (λ j p. u j (omega arith)) k)
    (λ (b : n ≤ i). let z : i ≡ n = omega arith in rw z (get_or-set_same (puts l at v n) (at n) (v n) d (rw (length-puts l at v n, ← z) k)))
    (lt-or-ge i n)
