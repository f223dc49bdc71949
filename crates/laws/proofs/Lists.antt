-- Laws of the lists and bounded searches of specs/Lists: for each kind of loop what holds at its start (none), after a turn (step) and at its end (done). Assumes nothing.
use mathlib.Core.Path.{◌≡◌, refl, sym, ap, ap₂, ◌∙◌}
use mathlib.Core.Bool.{Bool, true, false, not, ◌&&◌, ◌||◌}
use mathlib.Core.Logic.{⊎_elim}
use mathlib.Core.List.{List, [], ◌∷◌, ◌++◌, append-nil}
use Prim.Native.Nat.{ℕ, zero, suc, ◌+◌, ◌*◌, ◌-◌, ◌/◌, ◌%◌, ◌<◌, ◌≤◌}
use native.Mathlib.Numerals.{add-one}
use native.Mathlib.Nat.{add-zero, div-lt_iff_lt-mul, mod-lt, mul-le-mul_right, suc-mul, not-suc-le-zero, mul-add-div_right, mul-add-mod_self_right, div-eq_of_lt, mod-eq_of_lt}
use native.Mathlib.Omega.{arith}
use lib.Dec.{ltb}
use borrow.Author.Tests.{lt-ltb, le-ltb, not-false}
use lib.ListN.{length, get_or, set, drop, replicate, length-append, length-drop, drop_of_length-le, length-set}
use lib.Seq.{drop-cons, drop-append-le, drop-drop, set_at, append_snoc, get_or-set_same, get_or-set_other, sets}
use Rattle.laws.specs.Base.{pick}
use Rattle.laws.proofs.Tests.{and_left, and_right, and_assoc, or_left, or_right, true-is, never, by-test, lt-or-ge}
use Rattle.laws.specs.Lists.{run, tabulate, puts, all_below, any_below, count_below, first_below, last_n}

-- ---- tests of all, of some and of how many numbers below a bound
pub all_below-none : (t : ℕ → Bool) → true ≡ all_below 0 t
unfolding all_below
all_below-none t = refl

pub all_below-step : (i : ℕ) (t : ℕ → Bool) {ok x : Bool} → ok ≡ all_below i t → x ≡ t i → (ok && x) ≡ all_below (i + 1) t
unfolding all_below
all_below-step i t h e = rw (add-one, h, e)

pub any_below-none : (t : ℕ → Bool) → false ≡ any_below 0 t
unfolding any_below
any_below-none t = refl

pub any_below-step : (i : ℕ) (t : ℕ → Bool) {ok x : Bool} → ok ≡ any_below i t → x ≡ t i → (ok || x) ≡ any_below (i + 1) t
unfolding any_below
any_below-step i t h e = rw (add-one, h, e)

pub count_below-none : (t : ℕ → Bool) → 0 ≡ count_below 0 t
unfolding count_below
count_below-none t = refl

pub count_below-step : (i : ℕ) (t : ℕ → Bool) {n x : ℕ} → n ≡ count_below i t → x ≡ pick (t i) 1 0 → n + x ≡ count_below (i + 1) t
unfolding count_below
count_below-step i t h e = rw (add-one, h, e)

pub count_below-most : (n : ℕ) (t : ℕ → Bool) → count_below n t ≤ n
unfolding count_below
count_below-most zero t = omega arith
count_below-most (suc n) t = one (t n) (count_below-most n t)
  where
    one : (b : Bool) → count_below n t ≤ n → count_below n t + pick b 1 0 ≤ suc n
    one true h = omega arith
    one false h = omega arith

-- below a + b: below a, and the b after
pub count_below-split : (a b : ℕ) (t : ℕ → Bool) → count_below (a + b) t ≡ count_below a t + count_below b (λ k. t (a + k))
unfolding count_below
count_below-split a zero t = let e : a + 0 ≡ a = omega arith in rw e (omega arith)
count_below-split a (suc b) t = let e : a + suc b ≡ suc (a + b) = omega arith in rw (e, count_below-split a b t) (omega arith)

-- the same of a test of all
pub all_below-split : (a b : ℕ) (t : ℕ → Bool) → all_below (a + b) t ≡ (all_below a t && all_below b (λ k. t (a + k)))
unfolding all_below
all_below-split a zero t = let e : a + 0 ≡ a = omega arith in rw e (and-true (all_below a t))
  where
    and-true : (x : Bool) → x ≡ (x && true)
    and-true true = refl
    and-true false = refl
all_below-split a (suc b) t =
    let e : a + suc b ≡ suc (a + b) = omega arith in
    rw (e, all_below-split a b t) (sym (and_assoc (all_below a t) (all_below b (λ k. t (a + k))) (t (a + b))))

pub count_below-same : (n : ℕ) (t u : ℕ → Bool) → ((k : ℕ) → k < n → t k ≡ u k) → count_below n t ≡ count_below n u
unfolding count_below
count_below-same zero t u e = refl
count_below-same (suc n) t u e = rw (count_below-same n t u (λ k h. e k (omega arith)), e n (omega arith))

-- all below n pass a test exactly if each does, and some does exactly if there is one that does
pub all-at : (n : ℕ) (t : ℕ → Bool) → all_below n t ≡ true → (k : ℕ) → k < n → t k ≡ true
unfolding all_below
all-at zero t e k h = absurd (not-suc-le-zero h)
all-at (suc n) t e k h =
    ⊎_elim (λ l. all-at n t (and_left (all_below n t) (t n) e) k l)
    (λ g. let q : k ≡ n = omega arith in rw q (and_right (all_below n t) (t n) e)) (lt-or-ge k n)

pub at_all : (n : ℕ) (t : ℕ → Bool) → ((k : ℕ) → k < n → t k ≡ true) → all_below n t ≡ true
unfolding all_below
at_all zero t h = refl
at_all (suc n) t h = rw (at_all n t (λ k l. h k (omega arith)), h n (omega arith))

pub any_at : (n : ℕ) (t : ℕ → Bool) → any_below n t ≡ true → (k : ℕ) × (k < n) × (t k ≡ true)
unfolding any_below
any_at zero t e = absurd (true-is e)
any_at (suc n) t e = go (any_below n t) refl (any_at n t) e
  where
    go : (b : Bool) → any_below n t ≡ b → (any_below n t ≡ true → (k : ℕ) × (k < n) × (t k ≡ true)) → (b || t n) ≡ true → (k : ℕ) × (k < suc n) × (t k ≡ true)
    go true q i u = let w = i q in (w.0, omega (arith, w.1), w.2)
    go false q i u = (n, omega arith, u)

pub at-any : (n : ℕ) (t : ℕ → Bool) (k : ℕ) → k < n → t k ≡ true → any_below n t ≡ true
unfolding any_below
at-any zero t k h e = absurd (not-suc-le-zero h)
at-any (suc n) t k h e =
    ⊎_elim (λ l. or_left (any_below n t) (t n) (at-any n t k l e))
    (λ g. let q : k ≡ n = omega arith in or_right (any_below n t) (t n) (rw q at e)) (lt-or-ge k n)

-- two tests that agree below n
pub all_same : (n : ℕ) (t u : ℕ → Bool) → ((k : ℕ) → k < n → t k ≡ u k) → all_below n t ≡ all_below n u
unfolding all_below
all_same zero t u e = refl
all_same (suc n) t u e = rw (all_same n t u (λ k h. e k (omega arith)), e n (omega arith))

pub any_same : (n : ℕ) (t u : ℕ → Bool) → ((k : ℕ) → k < n → t k ≡ u k) → any_below n t ≡ any_below n u
unfolding any_below
any_same zero t u e = refl
any_same (suc n) t u e = rw (any_same n t u (λ k h. e k (omega arith)), e n (omega arith))

-- a test that is one below m and another after
pub all_below-parts : (m n : ℕ) (t u v : ℕ → Bool) → m ≤ n → ((k : ℕ) → k < m → t k ≡ u k) → ((k : ℕ) → k < n - m → t (m + k) ≡ v k)
    → all_below n t ≡ (all_below m u && all_below (n - m) v)
all_below-parts m n t u v h a b =
    let e : n ≡ m + (n - m) = omega arith in
    ap (λ (k : ℕ). all_below k t) e ∙ all_below-split m (n - m) t ∙ ap₂ ◌&&◌ (all_same m t u a) (all_same (n - m) (λ k. t (m + k)) v b)

-- ---- a list that is tabulated
module _ {A : Type 0} (f : ℕ → A) where
  pub length_run : (n i : ℕ) → length (run n i f) ≡ n
  unfolding run
  length_run zero i = refl
  length_run (suc n) i = ap suc (length_run n (suc i))

  pub get_or-run : (n i k : ℕ) (d : A) → k < n → get_or (run n i f) k d ≡ f (i + k)
  unfolding run
  get_or-run zero i k d h = absurd (not-suc-le-zero h)
  get_or-run (suc n) i zero d h = ap f (omega arith)
  get_or-run (suc n) i (suc k) d h = get_or-run n (suc i) k d (omega arith) ∙ ap f (omega arith)

  pub get_or-tabulate : (n k : ℕ) (d : A) → k < n → get_or (tabulate n f) k d ≡ f k
  get_or-tabulate n k d h = get_or-run n 0 k d h ∙ ap f (omega arith)

  run-snoc : (n i : ℕ) → run (suc n) i f ≡ run n i f ++ (f (i + n) ∷ [])
  unfolding run
  run-snoc zero i = ap (λ (k : ℕ). f k ∷ []) (sym (add-zero i))
  run-snoc (suc n) i = ap (λ (l : List A). f i ∷ l) (run-snoc n (suc i) ∙ ap (λ (k : ℕ). run n (suc i) f ++ (f k ∷ [])) (omega arith))

  pub tabulate-next : (n : ℕ) → tabulate (n + 1) f ≡ tabulate n f ++ (f n ∷ [])
  tabulate-next n = rw add-one (run-snoc n 0 ∙ ap (λ (k : ℕ). run n 0 f ++ (f k ∷ [])) (omega arith))

  -- a loop that fills a list from the front: after n turns it is `tabulate n f ++ drop n d`
  pub tab-none : (d : List A) → d ≡ tabulate 0 f ++ d
  unfolding run
  tab-none d = refl

  pub tab-step : (n : ℕ) (d l : List A) (v : A) → l ≡ tabulate n f ++ drop n d → n < length d → v ≡ f n → set l n v ≡ tabulate (n + 1) f ++ drop (n + 1) d
  tab-step n d l v i h e =
      rw (i, tabulate-next n, add-one, drop-cons d n v h, set_at (tabulate n f) (get_or d n v) (drop (suc n) d) v n (length_run n 0), append_snoc, e)

  pub tab-done : (n m : ℕ) (d l : List A) → l ≡ tabulate n f ++ drop n d → n ≡ m → length d ≤ m → l ≡ tabulate m f
  tab-done n m d l i e h = rw (i, e, drop_of_length-le d h, append-nil)

  -- a + b of them: a, and the b after
  pub run-split : (a b i : ℕ) → run (a + b) i f ≡ run a i f ++ run b (i + a) f
  unfolding run
  run-split zero b i = let e : 0 + b ≡ b = omega arith in let z : i + 0 ≡ i = omega arith in rw (e, z)
  run-split (suc a) b i =
      let e : suc a + b ≡ suc (a + b) = omega arith in
      let z : i + suc a ≡ suc i + a = omega arith in
      rw (e, z) (ap (λ (l : List A). f i ∷ l) (run-split a b (suc i)))

  -- a loop that stores f i at place at + i, n of them in all: what is to go is the same at every turn
  run-one : (l : List A) (p n i : ℕ) → sets l p (run (suc n) i f) ≡ sets (set l p (f i)) (suc p) (run n (suc i) f)
  unfolding run
  run-one l p n i = refl

  pub run_none : (l : List A) (at n : ℕ) → sets l (at + 0) (run (n - 0) 0 f) ≡ sets l at (run n 0 f)
  run_none l at n = let a : at + 0 ≡ at = omega arith in let b : n - 0 ≡ n = omega arith in rw (a, b)

  pub run_step : (l r : List A) (at n i : ℕ) (v : A) → i < n → v ≡ f i → sets l (at + i) (run (n - i) i f) ≡ r → sets (set l (at + i) v) (at + (i + 1)) (run (n - (i + 1)) (i + 1) f) ≡ r
  run_step l r at n i v h q e =
      let a : at + (i + 1) ≡ suc (at + i) = omega arith in
      let m : n - i ≡ suc (n - (i + 1)) = omega arith in
      let j : i + 1 ≡ suc i = omega arith in
      rw (a, q, j) ((sym (run-one l (at + i) (n - suc i) i)) ∙ rw (m, j) at e)

  pub run-done : (l r : List A) (at n i : ℕ) → n ≤ i → sets l (at + i) (run (n - i) i f) ≡ r → l ≡ r
  unfolding run
  run-done l r at n i h e = let z : n - i ≡ 0 = omega arith in rw z at e

-- two lists that agree at every place
pub run-same : {A : Type 0} (n i j : ℕ) (f g : ℕ → A) → ((k : ℕ) → k < n → f (i + k) ≡ g (j + k)) → run n i f ≡ run n j g
unfolding run
run-same zero i j f g e = refl
run-same (suc n) i j f g e =
    let here : (a : ℕ) → a ≡ a + 0 = λ a. omega arith in
    let next : (a k : ℕ) → suc a + k ≡ a + suc k = λ a k. omega arith in
    ap₂ ◌∷◌ (ap f (here i) ∙ e 0 (omega arith) ∙ ap g (sym (here j)))
    (run-same n (suc i) (suc j) f g (λ k h. ap f (next i k) ∙ e (suc k) (omega arith) ∙ ap g (sym (next j k))))

pub tabulate-same : {A : Type 0} (n : ℕ) (f g : ℕ → A) → ((k : ℕ) → k < n → f k ≡ g k) → tabulate n f ≡ tabulate n g
tabulate-same n f g e = run-same n 0 0 f g (λ k h. let z : 0 + k ≡ k = omega arith in rw z (e k h))

-- a list whose first m places are one list, and those after another
pub tabulate-parts : {A : Type 0} (m n : ℕ) (f g h : ℕ → A) → m ≤ n → ((k : ℕ) → k < m → f k ≡ g k) → ((k : ℕ) → k < n - m → f (m + k) ≡ h k)
    → tabulate n f ≡ tabulate m g ++ tabulate (n - m) h
tabulate-parts m n f g h l a b =
    let e : n ≡ m + (n - m) = omega arith in
    let z : 0 + m ≡ m = omega arith in
    ap (λ (k : ℕ). tabulate k f) e
    ∙ run-split f m (n - m) 0
    ∙ ap₂ ◌++◌ (tabulate-same m f g a) (run-same (n - m) (0 + m) 0 f h (λ k q. let w : 0 + k ≡ k = omega arith in rw (z, w) (b k q)))

-- a loop that fills a list d from the front, and stops after m: the rest is as it was
pub tab-rest : {A : Type 0} (f : ℕ → A) (z : A) (d : List A) (m : ℕ) → m ≤ length d → tabulate m f ++ drop m d ≡ tabulate (length d) (λ k. pick (ltb k m) (f k) (get_or d k z))
unfolding run
tab-rest {A} f z d m h = from d (λ k. get_or d k z) m 0 h (omega arith) (λ k l. ap (λ (i : ℕ). get_or d i z) (omega arith))
  where
    rest : (d : List A) (g : ℕ → A) (i : ℕ) → m ≤ i → ((k : ℕ) → k < length d → get_or d k z ≡ g (i + k)) → d ≡ run (length d) i (λ k. pick (ltb k m) (f k) (g k))
    rest [] g i h e = refl
    rest (x ∷ d) g i h e =
        let here : x ≡ g i = e 0 (omega arith) ∙ ap g (omega arith) in
        ap₂ ◌∷◌ (rw (le-ltb i m h) here) (rest d g (suc i) (omega arith) (λ k l. e (suc k) (omega arith) ∙ ap g (omega arith)))

    from : (d : List A) (g : ℕ → A) (l i : ℕ) → l ≤ length d → m ≡ i + l → ((k : ℕ) → k < length d → get_or d k z ≡ g (i + k)) → run l i f ++ drop l d ≡ run (length d) i (λ k. pick (ltb k m) (f k) (g k))
    from d g zero i h q e = rest d g i (omega arith) e
    from [] g (suc l) i h q e = absurd (not-suc-le-zero h)
    from (x ∷ d) g (suc l) i h q e =
        let b : i < m = omega arith in
        ap₂ ◌∷◌ (rw (lt-ltb i m b)) (from d g l (suc i) (omega arith) (omega arith) (λ k l. e (suc k) (omega arith) ∙ ap g (omega arith)))

-- a loop that fills n copies of d from the front, and stops after m
pub tab-below : {A : Type 0} (f : ℕ → A) (d : A) (n m : ℕ) → m ≤ n → tabulate m f ++ drop m (replicate n d) ≡ tabulate n (λ k. pick (ltb k m) (f k) d)
unfolding run
tab-below {A} f d n m h = from n m 0 h (omega arith)
  where
    rest : (n i : ℕ) → m ≤ i → replicate n d ≡ run n i (λ k. pick (ltb k m) (f k) d)
    rest zero i h = refl
    rest (suc n) i h = ap₂ ◌∷◌ (rw (le-ltb i m h)) (rest n (suc i) (omega arith))

    from : (n l i : ℕ) → l ≤ n → m ≡ i + l → run l i f ++ drop l (replicate n d) ≡ run n i (λ k. pick (ltb k m) (f k) d)
    from n zero i h e = rest n i (omega arith)
    from zero (suc l) i h e = absurd (not-suc-le-zero h)
    from (suc n) (suc l) i h e = let b : i < m = omega arith in ap₂ ◌∷◌ (rw (lt-ltb i m b)) (from n l (suc i) (omega arith) (omega arith))

-- the same everywhere
pub tabulate-const : {A : Type 0} (a : A) (n : ℕ) → tabulate n (λ _. a) ≡ replicate n a
unfolding run
tabulate-const {A} a n = from n 0
  where
    from : (m i : ℕ) → run m i (λ _. a) ≡ replicate m a
    from zero i = refl
    from (suc m) i = ap (λ (l : List A). a ∷ l) (from m (suc i))

-- within a list it does not matter what would be read past its end
pub get_or-any : {A : Type 0} (l : List A) (k : ℕ) (d e : A) → k < length l → get_or l k d ≡ get_or l k e
get_or-any [] k d e h = absurd (not-suc-le-zero h)
get_or-any (a ∷ l) zero d e h = refl
get_or-any (a ∷ l) (suc k) d e h = get_or-any l k d e (omega arith)

-- ---- scattered stores
module _ {A : Type 0} (l : List A) (at : ℕ → ℕ) (v : ℕ → A) where
  pub puts_none : l ≡ puts l at v 0
  unfolding puts
  puts_none = refl

  pub puts-step : (n : ℕ) (s : List A) (a : A) → s ≡ puts l at v n → a ≡ v n → set s (at n) a ≡ puts l at v (n + 1)
  unfolding puts
  puts-step n s a h e = rw (add-one, h, e)

  pub length-puts : (n : ℕ) → length (puts l at v n) ≡ length l
  unfolding puts
  length-puts zero = refl
  length-puts (suc n) = length-set (puts l at v n) (at n) (v n) ∙ length-puts n

  -- a place that no store hits
  pub get_or-puts-other : (n j : ℕ) (d : A) → ((i : ℕ) → i < n → j ≡ at i → ⊥) → get_or (puts l at v n) j d ≡ get_or l j d
  unfolding puts
  get_or-puts-other zero j d h = refl
  get_or-puts-other (suc n) j d h =
      get_or-set_other (puts l at v n) (at n) j (v n) d (h n (omega arith)) ∙ get_or-puts-other n j d (λ i p. h i (omega arith))

  -- a place that one store hits
  pub get_or-puts-same : (n m : ℕ) (d : A) → m < n → at m < length l → ((i j : ℕ) → i < n → j < n → at i ≡ at j → i ≡ j) → get_or (puts l at v n) (at m) d ≡ v m
  unfolding puts
  get_or-puts-same zero m d h b inj = absurd (not-suc-le-zero h)
  get_or-puts-same (suc n) m d h b inj =
      ⊎_elim
      (λ p. get_or-set_other (puts l at v n) (at n) (at m) (v n) d (λ q. let z = inj m n (omega arith) (omega arith) q in omega arith)
      ∙ get_or-puts-same n m d p b (λ i j x y. inj i j (omega arith) (omega arith)))
      (λ p. let q : m ≡ n = omega arith in rw q (get_or-set_same (puts l at v n) (at n) (v n) d (rw (length-puts n, ← q) b)))
      (lt-or-ge m n)

-- ---- the first number that passes a test
pub first_below-found : (n i : ℕ) (t : ℕ → Bool) → i < n → ((k : ℕ) → k < i → t k ≡ false) → t i ≡ true → first_below n t ≡ i
unfolding first_below
first_below-found zero i t h all e = absurd (not-suc-le-zero h)
first_below-found (suc n) zero t h all e = rw e
first_below-found (suc n) (suc i) t h all e =
    rw (all zero (omega arith), first_below-found n i (λ k. t (suc k)) (omega arith) (λ k p. all (suc k) (omega arith)) e)

pub first_below-none : (n : ℕ) (t : ℕ → Bool) → ((k : ℕ) → k < n → t k ≡ false) → first_below n t ≡ n
unfolding first_below
first_below-none zero t all = refl
first_below-none (suc n) t all = rw (all zero (omega arith), first_below-none n (λ k. t (suc k)) (λ k p. all (suc k) (omega arith)))

-- two tests that agree below n
pub first_below-same : (n : ℕ) (t u : ℕ → Bool) → ((k : ℕ) → k < n → t k ≡ u k) → first_below n t ≡ first_below n u
unfolding first_below
first_below-same zero t u e = refl
first_below-same (suc n) t u e =
    rw (e zero (omega arith), first_below-same n (λ k. t (suc k)) (λ k. u (suc k)) (λ k h. e (suc k) (omega arith)))

-- what was passed over failed the test
pub first_below-passed : (n : ℕ) (t : ℕ → Bool) (k : ℕ) → k < first_below n t → t k ≡ false
unfolding first_below
first_below-passed zero t k h = absurd (not-suc-le-zero h)
first_below-passed (suc n) t k h = go (t zero) refl (first_below-passed n (λ j. t (suc j))) k h
  where
    go : (b : Bool) → t zero ≡ b → ((j : ℕ) → j < first_below n (λ i. t (suc i)) → t (suc j) ≡ false) → (k : ℕ) → k < pick b zero (suc (first_below n (λ i. t (suc i)))) → t k ≡ false
    go true e rest k h = absurd (not-suc-le-zero h)
    go false e rest zero h = e
    go false e rest (suc k) h = rest k (omega arith)

-- what was found passes it
pub first_below-hit : (n : ℕ) (t : ℕ → Bool) → first_below n t < n → t (first_below n t) ≡ true
unfolding first_below
first_below-hit zero t h = absurd (not-suc-le-zero h)
first_below-hit (suc n) t h = go (t zero) refl (first_below-hit n (λ k. t (suc k))) h
  where
    go : (b : Bool) → t zero ≡ b → (first_below n (λ i. t (suc i)) < n → t (suc (first_below n (λ i. t (suc i)))) ≡ true)
        → pick b zero (suc (first_below n (λ i. t (suc i)))) < suc n → t (pick b zero (suc (first_below n (λ i. t (suc i))))) ≡ true
    go true e rest h = e
    go false e rest h = rest (omega arith)

-- where all pass, none is the first that does not; where not all do, one is
pub first_below-all : (n : ℕ) (t : ℕ → Bool) → all_below n t ≡ true → first_below n (λ k. not (t k)) ≡ n
first_below-all n t a = first_below-none n (λ k. not (t k)) (λ k h. ap not (all-at n t a k h))

pub first_below-some : (n : ℕ) (t : ℕ → Bool) → all_below n t ≡ false → first_below n (λ k. not (t k)) < n
first_below-some n t a =
    ⊎_elim (λ h. h)
    (λ (h : n ≤ first_below n (λ k. not (t k))). never (all_below n t) (at_all n t (λ k l. not-false (t k) (first_below-passed n (λ k. not (t k)) k (omega arith)))) a)
    (lt-or-ge (first_below n (λ k. not (t k))) n)

-- at most n
pub first_below-most : (n : ℕ) (t : ℕ → Bool) → first_below n t ≤ n
unfolding first_below
first_below-most zero t = omega arith
first_below-most (suc n) t = by-test (t zero) (λ e. rw e (omega arith)) (λ e. rw e (omega (arith, first_below-most n (λ k. t (suc k)))))

-- below a + b: the first below a, or where there is none the first of the b after
pub first_below-split : (a b : ℕ) (t : ℕ → Bool) → first_below (a + b) t ≡ pick (ltb (first_below a t) a) (first_below a t) (a + first_below b (λ k. t (a + k)))
unfolding first_below
first_below-split zero b t =
    let e : 0 + b ≡ b = omega arith in
    rw e (omega (arith, first_below-same b t (λ k. t (0 + k)) (λ k h. ap t (omega arith))))
first_below-split (suc a) b t =
    let e : suc a + b ≡ suc (a + b) = omega arith in
    rw (e, first_below-split a b (λ k. t (suc k)), first_below-same b (λ k. t (suc a + k)) (λ k. t (suc (a + k))) (λ k h. ap t (omega arith)))
    (go (t zero) (first_below a (λ k. t (suc k))) (first_below b (λ k. t (suc (a + k)))))
  where
    go : (now : Bool) (x y : ℕ) → pick now zero (suc (pick (ltb x a) x (a + y))) ≡ pick (ltb (pick now zero (suc x)) (suc a)) (pick now zero (suc x)) (suc a + y)
    go true x y = rw (lt-ltb 0 (suc a) (omega arith))
    go false x y =
        ⊎_elim
        (λ (h : x < a). rw (lt-ltb x a h, lt-ltb (suc x) (suc a) (omega arith)))
        (λ (h : a ≤ x). rw (le-ltb x a h, le-ltb (suc x) (suc a) (omega arith)) (omega arith))
        (lt-or-ge x a)

-- ---- region and market of the flat number k = region × M + market
pub flat-div : (r m M : ℕ) → m < M → (r * M + m) / M ≡ r
flat-div r m M h = let p : 0 < M = omega arith in mul-add-div_right p r m ∙ rw (div-eq_of_lt h) (omega arith)

pub flat-mod : (r m M : ℕ) → m < M → (r * M + m) % M ≡ m
flat-mod r m M h = mul-add-mod_self_right r M m ∙ mod-eq_of_lt h

pub flat-lt : (r m R M : ℕ) → r < R → m < M → r * M + m < R * M
flat-lt r m R M h l = omega (arith, mul-le-mul_right M h, suc-mul r M)

-- the book's place 11 × region + market of a flat number
pub flat-place : (k R M : ℕ) → k < R * M → R ≤ 8 → 0 < M → M ≤ 11 → 11 * (k / M) + k % M < 88
flat-place k R M h r p m = omega (arith, (div-lt_iff_lt-mul p).1 h, mod-lt k p)

-- ---- the last n of a list, with one more
module _ {A : Type 0} (W : ℕ) where
  pub last_n-length : (u : List A) → length (last_n W u) ≤ W
  unfolding last_n
  last_n-length u = simp length-drop (omega arith)

  -- fewer than W: all stay
  pub last_n-grows : (u : List A) (p : A) → length (last_n W u) < W → last_n W (u ++ p ∷ []) ≡ last_n W u ++ p ∷ []
  unfolding last_n
  last_n-grows u p h =
      let a : length u < W = omega (arith, simp length-drop at h) in
      let e : length (u ++ p ∷ []) - W ≡ 0 = simp length-append (omega arith) in
      let e' : length u - W ≡ 0 = omega arith in
      rw (e, e')

  -- W: the oldest goes
  pub last_n-slides : (u : List A) (p : A) → 0 < W → W ≤ length (last_n W u) → last_n W (u ++ p ∷ []) ≡ drop 1 (last_n W u) ++ p ∷ []
  unfolding last_n
  last_n-slides u p w h =
      let a : W ≤ length u = omega (arith, simp length-drop at h) in
      let e : length (u ++ p ∷ []) - W ≡ length u - W + 1 = simp length-append (omega arith) in
      let f : length u - W + 1 ≤ length u = omega arith in
      ap (λ (n : ℕ). drop n (u ++ p ∷ [])) e ∙ drop-append-le (length u - W + 1) u (p ∷ []) f
      ∙ ap (λ (l : List A). l ++ p ∷ []) (sym (drop-drop 1 (length u - W) u))
