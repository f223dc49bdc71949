-- Lists, bounded searches and totals that the definitions of every layer are written with. Assumes nothing.
use Rattle.std.specs.Prelude.{Bool, true, false, ◌&&◌, ◌||◌, List, [], ◌∷◌, ◌++◌, ℕ, zero, suc, ◌+◌, ◌-◌, ℤ, pos, ◌+ℤ◌, length, drop, get_or, set}
use Rattle.laws.specs.Base.{pick}

-- f i, f (i + 1), .. : n of them
unfoldable pub run {ℓ} : {A : Type ℓ} → ℕ → ℕ → (ℕ → A) → List A
run zero i f = []
run (suc n) i f = f i ∷ run n (suc i) f

-- f 0, f 1, .. f (n - 1)
abbrev pub tabulate {ℓ} : {A : Type ℓ} → ℕ → (ℕ → A) → List A
tabulate n f = run n 0 f

-- n stores into a list: the i-th of `v i` at the place `at i`
unfoldable pub puts {ℓ} : {A : Type ℓ} → List A → (ℕ → ℕ) → (ℕ → A) → ℕ → List A
puts l at v zero = l
puts l at v (suc n) = set (puts l at v n) (at n) (v n)

-- every number below n passes the test
unfoldable pub all_below : ℕ → (ℕ → Bool) → Bool
all_below zero test = true
all_below (suc n) test = all_below n test && test n

-- some number below n passes the test
unfoldable pub any_below : ℕ → (ℕ → Bool) → Bool
any_below zero test = false
any_below (suc n) test = any_below n test || test n

-- how many numbers below n pass the test
unfoldable pub count_below : ℕ → (ℕ → Bool) → ℕ
count_below zero test = 0
count_below (suc n) test = count_below n test + pick (test n) 1 0

-- the first number below n that passes the test, or n where none does
unfoldable pub first_below : ℕ → (ℕ → Bool) → ℕ
first_below zero test = zero
first_below (suc n) test = pick (test zero) zero (suc (first_below n (λ k. test (suc k))))

-- the sum of a list
unfoldable pub total : List ℤ → ℤ
total [] = pos 0
total (x ∷ l) = x +ℤ total l

-- the last n of a list, or all if fewer
unfoldable pub last_n {ℓ} : {A : Type ℓ} → ℕ → List A → List A
last_n n l = drop (length l - n) l

-- f i ++ f (i + 1) ++ .. : n of them
unfoldable pub joined {ℓ} : {A : Type ℓ} → ℕ → ℕ → (ℕ → List A) → List A
joined zero i f = []
joined (suc n) i f = f i ++ joined n (suc i) f

-- f i + f (i + 1) + .. : n of them
unfoldable pub sum_from : ℕ → ℕ → (ℕ → ℕ) → ℕ
sum_from zero i f = 0
sum_from (suc n) i f = f i + sum_from n (suc i) f

-- n numbers of a list from a place on
abbrev pub places_of : List ℤ → ℕ → ℕ → List ℤ
places_of l from n = tabulate n (λ i. get_or l (from + i) (pos 0))
