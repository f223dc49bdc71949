-- Sums of counts: what holds at the start of a loop over them (none), at a turn (step) and at its end (done). Assumes nothing.
use mathlib.Core.Path.{◌≡◌, refl}
use Prim.Native.Nat.{ℕ, suc, ◌+◌, ◌-◌, ◌<◌, ◌≤◌}
use native.Mathlib.Omega.{arith}
use Rattle.laws.specs.Lists.{sum_from}

module _ (f : ℕ → ℕ) where
  sum_one : (n q : ℕ) → sum_from (suc n) q f ≡ f q + sum_from n (suc q) f
  unfolding sum_from
  sum_one n q = refl

  pub sum-none : (N : ℕ) → sum_from (N - 0) 0 f ≡ sum_from N 0 f
  sum-none N = let m : N - 0 ≡ N = omega arith in rw m

  pub sum_step : (N q : ℕ) → q < N → sum_from (N - q) q f ≡ f q + sum_from (N - (q + 1)) (q + 1) f
  sum_step N q h =
      let m : N - q ≡ suc (N - (q + 1)) = omega arith in
      let j : q + 1 ≡ suc q = omega arith in
      rw (m, j) (sum_one (N - suc q) q)

  pub sum_done : (N q s t : ℕ) → N ≤ q → s + sum_from (N - q) q f ≡ t → s ≡ t
  unfolding sum_from
  sum_done N q s t h e = let z : N - q ≡ 0 = omega arith in let g : s + 0 ≡ t = rw z at e in omega arith
