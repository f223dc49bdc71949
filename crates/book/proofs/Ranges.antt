-- What `all` answers over a range of numbers is the test of all below its end; rows of tests are one. Assumes nothing.
use mathlib.Core.Path.{◌≡◌, refl, sym}
use mathlib.Core.Bool.{Bool, true, false}
use Prim.Native.Nat.{ℕ, zero, suc, ◌+◌, ◌*◌, ◌<◌}
use native.Mathlib.Nat.{zero-add, mul-suc}
use native.Mathlib.Omega.{arith}
use lib.ListN.{length}
use Rattle.std.proofs.lemmas.List.FromFn.{length-range_with_len, get_or-range_with_len}
use Rattle.std.specs.Bool.{MatchBool}
use Rattle.std.specs.List.{range_with_len, AllWithin, HoldsAt}
use Rattle.laws.specs.Lists.{all_below}
use Rattle.laws.proofs.Tests.{by-test, never}
use Rattle.laws.proofs.Lists.{all-at, at_all, all_below-split}

module _ (n : ℕ) (t : ℕ → Bool) where
  pub all-of_range : (r : Bool)
      → MatchBool r (AllWithin (λ x. t x ≡ true) (range_with_len 0 n) 0 (length (range_with_len 0 n))) ((k : ℕ) × (k < length (range_with_len 0 n)) × HoldsAt (λ x. t x ≡ false) (range_with_len 0 n) k)
      → r ≡ all_below n t
  all-of_range true m =
      sym (at_all n t (λ k h. rw (get_or-range_with_len 0 n k 0 h, zero-add) at (m k 0 (omega arith) (rw length-range_with_len h))))
  all-of_range false m =
      let h : m.0 < n = rw length-range_with_len at m.1 in
      by-test (all_below n t)
      (λ a. never (t m.0) (all-at n t a m.0 h) (rw (get_or-range_with_len 0 n m.0 0 h, zero-add) at (m.2 0)))
      (λ a. sym a)

-- n rows of M tests each
pub all_below-rows : (n M : ℕ) (t : ℕ → Bool) → all_below n (λ r. all_below M (λ m. t (M * r + m))) ≡ all_below (M * n) t
unfolding all_below
all_below-rows zero M t = let e : M * 0 ≡ 0 = omega arith in rw e refl
all_below-rows (suc n) M t =
    let e : M * suc n ≡ M * n + M = mul-suc M n in
    rw (e, all_below-split (M * n) M t, all_below-rows n M t)
