-- What `any` answers over a range of numbers is whether any below its end passes the test. Assumes nothing.
use mathlib.Core.Path.{◌≡◌, sym}
use mathlib.Core.Bool.{Bool, true, false}
use Prim.Native.Nat.{ℕ, ◌<◌}
use native.Mathlib.Nat.{zero-add}
use native.Mathlib.Omega.{arith}
use lib.ListN.{length}
use Rattle.std.proofs.lemmas.List.FromFn.{length-range_with_len, get_or-range_with_len}
use Rattle.std.specs.Bool.{MatchBool}
use Rattle.std.specs.List.{range_with_len, AllWithin, HoldsAt}
use Rattle.laws.specs.Lists.{any_below}
use Rattle.laws.proofs.Tests.{by-test, never}
use Rattle.laws.proofs.Lists.{any_at, at-any}

module _ (n : ℕ) (t : ℕ → Bool) where
  pub any-of_range : (r : Bool)
      → MatchBool r ((k : ℕ) × (k < length (range_with_len 0 n)) × HoldsAt (λ x. t x ≡ true) (range_with_len 0 n) k) (AllWithin (λ x. t x ≡ false) (range_with_len 0 n) 0 (length (range_with_len 0 n)))
      → r ≡ any_below n t
  any-of_range true m =
      let h : m.0 < n = rw length-range_with_len at m.1 in
      sym (at-any n t m.0 h (rw (get_or-range_with_len 0 n m.0 0 h, zero-add) at (m.2 0)))
  any-of_range false m =
      by-test (any_below n t)
      (λ a. let w = any_at n t a in never (t w.0) w.2 (rw (get_or-range_with_len 0 n w.0 0 w.1, zero-add) at (m w.0 0 (omega arith) (rw length-range_with_len w.1))))
      (λ a. sym a)
