-- A search that answers the place that it found, if it found one. Assumes nothing.
use mathlib.Core.Path.{◌≡◌, refl, sym}
use Prim.Native.Nat.{ℕ, ◌<◌, ◌≤◌}
use native.Mathlib.Omega.{arith}
use borrow.Author.Tests.{lt-ltb, le-ltb, ltb-true, ltb-false}
use lib.Dec.{ltb}
use Rattle.std.proofs.Common.{Option, Some, None}
use Rattle.laws.proofs.Tests.{by-test}
use Rattle.entries.specs.Working.{found}

module _ (n place : ℕ) where
  pub some-found : (k : ℕ) → k < n → k ≡ place → Some k ≡ found n place
  some-found k h e = rw (← e, lt-ltb k n h) refl

  pub none-found : n ≡ place → None ≡ found n place
  none-found e = rw (← e, le-ltb n n (omega arith)) refl

  pub found-some : (k : ℕ) → found n place ≡ Some k → (k ≡ place) × (k < n)
  found-some k e =
      by-test (ltb place n)
      (λ t. let q : Some place ≡ Some k = rw t at e in let p : place ≡ k = cc in (sym p, rw p at (ltb-true place n t)))
      (λ t. let q : ◌≡◌ {A = Option ℕ} None (Some k) = rw t at e in cc)

  pub found-none : found n place ≡ None → n ≤ place
  found-none e =
      by-test (ltb place n)
      (λ t. let q : ◌≡◌ {A = Option ℕ} (Some place) None = rw t at e in cc)
      (λ t. ltb-false place n t)
