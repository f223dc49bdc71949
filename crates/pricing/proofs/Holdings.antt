-- The library's smaller and larger of two integers are those of the definitions. Assumes nothing.
use mathlib.Core.Path.{◌≡◌}
use lib.IntN.{ℤ}
use lib.Signed.{lt_z}
use Rattle.std.specs.Int.{int_min, int_max}
use Rattle.laws.specs.Base.{min_z, max_z}
use Rattle.laws.proofs.Integers.{integers, le_test, nle-test}
use Rattle.laws.proofs.Tests.{by-test}

pub min-is : (a b : ℤ) → int_min a b ≡ min_z a b
unfolding min_z
min-is a b =
    by-test (lt_z b a)
    (λ t. rw (t, nle-test a b (omega integers)))
    (λ t. rw (t, le_test a b (omega integers)))

-- for equal integers either is taken
pub max-is : (a b : ℤ) → int_max a b ≡ max_z a b
unfolding max_z
max-is a b =
    by-test (lt_z b a)
    (λ t. rw (t, nle-test a b (omega integers)))
    (λ t. rw (t, le_test a b (omega integers)))
