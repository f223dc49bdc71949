-- Rounding of a quotient to the nearest whole number, half away from zero. Assumes nothing.
use Rattle.std.specs.Prelude.{◌≡◌, ℕ, suc, ◌+◌, ◌*◌, ◌/◌, ◌≤◌, ◌<◌, ℤ, pos, negsuc, neg_ℤ, nat_abs, ◌-ℤ◌, ◌*ℤ◌}

-- n / d to the nearest, half up: of a natural number
unfoldable pub nearest : ℕ → ℕ → ℕ
nearest n d = (2 * n + d) / (2 * d)

-- "to the nearest cent, half away from zero": the sign of n, times the nearest to |n| / d
unfoldable pub rounded : ℤ → ℕ → ℤ
rounded (pos n) d = pos (nearest n d)
rounded (negsuc n) d = neg_ℤ (pos (nearest (suc n) d))

-- what q must be to be n / d rounded so: no further from it than a half, and at a half the one further from zero.
-- That `rounded n d` is so, and nothing else is, is proved for all n and d in proofs/Roundings
pub record Nearest (n : ℤ) (d : ℕ) (q : ℤ) : Type 0 where
  pub near : 2 * nat_abs (n -ℤ q *ℤ pos d) ≤ d
  pub away : 2 * nat_abs (n -ℤ q *ℤ pos d) ≡ d → nat_abs n < nat_abs q * d
