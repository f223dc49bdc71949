-- The draws of a test load (request 2026-07): seeds one after the other, and the numbers that are made of them. Assumes nothing.
use Rattle.std.specs.Prelude.{ℕ, zero, suc, ◌+◌, ◌*◌, ◌/◌, ◌%◌, ltb, ℤ, pos, ◌-ℤ◌}
use Rattle.laws.specs.Base.{pick}
use Rattle.pricing.specs.Holding.{is_energy}

-- "each draw replaces s by (s × 1,664,525 + 1,013,904,223) mod 4,294,967,296"
abbrev pub next_seed : ℕ → ℕ
next_seed s = (s * 1664525 + 1013904223) % 4294967296

-- s after n draws
unfoldable pub seed_after : ℕ → ℕ → ℕ
seed_after zero s = s
seed_after (suc n) s = next_seed (seed_after n s)

-- ".. and gives d = s div 65,536": draw i from 0, of the s that it has made
abbrev pub drawn : ℕ → ℕ → ℕ
drawn s i = seed_after (i + 1) s / 65536

-- "Energy is 1,500,000 if d < 64, else d mod 20,000 − 2,000; a service is d mod 3,000"
abbrev pub energy_of : ℕ → ℤ
energy_of d = pick (ltb d 64) (pos 1500000) (pos (d % 20000) -ℤ pos 2000)

abbrev pub price_of : ℕ → ℕ → ℤ
price_of market d = pick (is_energy market) (energy_of d) (pos (d % 3000))

-- "flow is d mod 2,001 − 1,000; factor is 10,000 + d mod 2,000"
abbrev pub flow_of : ℕ → ℤ
flow_of d = pos (d % 2001) -ℤ pos 1000

abbrev pub factor_of : ℕ → ℕ
factor_of d = 10000 + d % 2000
