-- What a C host is answered. Assumes nothing.
use Rattle.std.specs.Prelude.{ℕ, eqb, ℤ, pos, neg_ℤ}
use Rattle.laws.specs.Base.{pick}
use Rattle.pricing.specs.declared.indexing.Quarters.{Quarters}
use Rattle.pricing.specs.Indexing.{Outcome, indexed}

-- the four quarters of a year, from plain numbers
abbrev pub year : ℕ → ℕ → ℕ → ℕ → Quarters
year a b c d = record { q1 = a; q2 = b; q3 = c; q4 = d }

-- "the first answers the dollars or −30": a refusal's number below zero
abbrev pub dollars_or : Outcome → ℤ
dollars_or o = pick (eqb o.number 0) (pos o.dollars) (neg_ℤ (pos o.number))

unfoldable pub index_answer : ℕ → Quarters → Quarters → ℕ → ℤ
index_answer amount c b last = dollars_or (indexed amount c b last)
