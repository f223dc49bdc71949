-- What a call answers first: the number of its refusal and the place. Assumes nothing.
use Rattle.std.specs.Prelude.{ℕ}

-- "Place is 0 unless named"; number 0 is an acceptance
pub record Verdict : Type 0 where
  pub number : ℕ
  pub place : ℕ

abbrev pub accepted : Verdict
accepted = record { number = 0; place = 0 }

abbrev pub refused : ℕ → Verdict
refused n = record { number = n; place = 0 }

abbrev pub refused_at : ℕ → ℕ → Verdict
refused_at n place = record { number = n; place = place }
