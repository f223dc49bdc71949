-- What only proofs need: a day and its judgement by the numbers that the code has. Assumes nothing.
use Rattle.std.specs.Prelude.{Result, Option, not, ◌&&◌, List, ℕ, ltb, eqb, ℤ, length}
use Rattle.laws.specs.Base.{pick}
use Rattle.pricing.specs.Verdict.{Verdict, accepted, refused_at}
use Rattle.book.specs.Record.{verdict, is_accepted}
use Rattle.bill_lines.specs.Lines.{Lines, first_heavy}
use Rattle.bill_lines.specs.Working.{leading}
use Rattle.book.specs.declared.record.Refusal.{Refusal}
use Rattle.billing.specs.declared.Played.{Played}
use Rattle.billing.specs.Billing.{Day, right_in, line_in}

-- how the day ended, how many intervals were accepted, and how many of the first lines are right
pub record Told : Type 0 where
  pub verdict : Verdict
  pub count : ℕ
  pub right : ℕ
  pub ring : List ℤ

abbrev pub told : Lines → Day → Told
told l d = record { verdict = d.verdict; count = length d.shown; right = leading l d.shown; ring = d.ring }

abbrev pub told_in : Played → List ℤ → Told
told_in p ring = record { verdict = verdict p.answer; count = p.count; right = p.right; ring = ring }

-- what is said of a day
pub record Said : Type 0 where
  pub verdict : Verdict
  pub right : ℕ
  pub line : ℕ

abbrev pub said : Result (Option ℕ) Refusal → Said
said j = record { verdict = verdict j; right = right_in j; line = line_in j }

-- by how it ended, the intervals accepted, how many of the first lines are right, how many lines there are, and their kilowatt-hours
abbrev pub said_by : Verdict → ℕ → ℕ → ℕ → List ℕ → Said
said_by v count right lines energy =
    pick (not (is_accepted v)) (record { verdict = v; right = 0; line = 0 })
    (pick (ltb (first_heavy energy) (length energy)) (record { verdict = refused_at 46 (first_heavy energy); right = 0; line = 0 })
    (pick (eqb right count && eqb count lines) (record { verdict = accepted; right = 1; line = 0 })
    (record { verdict = accepted; right = 0; line = right })))
