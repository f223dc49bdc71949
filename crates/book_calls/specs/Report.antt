-- The report of a market. Assumes nothing.
use Rattle.std.specs.Prelude.{Result, Ok, Err, not, ◌&&◌, ℕ, leb, ltb, ℤ, pos, get_or}
use Rattle.laws.specs.Base.{pick}
use Rattle.pricing.specs.Verdict.{Verdict, accepted, refused}
use Rattle.book.specs.declared.record.Book.{Book}
use Rattle.book_calls.specs.declared.report.Reading.{Reading}
use Rattle.book.specs.declared.record.Reply.{Reply}
use Rattle.book.specs.declared.record.Refusal.{Refusal}
use Rattle.book.specs.Record.{place_of, verdict_of, is_accepted}
use Rattle.book.specs.Validity.{valid}

-- "Report: 10; 21 region or market": what follows 10
unfoldable pub report_verdict : ℕ → ℕ → ℕ → ℕ → Verdict
report_verdict regions services region market = pick (not (ltb region regions && leb market services)) (refused 21) accepted

-- "A report gives a market's sum, prices counted and period mark, and the entries taken"
pub record Numbers : Type 0 where
  pub verdict : Verdict
  pub sum : ℤ
  pub counted : ℕ
  pub mark : ℕ
  pub entries : ℕ

-- "answer zeros beside number and place"
abbrev pub nothing : Verdict → Numbers
nothing v = record { verdict = v; sum = pos 0; counted = 0; mark = 0; entries = 0 }

-- the paper's numbers for each case
abbrev pub numbers : Result Reading Refusal → Numbers
numbers (Ok v) = record { verdict = accepted; sum = v.sum; counted = v.counted; mark = v.mark; entries = v.entries }
numbers (Err r) = nothing (verdict_of r)

pub record Outcome : Type 0 where
  pub numbers : Numbers
  pub book : Book

abbrev pub outcome : Reply Reading → Outcome
outcome r = record { numbers = numbers r.answer; book = r.book }

unfoldable pub report_of : Book → ℕ → ℕ → Numbers
report_of b region market =
    pick (not (valid b)) (nothing (refused 10))
    (pick (is_accepted (report_verdict b.regions b.services region market))
    (record {
      verdict = accepted;
      sum = get_or b.sums (place_of region market) (pos 0);
      counted = get_or b.counts region 0;
      mark = get_or b.marks (place_of region market) 0;
      entries = b.entries;
    })
    (nothing (report_verdict b.regions b.services region market)))

-- the book is handed back as it was, accepted or refused
abbrev pub reported : Book → ℕ → ℕ → Outcome
reported b region market = record { numbers = report_of b region market; book = b }
