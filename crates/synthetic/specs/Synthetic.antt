-- The test load of an interval (request 2026-07). Assumes nothing.
use Rattle.std.specs.Prelude.{Result, Ok, Err, not, List, ℕ, ◌+◌, ◌*◌, ◌%◌, ℤ, replicate}
use Rattle.laws.specs.Base.{pick}
use Rattle.laws.specs.Lists.{tabulate}
use Rattle.pricing.specs.Verdict.{Verdict, accepted, refused}
use Rattle.book.specs.declared.record.Book.{Book}
use Rattle.book.specs.Record.{markets_of, table_size, link_count, verdict, is_accepted}
use Rattle.book.specs.Validity.{valid}
use Rattle.interval_records.specs.Layout.{Interval, interval_of}
use Rattle.intervals.specs.Lent.{slices_ok}
use Rattle.synthetic.specs.declared.Draw.{Draw}
use Rattle.book.specs.declared.record.Reply.{Reply}
use Rattle.book.specs.declared.record.Refusal.{Refusal}
use Rattle.drawing.specs.Drawing.{seed_after, drawn, price_of, flow_of, factor_of}

-- "An interval draws its R × M prices, then flow and factor for each region. .. Marks are 0; the caller gives book, number and day kind",
-- and of the additional link "A test load draws one more pair for it"
abbrev pub made : Book → ℕ → ℕ → ℕ → Interval
made b s number kind =
    let n = table_size b.regions b.services in
    record {
      number = number;
      kind = kind;
      prices = tabulate n (λ q. price_of (q % markets_of b.services) (drawn s q));
      marked = replicate b.regions 0;
      flows = tabulate (link_count b) (λ r. flow_of (drawn s (n + 2 * r)));
      factors = tabulate (link_count b) (λ r. factor_of (drawn s (n + 2 * r + 1)));
    }

-- how many draws that takes
abbrev pub draws : Book → ℕ
draws b = table_size b.regions b.services + 2 * link_count b

-- "10, then 11 over the filled slices"
unfoldable pub draw_verdict : Book → Interval → Verdict
draw_verdict b lent =
    pick (not (valid b)) (refused 10)
    (pick (not (slices_ok b lent)) (refused 11)
    accepted)

pub record Outcome : Type 0 where
  pub verdict : Verdict
  pub seed : ℕ
  pub book : Book
  pub interval : Interval

-- the paper's values for each case
abbrev pub seed_in : Result Draw Refusal → ℕ
seed_in (Ok d) = d.seed
seed_in (Err r) = 0

abbrev pub number_in : Result Draw Refusal → ℕ
number_in (Ok d) = d.number
number_in (Err r) = 0

abbrev pub kind_in : Result Draw Refusal → ℕ
kind_in (Ok d) = d.kind
kind_in (Err r) = 0

abbrev pub outcome : Reply Draw → List ℤ → List ℕ → List ℤ → List ℕ → Outcome
outcome r prices marked flows factors = record {
  verdict = verdict r.answer;
  seed = seed_in r.answer;
  book = r.book;
  interval = interval_of (number_in r.answer) (kind_in r.answer) prices marked flows factors;
}

-- accepted: the drawn interval, and "the last s back"; refused: what was lent, and zeros
unfoldable pub synthesized : Book → ℕ → ℕ → ℕ → Interval → Outcome
synthesized b s number kind lent =
    pick (is_accepted (draw_verdict b lent))
    (record { verdict = accepted; seed = seed_after (draws b) s; book = b; interval = made b s number kind })
    (record { verdict = draw_verdict b lent; seed = 0; book = b; interval = lent })
