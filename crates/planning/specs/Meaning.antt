-- What the number of intervals left means. Read this file first. `proofs/Brought` proves `Answered` and `Foretold`. Assumes nothing.
--
-- In words: begin with a book that is opened, or loaded from an image without entries and with no period marked, and play any list L of
-- calls. Then the question for a market and a price is answered, whatever L was: 10, 11 and 22 never occur, and only 21 and 43 may. Let
-- n be the answer. Play any further calls K that bring the market's window exactly k prices, all of them the price that was asked
-- about. If k is n, the sum is above the threshold that the book had after L; if k is 1 or more but less than n, it isn't; and if n is
-- 0, it isn't for any k from 1 to W. K may do anything besides: refused calls, settings, reports, restarts, entries at which the region
-- is marked, any prices of other markets.
use Rattle.std.specs.Prelude.{◌≡◌, Bool, true, false, not, List, [], ◌∷◌, ℕ, ◌≤◌, ◌<◌, ℤ, replicate}
use Rattle.std.specs.Int.Signed.{lt_z}
use Rattle.laws.specs.Base.{pick}
use Rattle.pricing.specs.Verdict.{Verdict, accepted, refused}
use Rattle.pricing.specs.Holding.{is_energy, in_range}
use Rattle.book.specs.Record.{markets_of, is_accepted}
use Rattle.book_calls.specs.Report as Report
use Rattle.book_calls.specs.Report.{report_verdict}
use Rattle.publishing.specs.Entry.{Entry}
use Rattle.ledger.specs.Calls.{Call, entry, threshold, limits, report, restart, Answer, answers, after, verdict_in}
use Rattle.ledger.specs.Ledger.{unmarked_prices}
use Rattle.ledger.specs.Book as Book
use Rattle.ledger.specs.Book.{Held}
use Rattle.ledger.specs.Demand.{Start, held, settings, Begins}
use Rattle.planning.specs.Left as Left
use Rattle.planning.specs.Left.{intervals_left}

-- the entries of a list of calls that its answers accept
unfoldable pub accepted_in : List Call → List Answer → List Entry
accepted_in [] l = []
accepted_in (c ∷ K) [] = []
accepted_in (entry ring number e table ∷ K) (a ∷ l) = pick (is_accepted (verdict_in a)) (e ∷ accepted_in K l) (accepted_in K l)
accepted_in (threshold x ∷ K) (a ∷ l) = accepted_in K l
accepted_in (limits c f ∷ K) (a ∷ l) = accepted_in K l
accepted_in (report r m ∷ K) (a ∷ l) = accepted_in K l
accepted_in (restart second buffer ring ∷ K) (a ∷ l) = accepted_in K l

-- the prices that the calls of K bring a market's window, by P's own definition: those of the unmarked intervals
abbrev pub brought : Held → List Call → ℕ → ℕ → List ℤ
brought s K region market = unmarked_prices (markets_of s.book.services) region market (accepted_in K (answers Book.play s K))

-- whether a market's sum is above this threshold after K, as a report gives it
abbrev pub above_after : Held → List Call → ℕ → ℕ → ℤ → Bool
above_after s K region market θ = lt_z θ (Report.report_of (after Book.play s K).book region market).sum

-- what a book with its ring is answered
abbrev pub asked : Held → ℕ → ℕ → ℤ → Left.Outcome
asked s region market price = intervals_left s.book s.ring region market price

-- what is claimed of the answer of a book with its ring
pub record Foretells (s : Held) (region market : ℕ) (price : ℤ) : Type 0 where
  -- the answer's number of them: the sum exceeds the threshold that the book has
  pub enough : (K : List Call) → 1 ≤ (asked s region market price).intervals
      → brought s K region market ≡ replicate (asked s region market price).intervals price
      → above_after s K region market s.book.threshold ≡ true
  -- fewer: it doesn't
  pub fewer : (K : List Call) (k : ℕ) → 1 ≤ k → k < (asked s region market price).intervals
      → brought s K region market ≡ replicate k price
      → above_after s K region market s.book.threshold ≡ false
  -- "0 exactly if none does"
  pub none : (K : List Call) (k : ℕ) → (asked s region market price).intervals ≡ 0 → 1 ≤ k → k ≤ s.book.window
      → brought s K region market ≡ replicate k price
      → above_after s K region market s.book.threshold ≡ false

-- 21, 43, or an answer
abbrev pub asked_verdict : ℕ → ℕ → ℕ → ℕ → ℤ → Verdict
asked_verdict regions services region market price =
    pick (not (is_accepted (report_verdict regions services region market))) (refused 21)
    (pick (not (in_range (is_energy market) price)) (refused 43)
    accepted)

unfoldable pub Answered : Type 0
Answered =
    (start : Start) (L : List Call) (region market : ℕ) (price : ℤ) → Begins start
    → (asked (after Book.play (held start) L) region market price).verdict
    ≡ asked_verdict (settings start).regions (settings start).services region market price

unfoldable pub Foretold : Type 0
Foretold =
    (start : Start) (L : List Call) (region market : ℕ) (price : ℤ) → Begins start
    → asked_verdict (settings start).regions (settings start).services region market price ≡ accepted
    → Foretells (after Book.play (held start) L) region market price
