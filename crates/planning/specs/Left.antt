-- Intervals left before a period (request 2026-02). Assumes nothing.
use Rattle.std.specs.Prelude.{Result, Ok, Err, ◌≡◌, Bool, true, false, not, List, ◌++◌, ℕ, suc, ◌+◌, ◌*◌, ◌≤◌, ◌<◌, eqb, ltb, ℤ, length, replicate}
use Rattle.std.specs.Int.Signed.{lt_z}
use Rattle.laws.specs.Base.{pick}
use Rattle.laws.specs.Lists.{total, last_n, first_below}
use Rattle.pricing.specs.Verdict.{Verdict, accepted, refused}
use Rattle.pricing.specs.Holding.{is_energy, in_range}
use Rattle.book.specs.declared.record.Book.{Book}
use Rattle.book.specs.Record.{markets_of, ring_size, verdict, is_accepted}
use Rattle.book.specs.Validity.{valid}
use Rattle.book_calls.specs.Report.{report_verdict}
use Rattle.head.specs.Counted.{in_order}
use Rattle.image.specs.Storing.{prices_ok}
use Rattle.book.specs.declared.record.Reply.{Reply}
use Rattle.book.specs.declared.record.Refusal.{Refusal}

-- "further unmarked intervals, .. each bringing the window that price, .. old prices leaving as they would": the sum after n of
-- them, of a window of W that counts these prices, oldest first
abbrev pub sum_with : ℕ → List ℤ → ℤ → ℕ → ℤ
sum_with W window price n = total (last_n W (window ++ replicate n price))

-- ".. after which the sum would exceed the present threshold"
abbrev pub exceeds : ℕ → List ℤ → ℤ → ℤ → ℕ → Bool
exceeds W window price threshold n = lt_z threshold (sum_with W window price n)

-- "the least number .., 1 to W, ..", counted from 0: W where none does
abbrev pub first_above : ℕ → List ℤ → ℤ → ℤ → ℕ
first_above W window price threshold = first_below W (λ k. exceeds W window price threshold (suc k))

-- "..; 0 exactly if none does"
unfoldable pub least_above : ℕ → List ℤ → ℤ → ℤ → ℕ
least_above W window price threshold =
    pick (ltb (first_above W window price threshold) W) (suc (first_above W window price threshold)) 0

-- the same in logical form: proofs/Least shows that a number other than 0 is such a one, and that for 0 there is none
pub record Least (W : ℕ) (window : List ℤ) (price threshold : ℤ) (n : ℕ) : Type 0 where
  pub some : 1 ≤ n
  pub most : n ≤ W
  pub above : exceeds W window price threshold n ≡ true
  pub fewer : (k : ℕ) → 1 ≤ k → k < n → exceeds W window price threshold k ≡ false

-- "43: a price outside the entry range, tested after 10, 11, 21 and store's 22": 21 is the report's, 22 the store's over all markets
unfoldable pub left_verdict : Book → List ℤ → ℕ → ℕ → ℤ → Verdict
left_verdict b ring region market price =
    pick (not (valid b)) (refused 10)
    (pick (not (eqb (length ring) (ring_size b.regions b.services b.window))) (refused 11)
    (pick (not (is_accepted (report_verdict b.regions b.services region market))) (refused 21)
    (pick (not (prices_ok b ring)) (refused 22)
    (pick (not (in_range (is_energy market) price)) (refused 43)
    accepted))))

-- the counted prices of a market, oldest first
abbrev pub window_in : Book → List ℤ → ℕ → ℕ → List ℤ
window_in b ring region market = in_order b ring (region * markets_of b.services + market)

-- "For a market and a price", against "the present threshold"
abbrev pub market_left : Book → List ℤ → ℕ → ℕ → ℤ → ℕ
market_left b ring region market price = least_above b.window (window_in b ring region market) price b.threshold

pub record Outcome : Type 0 where
  pub verdict : Verdict
  pub intervals : ℕ
  pub book : Book

-- "The book and ring stay": the ring is lent for reading alone, the book is handed back, accepted or refused
unfoldable pub intervals_left : Book → List ℤ → ℕ → ℕ → ℤ → Outcome
intervals_left b ring region market price =
    pick (is_accepted (left_verdict b ring region market price))
    (record { verdict = accepted; intervals = market_left b ring region market price; book = b })
    (record { verdict = left_verdict b ring region market price; intervals = 0; book = b })

-- the paper's value for each case: the number of intervals, or zero beside a refusal
abbrev pub intervals_in : Result ℕ Refusal → ℕ
intervals_in (Ok n) = n
intervals_in (Err r) = 0

abbrev pub outcome : Reply ℕ → Outcome
outcome r = record { verdict = verdict r.answer; intervals = intervals_in r.answer; book = r.book }
