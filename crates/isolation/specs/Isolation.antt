-- ISOLATION (request 2026-05): one region's trouble stays its own. This file is all that is claimed; `isolation` of proofs/Theorem proves
-- `Isolation`. Assumes nothing.
--
-- In words: begin two books with the same services, window, half-hours, first position and threshold, each by an opening or by a load of
-- an image of a book without entries and with no period marked, and play a list of calls on each. Let the following hold place by place:
-- both calls were refused; or both were accepted and are of the same kind, with the same threshold if they set it and, if they are
-- entries, with the same mark of a region r and, where it is unmarked, the same entry prices of r. Then after every so many calls a
-- report of each market of r is the same from both books: sum, prices counted, period mark, entries taken.
--
-- All else may differ: how many regions there are, parents, the additional link, cap and floor; other regions' prices and marks; the prices
-- of r while it is marked; flows, factors, day kinds, schedules and tables; the limits set; what reports ask for; buffers and rings, at the
-- beginning and at restarts, and the kind of image that these go by; and of refused calls everything, their kinds and refusals too; one
-- book may be opened and the other loaded. What is published may differ as well, since limits travel.
--
-- Three machines that it rules out; proofs/Cases has two books of which each machine would report differently:
--   one whose sums take the published energy price, which a neighbour's limit holds (`travels` and `stays`);
--   one whose threshold test takes the largest sum of all regions (the same two, after entry 0);
--   one that releases a market only with its neighbours' (`released` and `released-alone`).
-- Four statements that are false, and must-fail edits; proofs/Cases has the two books that then differ:
--   that it is enough to be lent the same calls, accepted or not (`out_of_range` and `in-range`);
--   that thresholds may be set in other places or to other values (`set-early`, `set-late`, `set-higher`);
--   that the first position may be another one (`released-alone` and `later-day`);
--   that it is enough if another region's marks are the same (`in-range` and `marked`).
use Rattle.std.specs.Prelude.{◌≡◌, List, [], ◌∷◌, ℕ, ◌≤◌, ◌<◌, ℤ, take}
use Rattle.laws.specs.Base.{pick}
use Rattle.laws.specs.Lists.{tabulate}
use Rattle.pricing.specs.Verdict.{accepted}
use Rattle.book.specs.declared.record.Book.{Book}
use Rattle.book.specs.declared.record.Settings.{Settings}
use Rattle.book.specs.Record.{markets_of, is_accepted}
use Rattle.book_calls.specs.Report.{report_of}
use Rattle.publishing.specs.Entry.{Entry}
use Rattle.ledger.specs.Calls.{Call, entry, threshold, limits, report, restart, Answer, answers, after, verdict_in}
use Rattle.ledger.specs.Ledger.{is_unmarked, entry_price}
use Rattle.ledger.specs.Book.{play}
use Rattle.ledger.specs.Demand.{Start, held, settings, Begins}

-- what a call tells a region: of a refused one that it was refused; of an accepted one its kind, of a threshold's setting the threshold,
-- of an entry the region's prices, or that it was marked (suspended)
pub data Told : Type 0 where
  of-refusal : Told
  of-prices : List ℤ → Told
  of-suspension : Told
  of-threshold : ℤ → Told
  of-limits : Told
  of-report : Told
  of-restart : Told

-- "one region's entry prices and marks": the entry prices of a marked region are not looked at
abbrev pub told_by : ℕ → ℕ → Entry → Told
told_by markets region e = pick (is_unmarked e region) (of-prices (tabulate markets (entry_price markets e region))) of-suspension

-- "and all thresholds"
abbrev pub told : ℕ → ℕ → Call → Told
told markets region (entry ring number e table) = told_by markets region e
told markets region (threshold x) = of-threshold x
told markets region (limits c f) = of-limits
told markets region (report r m) = of-report
told markets region (restart second buffer ring) = of-restart

-- what calls with these answers tell a region, place by place: two lists that tell it the same have "the same kinds of call accepted in the
-- same places"
unfoldable pub heard : ℕ → ℕ → List Call → List Answer → List Told
heard markets region [] l = []
heard markets region (c ∷ L) [] = []
heard markets region (c ∷ L) (a ∷ l) = pick (is_accepted (verdict_in a)) (told markets region c) of-refusal ∷ heard markets region L l

-- "books opened alike": in all that a region's sums, counts and marks take from an opening, or from an image's settings in their place
pub record OpenedAlike (s t : Settings) : Type 0 where
  pub services : s.services ≡ t.services
  pub window : s.window ≡ t.window
  pub halves : s.halves ≡ t.halves
  pub first : s.first ≡ t.first
  pub threshold : s.threshold ≡ t.threshold

-- what the book itself answers to a list of calls from its start, "each ring written by its list only", and the book after the first n
abbrev pub answered : Start → List Call → List Answer
answered s L = answers play (held s) L

abbrev pub book_after : Start → List Call → ℕ → Book
book_after s L n = (after play (held s) (take n L)).book

-- "its sums, counts and period marks are the same": the report of a market is, and of each market of the region it is no refusal
pub record ReportedAlike (b c : Book) (services region market : ℕ) : Type 0 where
  pub same : report_of b region market ≡ report_of c region market
  pub answered : market ≤ services → (report_of b region market).verdict ≡ accepted

-- "throughout": for every n
abbrev pub Isolation : Type 0
Isolation =
    (s t : Start) (L K : List Call) (region : ℕ)
    → Begins s → Begins t → OpenedAlike (settings s) (settings t) → region < (settings s).regions → region < (settings t).regions
    → heard (markets_of (settings s).services) region L (answered s L) ≡ heard (markets_of (settings s).services) region K (answered t K)
    → (n market : ℕ) → ReportedAlike (book_after s L n) (book_after t K n) (settings s).services region market
