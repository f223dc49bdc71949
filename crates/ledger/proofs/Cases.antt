-- The one table of the cases that document 01 marks (*): the numbers that the definitions compute beside those of the paper. The
-- cases of a book are played on both machines, the book and the ledger P, from an image: no opening takes its threshold. Assumes nothing.
use mathlib.Core.Path.{◌≡◌, refl}
use mathlib.Core.Bool.{true, false}
use mathlib.Core.List.{List, [], ◌∷◌, ◌++◌}
use Prim.Native.Nat.{ℕ, ◌*◌}
use lib.IntN.{ℤ, pos, negsuc}
use lib.ListN.{get_or, replicate}
use Rattle.laws.specs.Base.{min_z, max_z}
use Rattle.laws.specs.Lists.{run, all_below, any_below, count_below, first_below, total, last_n, joined, sum_from}
use Rattle.laws.specs.Tables.{Row, same_numbers, agree}
use Rattle.pricing.proofs.Cases as Pricing
use Rattle.schedule.proofs.Cases as Schedule
use Rattle.pricing.specs.Indexing.{indexed}
use Rattle.schedule.specs.Schedule.{mean}
use Rattle.pricing.specs.Rounding.{nearest, rounded}
use Rattle.pricing.specs.Holding.{held}
use Rattle.pricing.specs.Carrying.{carried}
use Rattle.pricing.specs.Passing.{cents}
use Rattle.book.specs.declared.record.Settings.{Settings}
use Rattle.book.specs.Validity.{valid}
use Rattle.book_calls.specs.Opening as Opening
use Rattle.book_calls.specs.Report as Report
use Rattle.book_calls.specs.Report.{Numbers}
use Rattle.routes.specs.Limits.{tighter, over}
use Rattle.routes.specs.Links.{extra_of, power_of}
use Rattle.routes.specs.Routes as Routes
use Rattle.publishing.specs.Entry.{entry_of}
use Rattle.publishing.specs.Effective.{scheduled, effective}
use Rattle.publishing.specs.Capped.{any_administered, capped_by}
use Rattle.publishing.specs.Bounds.{has_limit, in_cents, limit, at_most, at_least}
use Rattle.publishing.specs.Published.{published}
use Rattle.entries.specs.Checking.{entry_verdict}
use Rattle.entries.specs.Entering as Entering
use Rattle.ledger.specs.Calls.{Call, entry, report, Answer, entered, set, reported, restarted, answers}
use Rattle.ledger.specs.Ledger as Ledger
use Rattle.ledger.specs.Ledger.{entries_of, before, last_set, unmarked_prices, administered_at}
use Rattle.ledger.specs.Book as Book
use Rattle.ledger.specs.Demand as Demand
use Rattle.ledger.specs.Demand.{Start, loads, settings_of}
use Rattle.laws.specs.Bytes.{le, number, number_at, encode, decode, words}
use Rattle.head.specs.Layout.{widths, firsts, seconds, values, image_of, book_of}
use Rattle.image.specs.Loading.{head_verdict, bad_from, load_verdict, windows_from, sums_from, book_from, ring_from, loaded}

-- ---- what a row takes of the answers
-- of each entry its count and published table
abbrev pub tables : List Answer → List ℤ
tables [] = []
tables (entered v count table ∷ l) = pos count ∷ (table ++ tables l)
tables (set v ∷ l) = tables l
tables (reported n ∷ l) = tables l
tables (restarted v ∷ l) = tables l

-- of each report what `number` is
abbrev reports : (Numbers → ℤ) → List Answer → List ℤ
reports number [] = []
reports number (entered v count table ∷ l) = reports number l
reports number (set v ∷ l) = reports number l
reports number (reported n ∷ l) = number n ∷ reports number l
reports number (restarted v ∷ l) = reports number l

-- ---- the books
-- "S 0, .. H 1, first position 0, threshold 95,000, limits ±60,000"
abbrev book : ℕ → ℕ → List ℕ → Settings
book regions window parents = settings_of regions 0 window 1 0 (λ r. get_or parents r 255) 255 255 (pos 95000) (pos 60000) (negsuc 59999)

-- "its list may begin with such an image of a book without entries .., as the worked books of document 01 then do" (request 2026-06):
-- its image, loaded into a ring that held something
abbrev start : ℕ → ℕ → List ℕ → Start
start regions window parents = loads (image_of false (Opening.fresh (book regions window parents)) []) (replicate (regions * window) (pos 7))

-- both machines from a start: the book, and P
abbrev pub both_from : (List Answer → List ℤ) → Start → List Call → List ℤ
both_from taken from L =
    taken (answers Book.play (Demand.held from) L) ++ taken (answers Ledger.play (Ledger.begin (Demand.settings from)) L)

abbrev both : (List Answer → List ℤ) → ℕ → ℕ → List ℕ → List Call → List ℤ
both taken regions window parents L = both_from taken (start regions window parents) L

abbrev pub twice : List ℤ → List ℤ
twice l = l ++ l

-- ---- "R 3, parents 255, 0, 1, S 0, W 1"
abbrev chain : List Call → List ℤ
chain L = both tables 3 1 (255 ∷ 0 ∷ 1 ∷ []) L

-- "factors 11,000 and 10,800"
abbrev interval : ℕ → List ℤ → ℤ → ℤ → Call
interval number prices flow_b flow_c =
    entry (replicate 3 (pos 0)) number
    (entry_of 0 prices (replicate 3 0) (pos 0 ∷ flow_b ∷ flow_c ∷ []) (0 ∷ 11000 ∷ 10800 ∷ []) (replicate 6 (pos 0)))
    (replicate 3 (pos 0))

-- "Entry 0: 100,000, 90,000, 85,000, published as entered"
abbrev high : List ℤ
high = pos 100000 ∷ pos 90000 ∷ pos 85000 ∷ []

-- ---- "R 1, otherwise alike"
-- entry `number` at a price, its region marked or not
abbrev single : ℕ → ℕ → ℕ → ℤ → Call
single window number mark price =
    entry (replicate window (pos 0)) number (entry_of 0 (price ∷ []) (mark ∷ []) (pos 0 ∷ []) (0 ∷ []) (pos 0 ∷ pos 0 ∷ [])) (pos 0 ∷ [])

-- entries 0 to 5, each with the report after it, whose mark is whether energy is administered at the next entry: "entry 0
-- 100,000, then 50,000", and entry 5 at a price
abbrev day : ℤ → List Call
day price =
    single 1 0 0 (pos 100000) ∷ report 0 0 ∷ single 1 1 0 (pos 50000) ∷ report 0 0 ∷ single 1 2 0 (pos 50000) ∷ report 0 0
    ∷ single 1 3 0 (pos 50000) ∷ report 0 0 ∷ single 1 4 0 (pos 50000) ∷ report 0 0 ∷ single 1 5 0 price ∷ report 0 0 ∷ []

abbrev periods : ℤ → List ℤ
periods price = both (reports (λ n. pos n.mark)) 1 1 [] (day price)

-- ---- the rows of a book
unfoldable pub book_cases : List Row
book_cases =
    -- "Entry 1, same prices, flows B and C 1, ..: 60,000, 54,545, 50,505, count 3"
    record {
      computed = chain (interval 0 high (pos 1) (pos 1) ∷ interval 1 high (pos 1) (pos 1) ∷ []);
      paper = twice (pos 0 ∷ (high ++ pos 3 ∷ pos 60000 ∷ pos 54545 ∷ pos 50505 ∷ []));
    }
    -- "B's flow 0: 60,000, 90,000, 85,000"
    ∷ record {
      computed = chain (interval 0 high (pos 1) (pos 1) ∷ interval 1 high (pos 0) (pos 1) ∷ []);
      paper = twice (pos 0 ∷ (high ++ pos 1 ∷ pos 60000 ∷ pos 90000 ∷ pos 85000 ∷ []));
    }
    -- "Flows −1, prices −70,000, −90,000, −85,000: −60,000, −66,000, −71,280"
    ∷ record {
      computed =
          chain (interval 0 high (pos 1) (pos 1) ∷ interval 1 (negsuc 69999 ∷ negsuc 89999 ∷ negsuc 84999 ∷ []) (negsuc 0) (negsuc 0) ∷ []);
      paper = twice (pos 0 ∷ (high ++ pos 3 ∷ negsuc 59999 ∷ negsuc 65999 ∷ negsuc 71279 ∷ []));
    }
    -- "administered at entries 1 to 5, free at 6"
    ∷ record { computed = periods (pos 50000); paper = twice (pos 1 ∷ pos 1 ∷ pos 1 ∷ pos 1 ∷ pos 1 ∷ pos 0 ∷ []) }
    -- "Entry 5 at 95,000: free at 6"
    ∷ record { computed = periods (pos 95000); paper = twice (pos 1 ∷ pos 1 ∷ pos 1 ∷ pos 1 ∷ pos 1 ∷ pos 0 ∷ []) }
    -- "At 95,001: administered"
    ∷ record { computed = periods (pos 95001); paper = twice (pos 1 ∷ pos 1 ∷ pos 1 ∷ pos 1 ∷ pos 1 ∷ pos 1 ∷ []) }
    -- "W 2, energy 100, 200, marked, 400: sum 600, marked left it 300"
    ∷ record {
      computed =
          both (reports (λ n. n.sum)) 1 2 []
          (single 2 0 0 (pos 100) ∷ single 2 1 0 (pos 200) ∷ single 2 2 1 (pos 900) ∷ report 0 0 ∷ single 2 3 0 (pos 400) ∷ report 0 0 ∷ []);
      paper = twice (pos 300 ∷ pos 600 ∷ []);
    }
    ∷ []

-- the ten of the paper: two of the index and the one of the means stand in the lower crates
unfoldable pub cases : List Row
cases = Pricing.cases ++ (Schedule.cases ++ book_cases)

-- the one test over all of them
pub cases-agree : agree cases ≡ true
unfolding agree cases book_cases Pricing.cases Schedule.cases indexed mean same_numbers answers Ledger.play Book.play entry_verdict entries_of first_below run count_below published Ledger.report_of at_least Report.report_verdict limit total administered_at Routes.limit_of last_n any_below Routes.over_all unmarked_prices last_set Routes.routes_from before tighter all_below Routes.along has_limit at_most capped_by effective Entering.entered Report.report_of valid over extra_of power_of min_z max_z held carried cents in_cents rounded nearest Routes.joined Routes.after scheduled any_administered image_of values firsts seconds words widths encode le joined sum_from loaded load_verdict head_verdict number_at number decode book_of bad_from book_from ring_from windows_from sums_from
cases-agree = refl
