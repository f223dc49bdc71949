-- One long run, computed on both machines, with its literal answers: an accepted load of an image, whose threshold no opening takes, and
-- every kind of call, so that no hypothesis of DEMAND 3 is empty (proofs/Chains and Full begin with openings). Refusals 11, 13 to 19, 21,
-- 23 and 44 occur in it; 12 takes 10,000,000 entries (Full), and 10 and 22 never occur (Corollaries). Assumes nothing.
use mathlib.Core.Path.{◌≡◌, refl}
use mathlib.Core.Bool.{false}
use mathlib.Core.List.{List, [], ◌∷◌}
use Prim.Native.Nat.{ℕ}
use lib.IntN.{ℤ, pos, negsuc}
use lib.ListN.{get_or, replicate}
use Rattle.laws.specs.Base.{min_z, max_z}
use Rattle.laws.specs.Lists.{run, all_below, any_below, count_below, first_below, total, last_n, joined, sum_from}
use Rattle.laws.specs.Bytes.{le, number, number_at, encode, decode, words}
use Rattle.pricing.specs.Verdict.{Verdict, accepted, refused, refused_at}
use Rattle.pricing.specs.Rounding.{nearest, rounded}
use Rattle.pricing.specs.Holding.{held}
use Rattle.pricing.specs.Carrying.{carried}
use Rattle.pricing.specs.Passing.{cents}
use Rattle.book.specs.declared.record.Settings.{Settings}
use Rattle.book.specs.Validity.{valid}
use Rattle.book_calls.specs.Opening.{fresh}
use Rattle.book_calls.specs.Setting.{threshold_verdict, limits_verdict, set_threshold, set_limits}
use Rattle.book_calls.specs.Report as Report
use Rattle.book_calls.specs.Report.{nothing}
use Rattle.routes.specs.Limits.{tighter, over}
use Rattle.routes.specs.Links.{extra_of, power_of}
use Rattle.routes.specs.Routes as Routes
use Rattle.publishing.specs.Entry.{entry_of}
use Rattle.publishing.specs.Effective.{scheduled, effective}
use Rattle.publishing.specs.Capped.{any_administered, capped_by}
use Rattle.publishing.specs.Bounds.{has_limit, in_cents, limit, at_most, at_least}
use Rattle.publishing.specs.Published.{published}
use Rattle.head.specs.Layout.{widths, firsts, seconds, values, image_of, book_of}
use Rattle.image.specs.Storing.{store_verdict, stored}
use Rattle.image.specs.Loading.{head_verdict, bad_from, load_verdict, windows_from, sums_from, book_from, ring_from, loaded}
use Rattle.entries.specs.Checking.{entry_verdict}
use Rattle.entries.specs.Entering as Entering
use Rattle.ledger.specs.Calls.{Call, entry, threshold, limits, report, restart, Answer, entered, set, reported, restarted, answers}
use Rattle.ledger.specs.Ledger as Ledger
use Rattle.ledger.specs.Ledger.{entries_of, before, last_set, unmarked_prices, administered_at, counts_to, restart_verdict}
use Rattle.ledger.specs.Book as Book
use Rattle.ledger.specs.Demand as Demand
use Rattle.ledger.specs.Demand.{Start, loads, Begins, settings_of}

-- R 2, S 1, W 2, H 1, parents 255 and 0. A day has six positions and the first is 3, so that entry 2 is at D−1
abbrev pub settings : Settings
settings = settings_of 2 1 2 1 3 (λ r. get_or (255 ∷ 0 ∷ []) r 255) 255 255 (pos 95000) (pos 60000) (negsuc 59999)

-- an image of a book with these settings and without entries, loaded into a ring that held something
abbrev pub start : Start
start = loads (image_of false (fresh settings) []) (replicate 8 (pos 77))

-- ---- entries: lent a ring by its length, a number, a day kind, prices, marks, B's factor; B's power always goes to A
abbrev lent : ℕ → ℕ → ℕ → List ℤ → List ℕ → ℕ → Call
lent places number kind prices marked factor =
    entry (replicate places (pos 0)) number
    (entry_of kind prices marked (pos 0 ∷ pos 1 ∷ []) (0 ∷ factor ∷ []) (pos 1 ∷ pos 70000 ∷ pos 2 ∷ negsuc 4 ∷ pos 3 ∷ pos 4 ∷ pos 5 ∷ pos 6 ∷ []))
    (replicate 4 (pos 9))

abbrev enters : ℕ → ℕ → List ℤ → List ℕ → Call
enters number kind prices marked = lent 8 number kind prices marked 11000

-- a prices slice: energy and service of A, then of B
abbrev prices : ℤ → ℤ → ℤ → ℤ → List ℤ
prices a b c d = a ∷ b ∷ c ∷ d ∷ []

abbrev plain : List ℤ
plain = prices (pos 1) (pos 2) (pos 3) (pos 4)

abbrev pub calls : List Call
calls =
    report 0 0
    -- no multiple of 10,000: 95,000 stays, though it is none itself
    ∷ threshold (pos 85000)
    -- A's energy 100,000 is above the threshold: a trigger; B's isn't
    ∷ enters 0 0 (prices (pos 100000) (pos 250) (pos 90000) (pos 300)) (0 ∷ 0 ∷ [])
    ∷ report 0 0
    ∷ report 1 0
    -- A is held, its service capped, and its cap is passed on to B; B triggers
    ∷ enters 1 0 (prices (pos 100000) (pos 70000) (pos 90000) (pos 80000)) (0 ∷ 0 ∷ [])
    ∷ report 1 0
    -- both settings; B stays administered, for they act from the next entry
    ∷ limits (pos 50000) (negsuc 39999)
    ∷ threshold (pos 200000)
    ∷ report 1 0
    -- at D−1: A is marked and its sum stays at exactly the threshold, so both are released
    ∷ enters 2 1 (prices (negsuc 0) (negsuc 0) (pos 48000) (pos 1000)) (1 ∷ 0 ∷ [])
    ∷ report 0 0
    ∷ report 1 0
    -- a ring of a wrong length, then 13 to 18, 44, 19 and 21
    ∷ lent 7 3 0 plain (0 ∷ 0 ∷ []) 11000
    ∷ enters 4 0 plain (0 ∷ 0 ∷ [])
    ∷ enters 3 2 plain (0 ∷ 0 ∷ [])
    ∷ enters 3 0 plain (0 ∷ 2 ∷ [])
    ∷ enters 3 0 (prices (pos 1) (pos 2) (pos 3) (negsuc 0)) (0 ∷ 0 ∷ [])
    ∷ lent 8 3 0 plain (0 ∷ 0 ∷ []) 9999
    ∷ threshold (pos 0)
    ∷ threshold (pos 99999999999)
    ∷ limits (pos 5) (pos 0)
    ∷ report 0 2
    ∷ report 2 0
    -- a buffer that is one short of 148 + 4 × 2 × 4, a ring of a wrong length, and a restart: buffer and ring hold other things
    ∷ restart false (replicate 179 255) (replicate 8 (negsuc 4))
    ∷ restart false (replicate 200 255) (replicate 7 (negsuc 4))
    ∷ restart false (replicate 200 255) (replicate 8 (negsuc 4))
    -- the oldest leaves each window, and A triggers again
    ∷ enters 3 0 (prices (pos 100001) (pos 0) (pos 10000) (pos 0)) (0 ∷ 0 ∷ [])
    ∷ report 0 0 ∷ report 0 1 ∷ report 1 0 ∷ report 1 1 ∷ []

-- ---- their answers
abbrev published-as : ℕ → List ℤ → Answer
published-as count table = entered accepted count table

abbrev unwritten : Verdict → Answer
unwritten v = entered v 0 (replicate 4 (pos 9))

abbrev numbers : ℤ → ℕ → ℕ → ℕ → Answer
numbers sum counted mark entries = reported (record { verdict = accepted; sum = sum; counted = counted; mark = mark; entries = entries })

abbrev pub expected : List Answer
expected =
    numbers (pos 0) 0 0 0
    ∷ set (refused 44)
    ∷ published-as 0 (prices (pos 100000) (pos 250) (pos 90000) (pos 300))
    ∷ numbers (pos 100000) 1 1 1
    ∷ numbers (pos 90000) 1 0 1
    ∷ published-as 3 (prices (pos 60000) (pos 60000) (pos 54545) (pos 80000))
    ∷ numbers (pos 180000) 2 1 2
    ∷ set accepted
    ∷ set accepted
    ∷ numbers (pos 180000) 2 1 2
    ∷ published-as 1 (prices (pos 50000) (pos 0) (pos 45455) (pos 1000))
    ∷ numbers (pos 200000) 2 0 3
    ∷ numbers (pos 138000) 2 0 3
    ∷ unwritten (refused 11)
    ∷ unwritten (refused 13)
    ∷ unwritten (refused 14)
    ∷ unwritten (refused_at 15 1)
    ∷ unwritten (refused_at 16 3)
    ∷ unwritten (refused_at 17 1)
    ∷ set (refused 18)
    ∷ set (refused 44)
    ∷ set (refused 19)
    ∷ reported (nothing (refused 21))
    ∷ reported (nothing (refused 21))
    ∷ restarted (refused 23)
    ∷ restarted (refused 11)
    ∷ restarted accepted
    ∷ published-as 0 (prices (pos 100001) (pos 0) (pos 10000) (pos 0))
    ∷ numbers (pos 200001) 2 1 4 ∷ numbers (pos 70000) 2 0 4 ∷ numbers (pos 58000) 2 0 4 ∷ numbers (pos 1000) 2 0 4 ∷ []

-- P's list may begin with it
pub begins : Begins start
unfolding valid run first_below all_below image_of values firsts seconds words widths encode le joined sum_from loaded load_verdict head_verdict number_at number decode book_of bad_from book_from ring_from windows_from sums_from total
begins = record { accepted = refl; fit = record { entries = refl; marks = refl } }

-- the book as loaded, and P
pub runs : (answers Book.play (Demand.held start) calls ≡ expected) × (answers Ledger.play (Ledger.begin (Demand.settings start)) calls ≡ expected)
unfolding answers Book.play Ledger.play valid Entering.entered entry_verdict set_threshold set_limits threshold_verdict limits_verdict entries_of before last_set unmarked_prices administered_at counts_to restart_verdict run first_below count_below all_below any_below total last_n Ledger.report_of Report.report_of Report.report_verdict published effective scheduled capped_by any_administered has_limit limit at_most at_least extra_of power_of tighter over Routes.limit_of Routes.over_all Routes.routes_from Routes.along Routes.joined Routes.after min_z max_z held carried cents in_cents rounded nearest stored store_verdict image_of values firsts seconds words widths encode le joined sum_from loaded load_verdict head_verdict number_at number decode book_of bad_from book_from ring_from windows_from sums_from
runs = (refl, refl)
