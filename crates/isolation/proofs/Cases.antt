-- Pairs of books with their calls, computed: some tell region 1 the same, whose reports are then the same; the others show what happens where
-- a hypothesis of `Isolation` fails. `everything` and `otherwise` have calls of every kind, and the theorem is applied to them. Assumes nothing.
use mathlib.Core.Path.{◌≡◌, refl, sym, ap, ◌∙◌}
use mathlib.Core.Bool.{true, false}
use mathlib.Core.List.{List, [], ◌∷◌, ◌++◌}
use Prim.Native.Nat.{ℕ, zero, suc, ◌<◌}
use native.Mathlib.Omega.{arith}
use borrow.Author.Tests.{ltb-true}
use lib.IntN.{ℤ, pos, negsuc}
use lib.ListN.{length, take, get_or, replicate}
use Rattle.laws.specs.Base.{min_z, max_z}
use Rattle.laws.specs.Lists.{run, all_below, any_below, count_below, first_below, total, joined, sum_from}
use Rattle.laws.specs.Bytes.{le, number, number_at, encode, decode, words}
use Rattle.pricing.specs.Rounding.{nearest, rounded}
use Rattle.pricing.specs.Holding.{held}
use Rattle.pricing.specs.Carrying.{carried}
use Rattle.pricing.specs.Passing.{cents}
use Rattle.book.specs.declared.record.Book.{Book}
use Rattle.book.specs.Record.{markets_of}
use Rattle.book.specs.Validity.{valid}
use Rattle.book_calls.specs.Opening.{opened, open_verdict, fresh}
use Rattle.book_calls.specs.Setting.{threshold_verdict, limits_verdict, set_threshold, set_limits}
use Rattle.book_calls.specs.Report.{report_of, report_verdict}
use Rattle.routes.specs.Limits.{tighter, over}
use Rattle.routes.specs.Links.{extra_of, power_of}
use Rattle.routes.specs.Routes as Routes
use Rattle.publishing.specs.Entry.{entry_of}
use Rattle.publishing.specs.Effective.{scheduled, effective}
use Rattle.publishing.specs.Capped.{any_administered, capped_by}
use Rattle.publishing.specs.Bounds.{has_limit, in_cents, limit, at_most, at_least}
use Rattle.publishing.specs.Published.{published}
use Rattle.head.specs.Layout.{tail, tail_widths, widths, firsts, seconds, values, image_of, book_of}
use Rattle.image.specs.Storing.{store_verdict, stored}
use Rattle.image.specs.Loading.{head_verdict, bad_from, load_verdict, windows_from, sums_from, book_from, ring_from, loaded}
use Rattle.entries.specs.Checking.{entry_verdict}
use Rattle.entries.specs.Entering as Entering
use Rattle.ledger.specs.Calls.{Call, entry, threshold, limits, report, restart, Answer, entered, set, reported, restarted, answers, after}
use Rattle.ledger.specs.Book.{Held, play}
use Rattle.ledger.specs.Demand as Demand
use Rattle.ledger.specs.Demand.{Start, opens, loads, settings, Begins, settings_of}
use Rattle.isolation.specs.Isolation.{Told, of-refusal, of-prices, of-suspension, of-threshold, of-limits, of-report, of-restart}
use Rattle.isolation.specs.Isolation.{heard, answered, book_after, ReportedAlike}
use Rattle.isolation.proofs.Theorem.{isolation}

-- how a book begins, and the calls on it
record Side : Type 0 where
  start : Start
  calls : List Call

-- what they tell region 1, and after each of them the sum, prices counted and mark of each of its markets
record Figures : Type 0 where
  tells : List Told
  reports : List (List ℤ)

abbrev row : ℤ → ℕ → ℕ → List ℤ
row sum counted mark = sum ∷ pos counted ∷ pos mark ∷ []

abbrev numbers_of : Book → ℕ → List ℤ
numbers_of b zero = []
numbers_of b (suc m) = numbers_of b m ++ row (report_of b 1 m).sum (report_of b 1 m).counted (report_of b 1 m).mark

-- the reports on the way, each call played once
unfoldable reports_on : ℕ → Held → List Call → List (List ℤ)
reports_on markets s [] = []
reports_on markets s (c ∷ L) = numbers_of (play s c).state.book markets ∷ reports_on markets (play s c).state L

-- they are those of the books after the first calls, of which `Isolation` speaks
reports-after : (markets : ℕ) (s : Held) (L : List Call) (n : ℕ) → n < length L
    → get_or (reports_on markets s L) n [] ≡ numbers_of (after play s (take (suc n) L)).book markets
unfolding reports_on after
reports-after markets s [] n h = absurd (omega (arith, h))
reports-after markets s (c ∷ L) zero h = refl
reports-after markets s (c ∷ L) (suc n) h = reports-after markets (play s c).state L n (omega (arith, h))

abbrev figures : Side → Figures
figures x = record {
  tells = heard (markets_of (settings x.start).services) 1 x.calls (answered x.start x.calls);
  reports = reports_on (markets_of (settings x.start).services) (Demand.held x.start) x.calls;
}

abbrev SameFigures : Side → Side → Figures → Type 0
SameFigures x y f = (figures x ≡ f) × (figures y ≡ f)

-- ---- R 2, parents 255 and 0, S 0, W 2, H 1, threshold 90,000, limits ±60,000
abbrev opened-at : ℕ → List Call → Side
opened-at first L = record {
  start = opens (settings_of 2 0 2 1 first (λ r. get_or (255 ∷ 0 ∷ []) r 255) 255 255 (pos 90000) (pos 60000) (negsuc 59999)) (replicate 4 (pos 7));
  calls = L;
}

-- an entry: its number, price and mark of region 0 and of region 1, and the flow between them
abbrev enters : ℕ → ℤ → ℕ → ℤ → ℕ → ℤ → Call
enters number price-0 mark-0 price-1 mark-1 flow =
    entry (replicate 4 (pos 0)) number
    (entry_of 0 (price-0 ∷ price-1 ∷ []) (mark-0 ∷ mark-1 ∷ []) (pos 0 ∷ flow ∷ []) (10000 ∷ 11000 ∷ []) (replicate 4 (pos 0)))
    (replicate 2 (pos 0))

-- an entry at these prices, with no power between them
abbrev plain : ℕ → ℤ → ℤ → Call
plain number price-0 price-1 = enters number price-0 0 price-1 0 (pos 0)

abbrev told-prices : List ℤ → List Told
told-prices [] = []
told-prices (x ∷ l) = of-prices (x ∷ []) ∷ told-prices l

-- ---- told the same
-- `travels`: region 0 is above the threshold after entry 0, and its cap comes to region 1 at entry 1. `stays`: it is not, and none comes
abbrev travels : Side
travels =
    opened-at 0 (
    enters 0 (pos 100000) 0 (pos 70000) 0 (pos 0)
    ∷ enters 1 (pos 100000) 0 (pos 70000) 0 (pos 1)
    ∷ enters 2 (pos 0) 0 (pos 10000) 0 (pos 1)
    ∷ []
    )

abbrev stays : Side
stays =
    opened-at 0 (
    enters 0 (pos 0) 0 (pos 70000) 0 (negsuc 0)
    ∷ enters 1 (pos 5) 1 (pos 70000) 0 (negsuc 0)
    ∷ enters 2 (pos 50) 0 (pos 10000) 0 (pos 0)
    ∷ []
    )

abbrev seventy : Figures
seventy = record {
  tells = told-prices (pos 70000 ∷ pos 70000 ∷ pos 10000 ∷ []);
  reports = row (pos 70000) 1 0 ∷ row (pos 140000) 2 1 ∷ row (pos 80000) 2 1 ∷ [];
}

-- region 1's published energy, entry by entry
abbrev published_in : List Answer → List ℤ
published_in [] = []
published_in (entered v count table ∷ l) = get_or table 1 (pos 0) ∷ published_in l
published_in (set v ∷ l) = published_in l
published_in (reported n ∷ l) = published_in l
published_in (restarted v ∷ l) = published_in l

-- `released`: the second entry is the day's last; region 1's period ends and region 0's goes on. `released-alone`: region 0 has none
abbrev released : Side
released = opened-at 4 (plain 0 (pos 100000) (pos 100000) ∷ plain 1 (pos 100000) (negsuc 49999) ∷ [])

abbrev released-alone : Side
released-alone = opened-at 4 (plain 0 (pos 0) (pos 100000) ∷ plain 1 (pos 0) (negsuc 49999) ∷ [])

abbrev fifty : Figures
fifty = record {
  tells = told-prices (pos 100000 ∷ negsuc 49999 ∷ []);
  reports = row (pos 100000) 1 1 ∷ row (pos 50000) 2 0 ∷ [];
}

-- ---- `everything` and `otherwise`: calls of every kind, with all that may differ. Both have S 1, W 2, H 1, first position 4 and threshold
-- 90,000; the one is opened, with two regions and limits ±60,000, and restarts by kind 1; the other is loaded from an image, with three
-- regions in a ring and limits 10 and −10, and restarts by kind 2, since it has the additional link
-- an entry into the one: number, prices and region 1's mark
abbrev of_two : ℕ → List ℤ → ℕ → Call
of_two number prices mark =
    entry (replicate 8 (pos 0)) number
    (entry_of 0 prices (0 ∷ mark ∷ []) (pos 0 ∷ pos 1 ∷ []) (10000 ∷ 11000 ∷ []) (replicate 8 (pos 3)))
    (replicate 4 (pos 0))

-- into the other, whose region 0 is marked, and power goes the other way
abbrev of_three : ℕ → List ℤ → ℕ → Call
of_three number prices mark =
    entry (replicate 12 (pos 0)) number
    (entry_of 1 prices (1 ∷ mark ∷ 0 ∷ []) (pos 0 ∷ negsuc 0 ∷ pos 6 ∷ pos 1 ∷ []) (10000 ∷ 10500 ∷ 20000 ∷ 10000 ∷ []) (replicate 12 (pos 8)))
    (replicate 6 (pos 1))

abbrev everything : Side
everything = record {
  start = opens (settings_of 2 1 2 1 4 (λ r. get_or (255 ∷ 0 ∷ []) r 255) 255 255 (pos 90000) (pos 60000) (negsuc 59999)) (replicate 8 (pos 7));
  calls =
      of_two 0 (pos 100000 ∷ pos 1 ∷ pos 70000 ∷ pos 95000 ∷ []) 0
      -- refused: 44
      ∷ threshold (pos 65000)
      ∷ limits (pos 60000) (negsuc 59999)
      -- region 1 is marked
      ∷ of_two 1 (pos 100000 ∷ pos 1 ∷ pos 99 ∷ pos 99 ∷ []) 1
      ∷ threshold (pos 150000)
      ∷ restart false (replicate 200 255) (replicate 8 (negsuc 4))
      ∷ report 0 0
      ∷ of_two 2 (pos 5 ∷ pos 5 ∷ pos 80000 ∷ pos 5 ∷ []) 0
      -- refused: 13
      ∷ of_two 2 (pos 5 ∷ pos 5 ∷ pos 80000 ∷ pos 5 ∷ []) 0
      ∷ of_two 3 (negsuc 4 ∷ pos 5 ∷ pos 90000 ∷ pos 5 ∷ []) 0 ∷ [];
}

abbrev otherwise : Side
otherwise = record {
  start =
      loads
      (image_of true (fresh (settings_of 3 1 2 1 4 (λ r. get_or (255 ∷ 0 ∷ 1 ∷ []) r 255) 2 0 (pos 90000) (pos 10) (negsuc 9))) [])
      (replicate 12 (negsuc 7));
  calls =
      of_three 0 (pos 0 ∷ pos 0 ∷ pos 70000 ∷ pos 95000 ∷ pos 100000 ∷ pos 2 ∷ []) 0
      -- refused: 21
      ∷ report 5 5
      ∷ limits (pos 30000) (negsuc 0)
      ∷ of_three 1 (pos 0 ∷ pos 0 ∷ negsuc 2147483647 ∷ negsuc 0 ∷ pos 100000 ∷ pos 2 ∷ []) 1
      ∷ threshold (pos 150000)
      ∷ restart true (replicate 300 0) (replicate 12 (pos 4))
      ∷ report 2 1
      ∷ of_three 2 (pos 0 ∷ pos 0 ∷ pos 80000 ∷ pos 5 ∷ negsuc 8 ∷ pos 2 ∷ []) 0
      -- refused: 47
      ∷ restart false (replicate 300 0) (replicate 12 (pos 4))
      ∷ of_three 3 (pos 0 ∷ pos 0 ∷ pos 90000 ∷ pos 5 ∷ negsuc 8 ∷ pos 2 ∷ []) 0 ∷ [];
}

-- energy is above 150,000 only at the last entry; the service is above 90,000 at the first two, and the second is the only day's last
abbrev tenfold : Figures
tenfold = record {
  tells =
      of-prices (pos 70000 ∷ pos 95000 ∷ []) ∷ of-refusal ∷ of-limits ∷ of-suspension ∷ of-threshold (pos 150000) ∷ of-restart ∷ of-report
      ∷ of-prices (pos 80000 ∷ pos 5 ∷ []) ∷ of-refusal ∷ of-prices (pos 90000 ∷ pos 5 ∷ []) ∷ [];
  reports =
      replicate 7 (row (pos 70000) 1 0 ++ row (pos 95000) 1 1)
      ++ (replicate 2 (row (pos 150000) 2 0 ++ row (pos 95005) 2 1)
      ++ (row (pos 170000) 2 1 ++ row (pos 10) 2 1) ∷ []);
}

-- ---- not told the same, or not opened alike
-- `out_of_range`: a price of region 0 that is out of range refuses the whole entry
abbrev out_of_range : Side
out_of_range = opened-at 0 (plain 0 (pos 10000001) (pos 50000) ∷ [])

abbrev in-range : Side
in-range = opened-at 0 (plain 0 (pos 10000000) (pos 50000) ∷ [])

-- a threshold set before the entry, after it, and before it to another value
abbrev set-early : Side
set-early = opened-at 0 (threshold (pos 40000) ∷ plain 0 (pos 0) (pos 50000) ∷ [])

abbrev set-late : Side
set-late = opened-at 0 (plain 0 (pos 0) (pos 50000) ∷ threshold (pos 40000) ∷ [])

abbrev set-higher : Side
set-higher = opened-at 0 (threshold (pos 60000) ∷ plain 0 (pos 0) (pos 50000) ∷ [])

-- `later-day`: as `released-alone`, but the second entry is not the day's last
abbrev later-day : Side
later-day = opened-at 3 (plain 0 (pos 0) (pos 100000) ∷ plain 1 (pos 0) (negsuc 49999) ∷ [])

-- `marked`: as `in-range`, but region 1 is marked
abbrev marked : Side
marked = opened-at 0 (enters 0 (pos 10000000) 0 (pos 50000) 1 (pos 0) ∷ [])

-- the figures of a list that tells these, after which such are reported
abbrev are : List Told → List (List ℤ) → Figures
are l r = record { tells = l; reports = r }

record Computed : Type 0 where
  travel : SameFigures travels stays seventy
  energies : (published_in (answered travels.start travels.calls) ≡ pos 70000 ∷ pos 54545 ∷ pos 10000 ∷ [])
      × (published_in (answered stays.start stays.calls) ≡ pos 70000 ∷ pos 70000 ∷ pos 10000 ∷ [])
  release : SameFigures released released-alone fifty
  every : SameFigures everything otherwise tenfold
  refusal : (figures out_of_range ≡ are (of-refusal ∷ []) (row (pos 0) 0 0 ∷ []))
      × (figures in-range ≡ are (told-prices (pos 50000 ∷ [])) (row (pos 50000) 1 0 ∷ []))
  early : figures set-early ≡ are (of-threshold (pos 40000) ∷ told-prices (pos 50000 ∷ [])) (row (pos 0) 0 0 ∷ row (pos 50000) 1 1 ∷ [])
  higher : figures set-higher ≡ are (of-threshold (pos 60000) ∷ told-prices (pos 50000 ∷ [])) (row (pos 0) 0 0 ∷ row (pos 50000) 1 0 ∷ [])
  late : figures set-late ≡ are (of-prices (pos 50000 ∷ []) ∷ of-threshold (pos 40000) ∷ []) (replicate 2 (row (pos 50000) 1 0))
  later : figures later-day ≡ are fifty.tells (row (pos 100000) 1 1 ∷ row (pos 50000) 2 1 ∷ [])
  mark : figures marked ≡ are (of-suspension ∷ []) (row (pos 0) 0 0 ∷ [])

computed : Computed
unfolding heard reports_on answers play opened open_verdict valid Entering.entered entry_verdict set_threshold set_limits threshold_verdict limits_verdict run first_below count_below all_below any_below total report_of report_verdict published effective scheduled capped_by any_administered has_limit limit at_most at_least extra_of power_of tighter over Routes.limit_of Routes.over_all Routes.routes_from Routes.along Routes.joined Routes.after min_z max_z held carried cents in_cents rounded nearest stored store_verdict image_of tail tail_widths values firsts seconds words widths encode le joined sum_from loaded load_verdict head_verdict number_at number decode book_of bad_from book_from ring_from windows_from sums_from
computed = record {
  travel = (refl, refl);
  energies = (refl, refl);
  release = (refl, refl);
  every = (refl, refl);
  refusal = (refl, refl);
  early = refl;
  higher = refl;
  late = refl;
  later = refl;
  mark = refl;
}

-- the hypotheses hold of `everything` and `otherwise`, so the theorem speaks of them
everything-begins : Begins everything.start
unfolding opened open_verdict threshold_verdict run all_below
everything-begins = record { accepted = refl; fit = refl }

otherwise-begins : Begins otherwise.start
unfolding valid run first_below all_below image_of tail tail_widths values firsts seconds words widths encode le joined sum_from loaded load_verdict head_verdict number_at number decode book_of bad_from book_from ring_from windows_from sums_from total
otherwise-begins = record { accepted = refl; fit = record { entries = refl; marks = refl } }

pub everything-isolated : (n market : ℕ) → ReportedAlike
    (book_after everything.start everything.calls n)
    (book_after otherwise.start otherwise.calls n) 1 1 market
unfolding valid run first_below all_below image_of tail tail_widths values firsts seconds words widths encode le joined sum_from loaded load_verdict head_verdict number_at number decode book_of bad_from book_from ring_from windows_from sums_from total
everything-isolated =
    isolation everything.start otherwise.start everything.calls otherwise.calls 1
    everything-begins otherwise-begins
    (record { services = refl; window = refl; halves = refl; first = refl; threshold = refl })
    (ltb-true 1 2 refl) (ltb-true 1 3 refl)
    (ap (λ (f : Figures). f.tells) (computed.every.0 ∙ sym computed.every.1))
