-- The cases of request 2026-04 on both machines, the book from its opening and P: chains of regions over whose links a limit comes to
-- another cent than one that is rounded to the cent at every link. Assumes nothing.
use mathlib.Core.Path.{◌≡◌, refl}
use mathlib.Core.Bool.{true, ◌&&◌}
use mathlib.Core.List.{List, [], ◌∷◌, ◌++◌}
use Prim.Native.Nat.{ℕ, ◌-◌, ◌*◌}
use lib.Dec.{ltb}
use lib.IntN.{ℤ, pos, negsuc}
use lib.ListN.{length, replicate}
use Rattle.laws.specs.Base.{pick, min_z, max_z}
use Rattle.laws.specs.Lists.{run, all_below, any_below, count_below, first_below, total, last_n}
use Rattle.laws.specs.Tables.{Row, same_numbers, agree}
use Rattle.pricing.specs.Rounding.{nearest, rounded}
use Rattle.pricing.specs.Holding.{held}
use Rattle.pricing.specs.Carrying.{carried}
use Rattle.pricing.specs.Passing.{cents}
use Rattle.book.specs.declared.record.Settings.{Settings}
use Rattle.book.specs.Validity.{valid}
use Rattle.book_calls.specs.Opening as Opening
use Rattle.book_calls.specs.Setting.{threshold_verdict}
use Rattle.routes.specs.Limits.{tighter, over}
use Rattle.routes.specs.Links.{extra_of, power_of}
use Rattle.routes.specs.Routes as Routes
use Rattle.publishing.specs.Entry.{entry_of}
use Rattle.publishing.specs.Effective.{scheduled, effective}
use Rattle.publishing.specs.Capped.{any_administered, capped_by}
use Rattle.publishing.specs.Bounds.{has_limit, in_cents, limit, at_most, at_least}
use Rattle.publishing.specs.Published.{published}
use Rattle.entries.specs.Checking.{entry_verdict}
use Rattle.entries.specs.Entering as Entering
use Rattle.ledger.specs.Calls.{Call, entry, answers}
use Rattle.ledger.specs.Ledger as Ledger
use Rattle.ledger.specs.Ledger.{entries_of, before, last_set, unmarked_prices, administered_at}
use Rattle.ledger.specs.Book as Book
use Rattle.ledger.specs.Demand.{opens, settings_of}
use Rattle.ledger.proofs.Cases.{tables, both_from, twice}

-- each region's parent is the one before it; S 0, W 1, H 1, threshold 90,000
abbrev chain : ℕ → ℤ → ℤ → Settings
chain regions cap floor = settings_of regions 0 1 1 0 (λ r. pick (ltb 0 r && ltb r regions) (r - 1) 255) 255 255 (pos 90000) cap floor

-- an entry at these prices, the flow over every link the same
abbrev interval : ℕ → ℤ → List ℕ → List ℤ → Call
interval number flow factors prices =
    entry (replicate (length prices) (pos 0)) number
    (entry_of 0 prices (replicate (length prices) 0) (replicate (length prices) flow) factors (replicate (2 * length prices) (pos 0)))
    (replicate (length prices) (pos 0))

-- entry 0 makes a period of each region that is above the threshold and is published as entered; what entry 1 publishes is the case
abbrev case : ℤ → ℤ → List ℤ → ℤ → List ℕ → List ℤ → List ℤ → Row
case cap floor first flow factors prices expected =
    record {
      computed =
          both_from tables (opens (chain (length first) cap floor) (replicate (length first) (pos 7)))
          (interval 0 (pos 0) factors first ∷ interval 1 flow factors prices ∷ []);
      paper = twice (pos 0 ∷ (first ++ expected));
    }

unfoldable pub cases : List Row
cases =
    -- one link: the last link too rounds to ten-thousandths first
    case (pos 3751) (negsuc 3750) (pos 100000 ∷ pos 0 ∷ []) (pos 1) (0 ∷ 15001 ∷ []) (pos 100000 ∷ pos 90000 ∷ [])
    (pos 2 ∷ pos 3751 ∷ pos 2501 ∷ [])
    -- a cap over three links
    ∷ case (pos 60000) (negsuc 59999) (pos 100000 ∷ pos 0 ∷ pos 0 ∷ pos 0 ∷ []) (pos 1) (0 ∷ 10800 ∷ 10300 ∷ 10300 ∷ [])
    (pos 100000 ∷ pos 90000 ∷ pos 90000 ∷ pos 90000 ∷ [])
    (pos 4 ∷ pos 60000 ∷ pos 55556 ∷ pos 53937 ∷ pos 52366 ∷ [])
    -- a floor over three links
    ∷ case (pos 60000) (negsuc 60000) (pos 100000 ∷ pos 0 ∷ pos 0 ∷ pos 0 ∷ []) (negsuc 0) (0 ∷ 10507 ∷ 10507 ∷ 10507 ∷ [])
    (replicate 4 (negsuc 99999))
    (pos 4 ∷ negsuc 60000 ∷ negsuc 63042 ∷ negsuc 66238 ∷ negsuc 69597 ∷ [])
    -- a cap limit of 0
    ∷ case (pos 1) (negsuc 0) (pos 100000 ∷ pos 0 ∷ pos 0 ∷ []) (pos 1) (0 ∷ 20000 ∷ 20000 ∷ []) (pos 100000 ∷ pos 5 ∷ pos 5 ∷ [])
    (pos 3 ∷ pos 1 ∷ pos 1 ∷ pos 0 ∷ [])
    -- a cap limit of 0 from the one end meets a floor limit of -1 from the other, and they do not cross
    ∷ case (pos 1) (negsuc 0) (pos 100000 ∷ pos 0 ∷ pos 0 ∷ pos 0 ∷ pos 100000 ∷ []) (pos 1) (0 ∷ 20000 ∷ 20000 ∷ 10000 ∷ 10000 ∷ [])
    (pos 100000 ∷ pos 7 ∷ pos 7 ∷ pos 7 ∷ negsuc 8 ∷ [])
    (pos 5 ∷ pos 1 ∷ pos 1 ∷ pos 0 ∷ pos 0 ∷ negsuc 0 ∷ [])
    ∷ []

-- the one test over the rows
pub cases-agree : agree cases ≡ true
unfolding agree cases same_numbers answers Ledger.play Book.play entry_verdict entries_of first_below run count_below published at_least limit total administered_at Routes.limit_of last_n any_below Routes.over_all unmarked_prices last_set Routes.routes_from before tighter all_below Routes.along has_limit at_most capped_by effective Opening.opened Opening.open_verdict threshold_verdict Entering.entered valid over extra_of power_of min_z max_z held carried cents in_cents rounded nearest Routes.joined Routes.after scheduled any_administered
cases-agree = refl
