-- Runs with the additional link (request 2026-10), computed on both machines, with their literal answers: the computed cases 1 to 5, 7
-- and 9 of the request's reading. A relaxing loop gives other numbers in case 1, a search that forgets a direction or a route in the
-- others. Assumes nothing.
use mathlib.Core.Path.{◌≡◌, refl}
use mathlib.Core.Bool.{Bool, true, false}
use mathlib.Core.List.{List, [], ◌∷◌}
use Prim.Native.Nat.{ℕ}
use lib.IntN.{ℤ, pos, negsuc}
use lib.ListN.{get_or, replicate}
use Rattle.laws.specs.Base.{min_z, max_z}
use Rattle.laws.specs.Lists.{run, all_below, any_below, count_below, first_below, total, last_n, joined, sum_from}
use Rattle.laws.specs.Bytes.{le, number, number_at, encode, decode, words}
use Rattle.pricing.specs.Verdict.{Verdict, accepted, refused, refused_at}
use Rattle.pricing.specs.Rounding.{nearest, rounded}
use Rattle.pricing.specs.Holding.{held}
use Rattle.pricing.specs.Carrying.{carried}
use Rattle.pricing.specs.Passing.{cents}
use Rattle.book.specs.Validity.{valid}
use Rattle.book_calls.specs.Opening as Opening
use Rattle.book_calls.specs.Opening.{fresh}
use Rattle.book_calls.specs.Setting.{threshold_verdict}
use Rattle.routes.specs.Limits.{tighter, over}
use Rattle.routes.specs.Links.{extra_of, power_of}
use Rattle.routes.specs.Routes as Routes
use Rattle.publishing.specs.Entry.{entry_of}
use Rattle.publishing.specs.Effective.{scheduled, effective}
use Rattle.publishing.specs.Capped.{any_administered, capped_by}
use Rattle.publishing.specs.Bounds.{has_limit, in_cents, limit, at_most, at_least}
use Rattle.publishing.specs.Published.{published}
use Rattle.head.specs.Layout.{tail, tail_widths, widths, firsts, seconds, values, image_of, book_of}
use Rattle.image.specs.Storing.{store_verdict, stored}
use Rattle.image.specs.Loading.{head_verdict, bad_from, load_verdict, windows_from, sums_from, book_from, ring_from, loaded}
use Rattle.entries.specs.Checking.{entry_verdict}
use Rattle.entries.specs.Entering as Entering
use Rattle.ledger.specs.Calls.{Call, entry, restart, Answer, entered, restarted, answers}
use Rattle.ledger.specs.Ledger as Ledger
use Rattle.ledger.specs.Ledger.{entries_of, before, last_set, unmarked_prices, administered_at, counts_to, restart_verdict}
use Rattle.ledger.specs.Book as Book
use Rattle.ledger.specs.Demand as Demand
use Rattle.ledger.specs.Demand.{Start, opens, loads, Begins, settings_of}

-- R 3, parents 255, 0, 1, S 0, W 1, H 1, loaded from an image of kind 2 without entries: no opening takes 95,000
abbrev pub ring : ℕ → ℕ → Start
ring from to =
    loads (image_of true (fresh (settings_of 3 0 1 1 0 (λ r. get_or (255 ∷ 0 ∷ 1 ∷ []) r 255) from to (pos 95000) (pos 60000) (negsuc 59999))) [])
    (replicate 3 (pos 77))

abbrev three : ℤ → ℤ → ℤ → List ℤ
three a b c = a ∷ b ∷ c ∷ []

-- flows of the links from B to A and from C to B and of the additional one; A has no parent
abbrev flows : ℤ → ℤ → ℤ → List ℤ
flows b c last = pos 0 ∷ b ∷ c ∷ last ∷ []

abbrev factors : ℕ → ℕ → ℕ → List ℕ
factors b c last = 0 ∷ b ∷ c ∷ last ∷ []

abbrev enters : ℕ → List ℤ → List ℤ → List ℕ → Call
enters number prices flows factors =
    entry (replicate 3 (pos 0)) number (entry_of 0 prices (replicate 3 0) flows factors (replicate 6 (pos 0))) (replicate 3 (pos 9))

abbrev high : List ℤ
high = three (pos 100000) (pos 90000) (pos 85000)

-- the first entry: A's energy is above the threshold, which administers it from the next on
abbrev first : Call
first = enters 0 (three (pos 100000) (pos 0) (pos 0)) (flows (pos 0) (pos 0) (pos 0)) (factors 11000 11000 11000)

abbrev publishes : ℕ → List ℤ → Answer
publishes count table = entered accepted count table

abbrev unwritten : Verdict → Answer
unwritten v = entered v 0 (replicate 3 (pos 9))

abbrev restarts : Bool → ℕ → Call
restarts second room = restart second (replicate room 255) (replicate 3 (negsuc 4))

-- ---- cases 1, 4, 7 and 9: the link from A to C
abbrev pub outward : List Call
outward =
    -- 17 at R; B's factor before it; one flow too few
    enters 0 high (flows (pos 0) (pos 0) (pos 0)) (factors 11000 11000 9999)
    ∷ enters 0 high (flows (pos 0) (pos 0) (pos 0)) (factors 9999 11000 9999)
    ∷ enters 0 high (three (pos 0) (pos 0) (pos 0)) (factors 11000 11000 11000)
    ∷ first
    -- by kind 1: 47, also where the buffer holds nothing; by kind 2 168 bytes
    ∷ restarts false 0 ∷ restarts false 200 ∷ restarts true 167 ∷ restarts true 168
    -- power goes A → C → B → A: round the ring no limit comes back to its source
    ∷ enters 1 high (flows (pos 1) (pos 1) (pos 1)) (factors 11000 11000 11000)
    -- floors: of two routes to C the highest binds
    ∷ enters 2 (three (negsuc 99999) (negsuc 89999) (negsuc 94999)) (flows (negsuc 0) (negsuc 0) (pos 1)) (factors 11000 11000 10500)
    ∷ []

abbrev pub outward_answers : List Answer
outward_answers =
    unwritten (refused_at 17 3) ∷ unwritten (refused_at 17 1) ∷ unwritten (refused 11)
    ∷ publishes 0 (three (pos 100000) (pos 0) (pos 0))
    ∷ restarted (refused 47) ∷ restarted (refused 47) ∷ restarted (refused 23) ∷ restarted accepted
    ∷ publishes 3 (three (pos 60000) (pos 54545) (pos 49587))
    ∷ publishes 3 (three (negsuc 59999) (negsuc 65999) (negsuc 62999))
    ∷ []

-- ---- cases 2 and 3: the same link named from C to A
abbrev pub homeward : List Call
homeward =
    first
    -- of two routes from C the direct one binds, then the one by B
    ∷ enters 1 high (flows (pos 1) (pos 1) (pos 1)) (factors 10100 10100 13000)
    ∷ enters 2 high (flows (pos 1) (pos 1) (pos 1)) (factors 11000 11000 10500)
    -- the direct one carries nothing, or power from A to C
    ∷ enters 3 high (flows (pos 1) (pos 1) (pos 0)) (factors 10100 10100 13000)
    ∷ enters 4 high (flows (pos 1) (pos 1) (negsuc 0)) (factors 10100 10100 13000)
    ∷ []

abbrev pub homeward_answers : List Answer
homeward_answers =
    publishes 0 (three (pos 100000) (pos 0) (pos 0))
    ∷ publishes 3 (three (pos 60000) (pos 59406) (pos 46154))
    ∷ publishes 3 (three (pos 60000) (pos 54545) (pos 49587))
    ∷ publishes 3 (three (pos 60000) (pos 59406) (pos 58818))
    ∷ publishes 3 (three (pos 60000) (pos 59406) (pos 58818))
    ∷ []

-- ---- case 5: two regions without parents, and the link from B to A; an opening
abbrev pub apart : Start
apart = opens (settings_of 2 0 1 1 0 (λ r. 255) 1 0 (pos 90000) (pos 60000) (negsuc 59999)) (replicate 2 (pos 77))

abbrev pair : ℕ → Call
pair number =
    entry (replicate 2 (pos 0)) number
    (entry_of 0 (pos 100000 ∷ pos 90000 ∷ []) (replicate 2 0) (pos 5 ∷ pos 5 ∷ pos 1 ∷ []) (0 ∷ 0 ∷ 11000 ∷ []) (replicate 4 (pos 0)))
    (replicate 2 (pos 9))

abbrev pub apart_answers : List Answer
apart_answers = publishes 0 (pos 100000 ∷ pos 90000 ∷ []) ∷ publishes 2 (pos 60000 ∷ pos 54545 ∷ []) ∷ []

-- ---- both machines
abbrev Plays : Start → List Call → List Answer → Type 0
Plays start l a = (answers Book.play (Demand.held start) l ≡ a) × (answers Ledger.play (Ledger.begin (Demand.settings start)) l ≡ a)

-- P's lists may begin so
pub begins : Begins (ring 0 2) × (Begins (ring 2 0) × Begins apart)
unfolding valid run first_below all_below image_of tail tail_widths values firsts seconds words widths encode le joined sum_from loaded load_verdict head_verdict number_at number decode book_of bad_from book_from ring_from windows_from sums_from total Opening.opened Opening.open_verdict threshold_verdict
begins = (
  record { accepted = refl; fit = record { entries = refl; marks = refl } },
  (record { accepted = refl; fit = record { entries = refl; marks = refl } }, record { accepted = refl; fit = refl }),
)

pub runs : Plays (ring 0 2) outward outward_answers
    × (Plays (ring 2 0) homeward homeward_answers × Plays apart (pair 0 ∷ pair 1 ∷ []) apart_answers)
unfolding answers Book.play Ledger.play valid Entering.entered entry_verdict entries_of before last_set unmarked_prices administered_at counts_to restart_verdict run first_below count_below all_below any_below total last_n published effective scheduled capped_by any_administered has_limit limit at_most at_least extra_of power_of tighter over Routes.limit_of Routes.over_all Routes.routes_from Routes.along Routes.joined Routes.after min_z max_z held carried cents in_cents rounded nearest stored store_verdict image_of tail tail_widths values firsts seconds words widths encode le joined sum_from loaded load_verdict head_verdict number_at number decode book_of bad_from book_from ring_from windows_from sums_from Opening.opened Opening.open_verdict threshold_verdict
runs = ((refl, refl), ((refl, refl), (refl, refl)))
