-- The ledger machine P of document 01: it keeps the settings of opening and, in order, the accepted entries and settings, and
-- works everything else out from these. It has no book, no ring, no running sum, no count and no next place. Assumes nothing.
--
-- Positions, sums, counts, settings at an entry, periods and restarts are P's own. These definitions it shares with the book, so that
-- DEMAND 3 alone would not show a mistake in them; what guards them besides:
--   refusals after 10: `entry_verdict` (over `Shape`), `threshold_verdict`, `limits_verdict`, `report_verdict`: the literal answers of proofs/Run
--   (12: proofs/Full), the program guide_books, must-fail edits of entries, book and book_calls
--   steps 1 to 4: `table_of` and `count_of` over `Terms` and `Entry`: the literal tables of proofs/Cases, Chains (limits over links), Rings
--   (over the additional one) and Run, the programs guide and guide_books, must-fail edits of publishing and routes
--   sizes and places: `markets_of`, `ring_size`, `used_place`, `is_linked`: the same lists and programs, must-fail edits of book
--   forms alone: `Settings`, `Verdict`, `Numbers` with `nothing`, `is_accepted`, the calls and answers of Calls, and the lists of laws
-- All of them are compared with the independent ledger of host/rust, which shares no definition.
use Rattle.std.specs.Prelude.{◌≡◌, Bool, true, false, not, ◌&&◌, ◌||◌, List, [], ◌∷◌, ◌++◌, ℕ, zero, suc, ◌+◌, ◌*◌, ◌/◌, ◌%◌, ◌≤◌, ◌<◌, eqb, leb, ltb, ℤ, pos, length, take, get_or}
use Rattle.std.specs.Int.Signed.{lt_z}
use Rattle.laws.specs.Base.{pick}
use Rattle.laws.specs.Lists.{tabulate, all_below, any_below, total, last_n}
use Rattle.pricing.specs.Verdict.{Verdict, accepted, refused}
use Rattle.book.specs.declared.record.Settings.{Settings}
use Rattle.book.specs.Record.{markets_of, ring_size, is_linked, is_accepted}
use Rattle.book.specs.Validity.{used_place}
use Rattle.book_calls.specs.Setting.{threshold_verdict, limits_verdict}
use Rattle.book_calls.specs.Report.{Numbers, nothing, report_verdict}
use Rattle.publishing.specs.declared.Terms.{Terms}
use Rattle.publishing.specs.Entry.{Entry}
use Rattle.publishing.specs.Published.{table_of, count_of}
use Rattle.entries.specs.Checking.{Shape, entry_verdict}
use Rattle.ledger.specs.Calls.{Call, entry, threshold, limits, report, restart, entered, set, reported, restarted, Step}

-- "in order, the accepted entries and settings", oldest first
pub data Item : Type 0 where
  interval : Entry → Item
  threshold-set : ℤ → Item
  limits-set : ℤ → ℤ → Item

pub record Ledger : Type 0 where
  pub settings : Settings
  pub items : List Item

-- ---- entries: "Accepted entry t, from 0 up"
unfoldable pub entries_of : List Item → List Entry
entries_of [] = []
entries_of (interval e ∷ h) = e ∷ entries_of h
entries_of (threshold-set x ∷ h) = entries_of h
entries_of (limits-set c f ∷ h) = entries_of h

-- "how many entries were accepted"
abbrev pub taken : Ledger → ℕ
taken p = length (entries_of p.items)

-- "has position (first position + t) mod D"
abbrev pub day : Ledger → ℕ
day p = 6 * p.settings.halves

abbrev pub position_at : Ledger → ℕ → ℕ
position_at p t = (p.settings.first + t) % day p

-- ---- settings: what was kept before entry t, or everything where fewer entries were
unfoldable pub before : ℕ → List Item → List Item
before t [] = []
before zero (interval e ∷ h) = []
before (suc t) (interval e ∷ h) = interval e ∷ before t h
before t (threshold-set x ∷ h) = threshold-set x ∷ before t h
before t (limits-set c f ∷ h) = limits-set c f ∷ before t h

-- what an item makes of the threshold, of the cap and of the floor
abbrev pub threshold_by : Item → ℤ → ℤ
threshold_by (interval e) x = x
threshold_by (threshold-set y) x = y
threshold_by (limits-set c f) x = x

abbrev pub cap_by : Item → ℤ → ℤ
cap_by (interval e) x = x
cap_by (threshold-set y) x = x
cap_by (limits-set c f) x = c

abbrev pub floor_by : Item → ℤ → ℤ
floor_by (interval e) x = x
floor_by (threshold-set y) x = x
floor_by (limits-set c f) x = f

-- as last set by the items, x where none does
unfoldable pub last_set : (Item → ℤ → ℤ) → ℤ → List Item → ℤ
last_set by x [] = x
last_set by x (i ∷ h) = last_set by (by i x) h

-- "Threshold, cap and floor at t are those last set before it, by opening at first"
abbrev pub threshold_at : Ledger → ℕ → ℤ
threshold_at p t = last_set threshold_by p.settings.threshold (before t p.items)

abbrev pub cap_at : Ledger → ℕ → ℤ
cap_at p t = last_set cap_by p.settings.cap (before t p.items)

abbrev pub floor_at : Ledger → ℕ → ℤ
floor_at p t = last_set floor_by p.settings.floor (before t p.items)

-- ---- sums: a market's "entry prices .. at which its region was unmarked", oldest first
abbrev pub is_unmarked : Entry → ℕ → Bool
is_unmarked e region = eqb (get_or e.offer.marked region 0) 0

abbrev pub entry_price : ℕ → Entry → ℕ → ℕ → ℤ
entry_price markets e region market = get_or e.offer.prices (region * markets + market) (pos 0)

unfoldable pub unmarked_prices : ℕ → ℕ → ℕ → List Entry → List ℤ
unmarked_prices markets region market [] = []
unmarked_prices markets region market (e ∷ es) =
    pick (is_unmarked e region) (entry_price markets e region market ∷ unmarked_prices markets region market es)
    (unmarked_prices markets region market es)

-- "the market's last W entry prices .., or all if fewer", of the first n entries
abbrev pub last_prices : Ledger → ℕ → ℕ → ℕ → List ℤ
last_prices p region market n =
    last_n p.settings.window (unmarked_prices (markets_of p.settings.services) region market (take n (entries_of p.items)))

-- "Sum after t: the total of [these] up to t"; "prices counted is how many these are"
abbrev pub sum_after : Ledger → ℕ → ℕ → ℕ → ℤ
sum_after p region market t = total (last_prices p region market (suc t))

-- ---- periods
-- "Entry t triggers a market if its sum after t is above the threshold at t"
abbrev pub triggers : Ledger → ℕ → ℕ → ℕ → Bool
triggers p region market t = lt_z (threshold_at p t) (sum_after p region market t)

-- "at position D−1 it releases a market that it doesn't trigger"
abbrev pub releases : Ledger → ℕ → ℕ → ℕ → Bool
releases p region market t = eqb (position_at p t + 1) (day p) && not (triggers p region market t)

-- "A market is administered at t exactly when some j < t triggers it and no i with j ≤ i < t releases it"
unfoldable pub administered_at : Ledger → ℕ → ℕ → ℕ → Bool
administered_at p region market t =
    any_below t (λ j. triggers p region market j && all_below t (λ i. not (leb j i && releases p region market i)))

-- the same in logical form; that the two agree is proved in proofs/Histories (`administered-is`, `is-administered`)
pub record Administered (p : Ledger) (region market t : ℕ) : Type 0 where
  pub trigger : ℕ
  pub earlier : trigger < t
  pub triggered : triggers p region market trigger ≡ true
  pub unreleased : (i : ℕ) → trigger ≤ i → i < t → releases p region market i ≡ false

-- the period marks of all markets at t, at 11 × region + market
abbrev pub marks_at : Ledger → ℕ → List ℕ
marks_at p t =
    tabulate 88 (λ k. pick (used_place p.settings.regions p.settings.services k && administered_at p (k / 11) (k % 11) t) 1 0)

-- ---- publishing: "An entry publishes by steps 1 to 4"
abbrev pub terms_at : Ledger → ℕ → Terms
terms_at p t = record {
  regions = p.settings.regions;
  markets = markets_of p.settings.services;
  halves = p.settings.halves;
  position = position_at p t;
  parents = p.settings.parents;
  from = p.settings.from;
  to = p.settings.to;
  cap = cap_at p t;
  floor = floor_at p t;
}

abbrev pub shape_of : Settings → Shape
shape_of s = record {
  regions = s.regions;
  services = s.services;
  window = s.window;
  halves = s.halves;
  parents = s.parents;
  from = s.from;
}

-- ---- the calls
abbrev pub kept : Ledger → Item → Ledger
kept p i = record { settings = p.settings; items = p.items ++ i ∷ [] }

-- "A report gives sum and prices counted after the last entry (0 before the first), mark 1 if administered at the next and
-- else 0, and how many entries were accepted"
unfoldable pub report_of : Ledger → ℕ → ℕ → Numbers
report_of p region market =
    pick (is_accepted (report_verdict p.settings.regions p.settings.services region market))
    (record {
      verdict = accepted;
      sum = total (last_prices p region market (taken p));
      counted = length (last_prices p region market (taken p));
      mark = pick (administered_at p region market (taken p)) 1 0;
      entries = taken p;
    })
    (nothing (report_verdict p.settings.regions p.settings.services region market))

-- the length of the image that a restart stores: 148 + 4 × M × (sum of counts), of kind 2 from 156
unfoldable pub counts_to : Ledger → ℕ → ℕ
counts_to p zero = 0
counts_to p (suc r) = counts_to p r + length (last_prices p r 0 (taken p))

abbrev pub image_length : Bool → Ledger → ℕ
image_length second p = pick second 156 148 + 4 * (markets_of p.settings.services * counts_to p p.settings.regions)

-- "by kind 1 where 47 allows it": a book without the link goes by either kind, one with it by kind 2 alone
abbrev pub allowed : Bool → Ledger → Bool
allowed second p = second || not (is_linked p.settings.from)

-- "an image stored into a long enough buffer and loaded .. into another ring of the right length .. P accepts both calls and
-- does nothing"; "a restart goes by kind 2, or by kind 1 where 47 allows it". Of any buffer and ring: 47 for kind 1 of a book with the
-- link, a short buffer is 23, a ring of another length 11
unfoldable pub restart_verdict : Bool → Ledger → ℕ → ℕ → Verdict
restart_verdict second p buffer ring =
    pick (not (allowed second p)) (refused 47)
    (pick (ltb buffer (image_length second p)) (refused 23)
    (pick (not (eqb ring (ring_size p.settings.regions p.settings.services p.settings.window))) (refused 11)
    accepted))

-- "Refusals are those listed for the call, of which 10 and 22 never occur over L; a refused call leaves P and the lent table
-- as they were and answers zeros beside number and place". Of a ring P is fed the length alone
abbrev pub play_entry : Ledger → ℕ → ℕ → Entry → List ℤ → Step Ledger
play_entry p ring number e table =
    pick (is_accepted (entry_verdict (shape_of p.settings) (taken p) ring number e (length table)))
    (record {
      state = kept p (interval e);
      answer = entered accepted (count_of (terms_at p (taken p)) (marks_at p (taken p)) e) (table_of (terms_at p (taken p)) (marks_at p (taken p)) e);
    })
    (record { state = p; answer = entered (entry_verdict (shape_of p.settings) (taken p) ring number e (length table)) 0 table })

abbrev pub play_setting : Ledger → Verdict → Item → Step Ledger
play_setting p v i = record { state = pick (is_accepted v) (kept p i) p; answer = set v }

unfoldable pub play : Ledger → Call → Step Ledger
play p (entry ring number e table) = play_entry p (length ring) number e table
play p (threshold x) = play_setting p (threshold_verdict x) (threshold-set x)
play p (limits c f) = play_setting p (limits_verdict c f) (limits-set c f)
play p (report region market) = record { state = p; answer = reported (report_of p region market) }
play p (restart second buffer ring) =
    record { state = p; answer = restarted (restart_verdict second p (length buffer) (length ring)) }

-- P after the opening, or with the settings of an image that stand for the opening's (specs/Demand)
abbrev pub begin : Settings → Ledger
begin s = record { settings = s; items = [] }
