-- When a book with its ring agrees with a ledger, and that an accepted entry and a setting keep them agreeing. Assumes nothing.
use mathlib.Core.Path.{◌≡◌, refl, sym, ap, ◌∙◌}
use mathlib.Core.Bool.{Bool, true, false, ◌&&◌}
use mathlib.Core.List.{List, [], ◌∷◌}
use Prim.Native.Nat.{ℕ, ◌+◌, ◌/◌, ◌%◌, ◌≤◌, ◌<◌}
use native.Mathlib.Omega.{arith}
use borrow.Author.Tests.{ltb-true, leb-true}
use lib.Dec.{leb, ltb}
use lib.IntN.{ℤ, pos}
use lib.Signed.{lt_z}
use lib.ListN.{length, get_or}
use Rattle.laws.specs.Base.{pick}
use Rattle.laws.specs.Lists.{total}
use Rattle.laws.proofs.Tests.{and_left, and_right, by-test}
use Rattle.laws.proofs.Lists.{tabulate-same, get_or-tabulate}
use Rattle.book.specs.declared.record.Book.{Book}
use Rattle.book.specs.Record.{markets_of, place_of}
use Rattle.book.specs.Validity.{used_place, valid}
use Rattle.book_calls.specs.Setting.{with_settings}
use Rattle.book.proofs.Validities.{valid-is}
use Rattle.head.specs.Counted.{in_order}
use Rattle.publishing.specs.Entry.{Entry}
use Rattle.counting.specs.Windows.{sums_after, ring_after}
use Rattle.counting.specs.Periods.{last_of_day, mark_after, marks_after}
use Rattle.entries.specs.Entering as Entering
use Rattle.entries.specs.Entering.{terms_of, book_after}
use Rattle.ledger.specs.Ledger as Ledger
use Rattle.ledger.specs.Ledger.{Item, interval, threshold-set, limits-set, Ledger, entries_of, taken, day, position_at, threshold_by, cap_by, floor_by, threshold_at, cap_at, floor_at, is_unmarked, entry_price, last_prices, administered_at, marks_at, terms_at, kept}
use Rattle.ledger.specs.Book.{Held}
use Rattle.ledger.proofs.Histories.{set_next, taken-entry, prices-entry, position-entry, administered-entry, taken-setting, prices-setting, position-setting, marks-setting}
use Rattle.ledger.proofs.Sounds.{market_at, Sized, Sound}
use Rattle.ledger.proofs.Steps.{order-after, sum-after, sized-after}
use Rattle.ledger.proofs.Ranges.{prices-is}
use Rattle.ledger.proofs.Keeping.{Kept, Priced, kept-sound, book-kept, setting_kept}

-- a book with its ring that agrees with a ledger
pub record Agree (s : Held) (p : Ledger) : Type 0 where
  -- rule 10, and counted prices in range whose totals are the sums: so 10 and 22 never occur
  pub holds : Kept s.book s.ring
  pub sized : Sized s.book
  pub eight : length s.book.parents ≡ 8
  pub regions : p.settings.regions ≡ s.book.regions
  pub services : p.settings.services ≡ s.book.services
  pub window : p.settings.window ≡ s.book.window
  pub halves : p.settings.halves ≡ s.book.halves
  pub parents : p.settings.parents ≡ s.book.parents
  pub from : p.settings.from ≡ s.book.from
  pub to : p.settings.to ≡ s.book.to
  pub entries : s.book.entries ≡ taken p
  pub position : s.book.position ≡ position_at p (taken p)
  pub threshold : s.book.threshold ≡ threshold_at p (taken p)
  pub cap : s.book.cap ≡ cap_at p (taken p)
  pub floor : s.book.floor ≡ floor_at p (taken p)
  -- each window, read from the oldest, is the ledger's last prices
  pub windows : (r m : ℕ) → r < s.book.regions → m < markets_of s.book.services → in_order s.book s.ring (market_at s.book r m) ≡ last_prices p r m (taken p)
  pub marks : s.book.marks ≡ marks_at p (taken p)

-- ---- what publishing is given
module _ (s : Held) (p : Ledger) (a : Agree s p) where
  pub shape-agrees : Entering.shape_of s.book ≡ Ledger.shape_of p.settings
  shape-agrees = λ i. record {
    regions = sym a.regions i;
    services = sym a.services i;
    window = sym a.window i;
    halves = sym a.halves i;
    parents = sym a.parents i;
    from = sym a.from i;
  }

  pub terms-agree : terms_of s.book ≡ terms_at p (taken p)
  terms-agree = λ i. record {
    regions = sym a.regions i;
    markets = markets_of (sym a.services i);
    halves = sym a.halves i;
    position = a.position i;
    parents = sym a.parents i;
    from = sym a.from i;
    to = sym a.to i;
    cap = a.cap i;
    floor = a.floor i;
  }

-- a market's mark after an entry
mark-cases : (up last was : Bool) → ◌≡◌ {A = ℕ} (pick up 1 (pick last 0 (pick was 1 0))) (pick (pick up true (pick last false was)) 1 0)
mark-cases true last was = refl
mark-cases false true was = refl
mark-cases false false true = refl
mark-cases false false false = refl

-- ---- an accepted entry
module _ (s : Held) (p : Ledger) (a : Agree s p) (e : Entry) (room : s.book.entries < 10000000) (priced : Priced s.book e) where
  abbrev b : Book
  b = s.book

  abbrev ring : List ℤ
  ring = s.ring

  abbrev next : Ledger
  next = kept p (interval e)

  sound : Sound b ring
  sound = kept-sound b ring a.holds

  windows-after : (r m : ℕ) → r < b.regions → m < markets_of b.services → in_order (book_after b ring e) (ring_after b ring e.offer) (market_at b r m) ≡ last_prices next r m (taken next)
  windows-after r m h l =
      let w : 0 < p.settings.window = omega (arith, sound.some, a.window) in
      order-after b ring sound e r h m l
      ∙ rw (a.windows r m h l, ← a.window, ← a.services) (sym (prices-entry p e w r m))

  module _ (k : ℕ) (below : k < 88) (used : used_place b.regions b.services k ≡ true) where
    region-in : k / 11 < b.regions
    region-in = ltb-true (k / 11) b.regions (and_left (ltb (k / 11) b.regions) (leb (k % 11) b.services) used)

    market-in : k % 11 < markets_of b.services
    market-in = omega (arith, leb-true (k % 11) b.services (and_right (ltb (k / 11) b.regions) (leb (k % 11) b.services) used))

    place_is : place_of (k / 11) (k % 11) ≡ k
    place_is = omega arith

    sum_is : get_or (sums_after b ring e.offer) k (pos 0) ≡ total (last_prices next (k / 11) (k % 11) (taken next))
    sum_is =
        ap (λ (i : ℕ). get_or (sums_after b ring e.offer) i (pos 0)) (sym place_is)
        ∙ sum-after b ring sound e (k / 11) region-in (k % 11) market-in ((prices-is b ring a.holds.prices).totals (k / 11) (k % 11) region-in market-in)
        ∙ ap total (windows-after (k / 11) (k % 11) region-in market-in)

    used-there : used_place p.settings.regions p.settings.services k ≡ true
    used-there = rw (a.regions, a.services) used

    mark_was : get_or b.marks k 0 ≡ pick (administered_at p (k / 11) (k % 11) (taken p)) 1 0
    mark_was = ap (λ (l : List ℕ). get_or l k 0) a.marks ∙ get_or-tabulate _ 88 k 0 below ∙ rw used-there

    mark-used : mark_after b.threshold (last_of_day b.halves b.position) (get_or (sums_after b ring e.offer) k (pos 0)) (get_or b.marks k 0)
        ≡ pick (administered_at next (k / 11) (k % 11) (taken next)) 1 0
    mark-used =
        rw (sum_is, mark_was, a.threshold, a.position, ← a.halves)
        (mark-cases (lt_z (threshold_at p (taken p)) (total (last_prices next (k / 11) (k % 11) (taken next)))) (last_of_day p.settings.halves (position_at p (taken p))) (administered_at p (k / 11) (k % 11) (taken p))
        ∙ ap (λ (t : Bool). pick t 1 0) (sym (administered-entry p e (k / 11) (k % 11))))

  marks-after : marks_after b.regions b.services b.threshold (last_of_day b.halves b.position) (sums_after b ring e.offer) b.marks ≡ marks_at next (taken next)
  marks-after = tabulate-same 88 _ _ (λ k h. by-test (used_place b.regions b.services k) (λ u. yes k h u) (λ u. no k h u))
    where
      yes : (k : ℕ) → k < 88 → used_place b.regions b.services k ≡ true
          → pick (used_place b.regions b.services k) (mark_after b.threshold (last_of_day b.halves b.position) (get_or (sums_after b ring e.offer) k (pos 0)) (get_or b.marks k 0)) (get_or b.marks k 0)
          ≡ pick (used_place p.settings.regions p.settings.services k && administered_at next (k / 11) (k % 11) (taken next)) 1 0
      yes k h u = rw (used-there k h u, u) (mark-used k h u)

      no : (k : ℕ) → k < 88 → used_place b.regions b.services k ≡ false
          → pick (used_place b.regions b.services k) (mark_after b.threshold (last_of_day b.halves b.position) (get_or (sums_after b ring e.offer) k (pos 0)) (get_or b.marks k 0)) (get_or b.marks k 0)
          ≡ pick (used_place p.settings.regions p.settings.services k && administered_at next (k / 11) (k % 11) (taken next)) 1 0
      no k h u =
          let v : used_place p.settings.regions p.settings.services k ≡ false = rw (a.regions, a.services) u in
          rw (v, u) (ap (λ (l : List ℕ). get_or l k 0) a.marks ∙ get_or-tabulate _ 88 k 0 h ∙ rw v)

  some-halves : 1 ≤ b.halves
  some-halves = (valid-is b a.holds.accepted).some-halves

  pub entry-agrees : Agree (record { book = book_after b ring e; ring = ring_after b ring e.offer }) next
  entry-agrees = record {
    holds = book-kept b ring 0 e [] a.holds room priced;
    sized = sized-after b ring e;
    eight = a.eight;
    regions = a.regions;
    services = a.services;
    window = a.window;
    halves = a.halves;
    parents = a.parents;
    from = a.from;
    to = a.to;
    entries = ap (λ (n : ℕ). n + 1) a.entries ∙ sym (taken-entry p e);
    position =
        rw (a.position, ← a.halves) (sym (position-entry p e (omega (arith, some-halves, a.halves))));
    threshold = a.threshold ∙ sym (set_next threshold_by p.settings.threshold p.items (interval e));
    cap = a.cap ∙ sym (set_next cap_by p.settings.cap p.items (interval e));
    floor = a.floor ∙ sym (set_next floor_by p.settings.floor p.items (interval e));
    windows = windows-after;
    marks = marks-after;
  }

-- ---- an accepted setting
module _ (s : Held) (p : Ledger) (a : Agree s p) (i : Item) (none : entries_of (i ∷ []) ≡ []) (threshold cap floor : ℤ)
    (is-threshold : threshold ≡ threshold_by i s.book.threshold) (is-cap : cap ≡ cap_by i s.book.cap) (is-floor : floor ≡ floor_by i s.book.floor)
    (ok : valid (with_settings s.book threshold cap floor) ≡ true) where
  pub setting-agrees : Agree (record { book = with_settings s.book threshold cap floor; ring = s.ring }) (kept p i)
  setting-agrees = record {
    holds = setting_kept s.book s.ring threshold cap floor ok a.holds;
    sized = record { counts = a.sized.counts; nexts = a.sized.nexts; sums = a.sized.sums; marks = a.sized.marks };
    eight = a.eight;
    regions = a.regions;
    services = a.services;
    window = a.window;
    halves = a.halves;
    parents = a.parents;
    from = a.from;
    to = a.to;
    entries = a.entries ∙ sym (taken-setting p i none);
    position = a.position ∙ sym (position-setting p i none);
    threshold = is-threshold ∙ ap (threshold_by i) a.threshold ∙ sym (set_next threshold_by p.settings.threshold p.items i);
    cap = is-cap ∙ ap (cap_by i) a.cap ∙ sym (set_next cap_by p.settings.cap p.items i);
    floor = is-floor ∙ ap (floor_by i) a.floor ∙ sym (set_next floor_by p.settings.floor p.items i);
    windows = λ r m h l. a.windows r m h l ∙ sym (prices-setting p i none r m);
    marks = a.marks ∙ sym (marks-setting p i none);
  }
