-- What P's history holds of one region, and that all P works out of the region's markets comes from it. Assumes nothing.
use mathlib.Core.Path.{◌≡◌, refl, sym, ap, ap₂, ◌∙◌}
use mathlib.Core.Bool.{Bool, not, ◌&&◌}
use mathlib.Core.List.{List, [], ◌∷◌}
use Prim.Native.Nat.{ℕ, zero, suc, ◌+◌, ◌*◌, ◌%◌, ◌≤◌, ◌<◌}
use native.Mathlib.Omega.{arith}
use borrow.Author.Tests.{lt-ltb, le-leb, leb-true}
use lib.Dec.{eqb, leb}
use lib.IntN.{ℤ, pos}
use lib.Signed.{lt_z}
use lib.ListN.{length, take, get_or}
use Rattle.laws.specs.Base.{pick}
use Rattle.laws.specs.Lists.{tabulate, total, last_n}
use Rattle.laws.proofs.Tests.{by-test}
use Rattle.laws.proofs.Lists.{all_same, any_same, get_or-tabulate}
use Rattle.pricing.specs.Verdict.{accepted}
use Rattle.book.specs.Record.{markets_of}
use Rattle.book_calls.specs.Report.{Numbers, report_verdict}
use Rattle.publishing.specs.Entry.{Entry}
use Rattle.ledger.specs.Ledger.{Item, interval, threshold-set, limits-set, Ledger, entries_of, taken, day, position_at}
use Rattle.ledger.specs.Ledger.{before, threshold_by, last_set, threshold_at, is_unmarked, entry_price, unmarked_prices, last_prices}
use Rattle.ledger.specs.Ledger.{triggers, releases, administered_at, report_of}
use Rattle.isolation.specs.Isolation.{OpenedAlike}

-- of an entry the region's prices, or that it was marked; and thresholds. Limits that were set are nothing to a region's sums
pub data Part : Type 0 where
  priced : List ℤ → Part
  suspended : Part
  threshold-of : ℤ → Part

abbrev pub part_of : ℕ → ℕ → Entry → Part
part_of markets region e = pick (is_unmarked e region) (priced (tabulate markets (entry_price markets e region))) suspended

unfoldable pub parts : ℕ → ℕ → List Item → List Part
parts markets region [] = []
parts markets region (interval e ∷ h) = part_of markets region e ∷ parts markets region h
parts markets region (threshold-set x ∷ h) = threshold-of x ∷ parts markets region h
parts markets region (limits-set c f ∷ h) = parts markets region h

-- ---- of the parts: how many entries, a market's prices at the first n of them, the threshold at entry t
unfoldable many : List Part → ℕ
many [] = 0
many (priced p ∷ l) = suc (many l)
many (suspended ∷ l) = suc (many l)
many (threshold-of x ∷ l) = many l

unfoldable prices_in : ℕ → ℕ → List Part → List ℤ
prices_in m n [] = []
prices_in m zero (priced p ∷ l) = []
prices_in m (suc n) (priced p ∷ l) = get_or p m (pos 0) ∷ prices_in m n l
prices_in m zero (suspended ∷ l) = []
prices_in m (suc n) (suspended ∷ l) = prices_in m n l
prices_in m n (threshold-of x ∷ l) = prices_in m n l

unfoldable threshold_in : ℕ → ℤ → List Part → ℤ
threshold_in t x [] = x
threshold_in zero x (priced p ∷ l) = x
threshold_in (suc t) x (priced p ∷ l) = threshold_in t x l
threshold_in zero x (suspended ∷ l) = x
threshold_in (suc t) x (suspended ∷ l) = threshold_in t x l
threshold_in t x (threshold-of y ∷ l) = threshold_in t y l

module _ (M r : ℕ) where
  many-parts : (h : List Item) → many (parts M r h) ≡ length (entries_of h)
  unfolding many parts entries_of
  many-parts [] = refl
  many-parts (interval e ∷ h) = by-test (is_unmarked e r) (λ t. rw t (ap suc (many-parts h))) (λ t. rw t (ap suc (many-parts h)))
  many-parts (threshold-set x ∷ h) = many-parts h
  many-parts (limits-set c f ∷ h) = many-parts h

  prices-parts : (m : ℕ) → m < M → (n : ℕ) (h : List Item) → prices_in m n (parts M r h) ≡ unmarked_prices M r m (take n (entries_of h))
  unfolding prices_in parts entries_of unmarked_prices
  prices-parts m l zero [] = refl
  prices-parts m l (suc n) [] = refl
  prices-parts m l zero (interval e ∷ h) = by-test (is_unmarked e r) (λ t. rw t) (λ t. rw t)
  prices-parts m l (suc n) (interval e ∷ h) =
      by-test (is_unmarked e r)
      (λ t. rw t (ap₂ ◌∷◌ (get_or-tabulate (entry_price M e r) M m (pos 0) l) (prices-parts m l n h)))
      (λ t. rw t (prices-parts m l n h))
  prices-parts m l n (threshold-set x ∷ h) = prices-parts m l n h
  prices-parts m l n (limits-set c f ∷ h) = prices-parts m l n h

  threshold-parts : (t : ℕ) (x : ℤ) (h : List Item) → threshold_in t x (parts M r h) ≡ last_set threshold_by x (before t h)
  unfolding threshold_in parts last_set before
  threshold-parts t x [] = refl
  threshold-parts zero x (interval e ∷ h) = by-test (is_unmarked e r) (λ u. rw u) (λ u. rw u)
  threshold-parts (suc t) x (interval e ∷ h) =
      by-test (is_unmarked e r) (λ u. rw u (threshold-parts t x h)) (λ u. rw u (threshold-parts t x h))
  threshold-parts t x (threshold-set y ∷ h) = threshold-parts t y h
  threshold-parts t x (limits-set c f ∷ h) = threshold-parts t x h

-- ---- two ledgers that hold the same of a region
module _ (p q : Ledger) (a : OpenedAlike p.settings q.settings) (r : ℕ)
    (same : parts (markets_of p.settings.services) r p.items ≡ parts (markets_of p.settings.services) r q.items) where
  abbrev M : ℕ
  M = markets_of p.settings.services

  taken-same : taken p ≡ taken q
  taken-same = sym (many-parts M r p.items) ∙ ap many same ∙ many-parts M r q.items

  module _ (m : ℕ) (l : m < M) where
    prices-same : (n : ℕ) → last_prices p r m n ≡ last_prices q r m n
    prices-same n =
        let u : unmarked_prices M r m (take n (entries_of p.items)) ≡ unmarked_prices M r m (take n (entries_of q.items)) =
        sym (prices-parts M r m l n p.items) ∙ ap (prices_in m n) same ∙ prices-parts M r m l n q.items in
        ap₂ (λ (w : ℕ) (v : List ℤ). last_n w v) a.window u
        ∙ ap (λ (s : ℕ). last_n q.settings.window (unmarked_prices (markets_of s) r m (take n (entries_of q.items)))) a.services

    threshold-same : (t : ℕ) → threshold_at p t ≡ threshold_at q t
    threshold-same t =
        sym (threshold-parts M r t p.settings.threshold p.items)
        ∙ ap₂ (λ (x : ℤ) (s : List Part). threshold_in t x s) a.threshold same
        ∙ threshold-parts M r t q.settings.threshold q.items

    triggers-same : (t : ℕ) → triggers p r m t ≡ triggers q r m t
    triggers-same t = ap₂ lt_z (threshold-same t) (ap total (prices-same (suc t)))

    position-same : (t : ℕ) → eqb (position_at p t + 1) (day p) ≡ eqb (position_at q t + 1) (day q)
    position-same t = ap₂ (λ (f h : ℕ). eqb ((f + t) % (6 * h) + 1) (6 * h)) a.first a.halves

    releases-same : (t : ℕ) → releases p r m t ≡ releases q r m t
    releases-same t = ap₂ (λ (x y : Bool). x && not y) (position-same t) (triggers-same t)

    administered-same : (t : ℕ) → administered_at p r m t ≡ administered_at q r m t
    unfolding administered_at
    administered-same t =
        any_same t _ _
        (λ j k. ap₂ ◌&&◌ (triggers-same j) (all_same t _ _ (λ i n. ap (λ (b : Bool). not (leb j i && b)) (releases-same i))))

  -- the numbers of a report
  abbrev numbers : Ledger → ℕ → Numbers
  numbers x m = record {
    verdict = accepted;
    sum = total (last_prices x r m (taken x));
    counted = length (last_prices x r m (taken x));
    mark = pick (administered_at x r m (taken x)) 1 0;
    entries = taken x;
  }

  numbers-same : (m : ℕ) → m < M → numbers p m ≡ numbers q m
  numbers-same m l =
      let w : last_prices p r m (taken p) ≡ last_prices q r m (taken q) = prices-same m l (taken p) ∙ ap (last_prices q r m) taken-same in
      let d : administered_at p r m (taken p) ≡ administered_at q r m (taken q) =
      administered-same m l (taken p) ∙ ap (administered_at q r m) taken-same in
      λ i. record { verdict = accepted; sum = total (w i); counted = length (w i); mark = pick (d i) 1 0; entries = taken-same i }

  pub reports-same : r < p.settings.regions → r < q.settings.regions → (m : ℕ) → report_of p r m ≡ report_of q r m
  unfolding report_of report_verdict
  reports-same h k m =
      let u : leb m q.settings.services ≡ leb m p.settings.services = ap (leb m) (sym a.services) in
      rw (lt-ltb r p.settings.regions h, lt-ltb r q.settings.regions k)
      (by-test (leb m p.settings.services)
      (λ t. rw (t, u ∙ t) (numbers-same m (omega (arith, leb-true m p.settings.services t))))
      (λ t. rw (t, u ∙ t)))

-- a report of one of the region's markets is no refusal
pub report-answered : (p : Ledger) (r m : ℕ) → r < p.settings.regions → m ≤ p.settings.services → (report_of p r m).verdict ≡ accepted
unfolding report_of report_verdict
report-answered p r m h l = rw (lt-ltb r p.settings.regions h, le-leb m p.settings.services l)
