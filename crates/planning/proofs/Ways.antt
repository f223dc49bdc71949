-- The question's verdict and its outcome by the way that it takes, and what the walk over a window is given. Assumes nothing.
use mathlib.Core.Path.{◌≡◌, refl, sym, ap, ◌∙◌}
use mathlib.Core.Bool.{Bool, true, false, not, ◌&&◌}
use mathlib.Core.List.{List}
use Prim.Native.Nat.{ℕ, ◌+◌, ◌*◌, ◌/◌, ◌≤◌, ◌<◌}
use native.Mathlib.Omega.{arith}
use borrow.Author.Tests.{eq-eqb, ne_eqb, eqb-true, ltb-true, leb-true}
use lib.Dec.{eqb, leb, ltb}
use lib.IntN.{ℤ, pos}
use lib.ListN.{length, get_or}
use Rattle.laws.specs.Base.{pick}
use Rattle.laws.specs.Lists.{total}
use Rattle.laws.proofs.Tests.{and_left, and_right}
use Rattle.laws.proofs.Lists.{flat-div, flat-lt}
use Rattle.pricing.specs.Verdict.{Verdict, accepted, refused}
use Rattle.pricing.specs.Holding.{is_energy, in_range}
use Rattle.book.specs.declared.record.Book.{Book}
use Rattle.book.specs.declared.record.Refusal.{Refusal}
use Rattle.std.specs.Prelude.{Result, Ok, Err}
use Rattle.book.specs.Record.{markets_of, ring_size, place_of, verdict, is_accepted}
use Rattle.book.specs.Validity.{valid}
use Rattle.book.proofs.Passes.{passes-not}
use Rattle.book.proofs.Ways.{is-accepted, is-refused}
use Rattle.book.proofs.Validities.{Valid, valid-is, place-below, sum-at, sizes-small}
use Rattle.book_calls.specs.Report.{report_verdict}
use Rattle.head.specs.Counted.{window_of, market_count}
use Rattle.image.specs.Storing.{prices_ok}
use Rattle.image.proofs.Walks.{Market, market}
use Rattle.ledger.proofs.Ranges.{prices-is}
use Rattle.planning.specs.Left as Left
use Rattle.planning.specs.Left.{least_above, left_verdict, window_in, market_left, intervals_left}
use Rattle.planning.specs.Working.{WindowOk, Accepts}

-- a market that the book has
abbrev pub has_market : Book → ℕ → ℕ → Bool
has_market b region market = ltb region b.regions && leb market b.services

-- ---- the verdict, of its five tests
abbrev pub tests : Bool → Bool → Bool → Bool → Bool → Verdict
tests book ring market sums price =
    pick (not book) (refused 10)
    (pick (not ring) (refused 11)
    (pick (not market) (refused 21)
    (pick (not sums) (refused 22)
    (pick (not price) (refused 43)
    accepted))))

module _ (b : Book) (ring : List ℤ) (region market : ℕ) (price : ℤ) where
  abbrev size : ℕ
  size = ring_size b.regions b.services b.window

  abbrev reports : Bool
  reports = is_accepted (report_verdict b.regions b.services region market)

  pub verdict-tests : tests (valid b) (eqb (length ring) size) reports (prices_ok b ring) (in_range (is_energy market) price)
      ≡ left_verdict b ring region market price
  unfolding left_verdict
  verdict-tests = refl

  has-report : (t : Bool) → has_market b region market ≡ t → reports ≡ t
  unfolding report_verdict
  has-report true e = rw e refl
  has-report false e = rw e refl

  pub left-10 : valid b ≡ false → refused 10 ≡ left_verdict b ring region market price
  left-10 p = (rw p refl) ∙ verdict-tests

  module _ (p : valid b ≡ true) where
    pub left-11 : (length ring ≡ size → ⊥) → refused 11 ≡ left_verdict b ring region market price
    left-11 q = (rw (p, ne_eqb (length ring) size q) refl) ∙ verdict-tests

    module _ (q : length ring ≡ size) where
      pub left-21 : has_market b region market ≡ false → refused 21 ≡ left_verdict b ring region market price
      left-21 r = (rw (p, eq-eqb (length ring) size q, has-report false r) refl) ∙ verdict-tests

      module _ (r : has_market b region market ≡ true) where
        pub left-22 : prices_ok b ring ≡ false → refused 22 ≡ left_verdict b ring region market price
        left-22 s = (rw (p, eq-eqb (length ring) size q, has-report true r, s) refl) ∙ verdict-tests

        module _ (s : prices_ok b ring ≡ true) where
          pub left-43 : in_range (is_energy market) price ≡ false → refused 43 ≡ left_verdict b ring region market price
          left-43 t = (rw (p, eq-eqb (length ring) size q, has-report true r, s, t) refl) ∙ verdict-tests

          pub left-0 : in_range (is_energy market) price ≡ true → accepted ≡ left_verdict b ring region market price
          left-0 t = (rw (p, eq-eqb (length ring) size q, has-report true r, s, t) refl) ∙ verdict-tests

  reported : reports ≡ true → has_market b region market ≡ true
  unfolding report_verdict
  reported h = (passes-not (has_market b region market) (refused 21) accepted refl h).0

  accepts : is_accepted (left_verdict b ring region market price) ≡ true → Accepts b ring region market
  accepts e =
      let p = passes-not (valid b) (refused 10) _ refl (ap is_accepted verdict-tests ∙ e) in
      let q = passes-not (eqb (length ring) size) (refused 11) _ refl p.1 in
      let r = passes-not reports (refused 21) _ refl q.1 in
      let s = passes-not (prices_ok b ring) (refused 22) _ refl r.1 in
      let has = reported r.0 in
      record {
        valid = p.0;
        ring-size = eqb-true (length ring) size q.0;
        in-regions = ltb-true region b.regions (and_left (ltb region b.regions) (leb market b.services) has);
        in-markets = leb-true market b.services (and_right (ltb region b.regions) (leb market b.services) has);
        prices = s.0;
      }

  -- ---- the outcome, of an answer that says the verdict
  module _ (a : Result Unit Refusal) (h : verdict a ≡ left_verdict b ring region market price) where
    pub left_is : a ≡ Ok tt → Accepts b ring region market
    left_is e = accepts (ap is_accepted (is-accepted a (left_verdict b ring region market price) h tt e))

    pub planned-refused : (r : Refusal) → a ≡ Err r
        → Left.outcome (record { book = b; answer = Err r }) ≡ intervals_left b ring region market price
    unfolding intervals_left
    planned-refused r e = let w = is-refused a (left_verdict b ring region market price) h r e in rw (w.1, w.0) refl

    pub planned-accepted : a ≡ Ok tt → (n : ℕ) → n ≡ market_left b ring region market price
        → Left.outcome (record { book = b; answer = Ok n }) ≡ intervals_left b ring region market price
    unfolding intervals_left
    planned-accepted e n q = rw (is-accepted a (left_verdict b ring region market price) h tt e, q) refl

-- ---- the window of a market that the book has, as the code reads it
module _ (b : Book) (ring : List ℤ) (region m : ℕ) (a : Accepts b ring region m) where
  abbrev q : ℕ
  q = region * markets_of b.services + m

  abbrev count : ℕ
  count = get_or b.counts region 0

  abbrev oldest : ℕ
  oldest = pick (ltb count b.window) 0 (get_or b.nexts region 0)

  ok : Valid b
  ok = valid-is b a.valid

  in_row : m < markets_of b.services
  in_row = omega (arith, a.in-markets)

  below : q < market_count b
  below = flat-lt region m b.regions (markets_of b.services) a.in-regions in_row

  here : Market b q
  here = market b a.valid q below

  -- the numbers that the code reads by are small
  pub small : (region < 8) × (place_of region m < 88) × (q < 88) × (q * b.window ≤ 177408) × (count ≤ 2016)
  small = (
    omega (arith, ok.regions, a.in-regions),
    place-below b ok region m a.in-regions a.in-markets,
    omega (arith, below, (sizes-small b ok).0),
    omega (arith, here.base, (sizes-small b ok).1),
    omega (arith, ok.count region a.in-regions, ok.window),
  )

  region-is : q / markets_of b.services ≡ region
  region-is = flat-div region m (markets_of b.services) in_row

  oldest-below : oldest < b.window
  oldest-below = go (ltb count b.window)
    where
      go : (t : Bool) → pick t 0 (get_or b.nexts region 0) < b.window
      go true = ok.some-window
      go false = ok.next region a.in-regions

  window-is : window_of ring (q * b.window) b.window oldest count ≡ window_in b ring region m
  window-is =
      ap (λ (r : ℕ). window_of ring (q * b.window) b.window (pick (ltb (get_or b.counts r 0) b.window) 0 (get_or b.nexts r 0)) (get_or b.counts r 0))
      (sym region-is)

  pub window-ok : (start : ℕ) → start ≡ oldest
      → WindowOk ring (q * b.window) b.window start count (get_or b.sums (place_of region m) (pos 0))
  window-ok start e = record {
    start = omega (arith, oldest-below);
    most = ok.count region a.in-regions;
    window = ok.window;
    within = omega (arith, here.base, a.ring-size);
    bound = sum-at b ok region m a.in-regions a.in-markets;
    added = (prices-is b ring a.prices).totals region m a.in-regions in_row
        ∙ ap total (sym window-is)
        ∙ ap (λ (s : ℕ). total (window_of ring (q * b.window) b.window s count)) (sym e);
  }

  pub number_is : (start n : ℕ) (price : ℤ) → start ≡ oldest
      → n ≡ least_above b.window (window_of ring (q * b.window) b.window start count) price b.threshold
      → n ≡ market_left b ring region m price
  number_is start n price e h =
      h ∙ ap (λ (s : ℕ). least_above b.window (window_of ring (q * b.window) b.window s count) price b.threshold) e
      ∙ ap (λ (l : List ℤ). least_above b.window l price b.threshold) window-is
