-- Same books: an equivalence, with the same reports and the same images. Assumes nothing.
use mathlib.Core.Path.{◌≡◌, refl, sym, ap, ap₂, ◌∙◌, subst}
use mathlib.Core.Bool.{Bool, true, false}
use mathlib.Core.List.{List, [], ◌++◌}
use Prim.Native.Nat.{ℕ, ◌*◌, ◌<◌}
use native.Mathlib.Omega.{arith}
use lib.IntN.{ℤ}
use lib.ListN.{length, drop}
use Rattle.laws.specs.Base.{pick}
use Rattle.laws.specs.Lists.{total}
use Rattle.laws.specs.Bytes.{encode, words}
use Rattle.laws.proofs.Joined.{joined_same}
use Rattle.pricing.specs.Verdict.{Verdict, accepted}
use Rattle.book.specs.declared.record.Book.{Book}
use Rattle.book.specs.Record.{markets_of, ring_size, is_accepted}
use Rattle.book.specs.Validity.{valid}
use Rattle.book_calls.specs.Report.{report_of}
use Rattle.head.specs.Counted.{market_count, in_order}
use Rattle.head.specs.Layout.{widths, firsts, seconds, values, kind_of, length_of, tail_widths, tail, image_of}
use Rattle.image.specs.Storing.{prices_ok, kind_tells, store_verdict, stored, Outcome}
use Rattle.image.specs.Same.{Same}
use Rattle.image.proofs.Prices.{prices-ok, ok-prices}

-- ---- an equivalence
-- sameness is of books that rule 10 accepts with rings of their length, so reflexivity asks for both
pub same_refl : (b : Book) (ring : List ℤ) → valid b ≡ true
    → length ring ≡ ring_size b.regions b.services b.window → Same b ring b ring
same_refl b ring v n = record {
  regions = refl;
  services = refl;
  window = refl;
  halves = refl;
  parents = refl;
  from = refl;
  to = refl;
  threshold = refl;
  cap = refl;
  floor = refl;
  entries = refl;
  position = refl;
  counts = refl;
  sums = refl;
  marks = refl;
  prices = λ q h. refl;
  ring-size = n;
  ring-size' = n;
  accepted = v;
  accepted' = v;
}

module _ {a b : Book} {r s : List ℤ} (p : Same a r b s) where
  markets-same : market_count a ≡ market_count b
  markets-same = ap₂ (λ (x y : ℕ). x * markets_of y) p.regions p.services

  pub same-sym : Same b s a r
  same-sym = record {
    regions = sym p.regions;
    services = sym p.services;
    window = sym p.window;
    halves = sym p.halves;
    parents = sym p.parents;
    from = sym p.from;
    to = sym p.to;
    threshold = sym p.threshold;
    cap = sym p.cap;
    floor = sym p.floor;
    entries = sym p.entries;
    position = sym p.position;
    counts = sym p.counts;
    sums = sym p.sums;
    marks = sym p.marks;
    prices = λ q h. sym (p.prices q (omega (arith, markets-same)));
    ring-size = p.ring-size';
    ring-size' = p.ring-size;
    accepted = p.accepted';
    accepted' = p.accepted;
  }

  pub same-trans : {c : Book} {t : List ℤ} → Same b s c t → Same a r c t
  same-trans k = record {
    regions = p.regions ∙ k.regions;
    services = p.services ∙ k.services;
    window = p.window ∙ k.window;
    halves = p.halves ∙ k.halves;
    parents = p.parents ∙ k.parents;
    from = p.from ∙ k.from;
    to = p.to ∙ k.to;
    threshold = p.threshold ∙ k.threshold;
    cap = p.cap ∙ k.cap;
    floor = p.floor ∙ k.floor;
    entries = p.entries ∙ k.entries;
    position = p.position ∙ k.position;
    counts = p.counts ∙ k.counts;
    sums = p.sums ∙ k.sums;
    marks = p.marks ∙ k.marks;
    prices = λ q h. p.prices q h ∙ k.prices q (omega (arith, markets-same));
    ring-size = p.ring-size;
    ring-size' = k.ring-size';
    accepted = p.accepted;
    accepted' = k.accepted';
  }

-- ---- the same book but for its next places
abbrev pub with_nexts : Book → List ℕ → Book
with_nexts b nexts = record {
  regions = b.regions;
  services = b.services;
  window = b.window;
  halves = b.halves;
  parents = b.parents;
  from = b.from;
  to = b.to;
  threshold = b.threshold;
  cap = b.cap;
  floor = b.floor;
  entries = b.entries;
  position = b.position;
  counts = b.counts;
  nexts = nexts;
  sums = b.sums;
  marks = b.marks;
}

pub same-book : {a b : Book} {r s : List ℤ} → Same a r b s → with_nexts a b.nexts ≡ b
same-book {a} {b} p =
    rw (p.regions, p.services, p.window, p.halves, p.parents, p.from, p.to, p.threshold, p.cap, p.floor, p.entries, p.position, p.counts, p.sums, p.marks)

-- ---- reports
nexts-report : (b : Book) (nexts : List ℕ) → valid b ≡ true → valid (with_nexts b nexts) ≡ true → (region market : ℕ) → report_of b region market ≡ report_of (with_nexts b nexts) region market
unfolding report_of
nexts-report b nexts v w region market = rw (v, w)

pub same-report : {a b : Book} {r s : List ℤ} → Same a r b s → valid a ≡ true → valid b ≡ true → (region market : ℕ) → report_of a region market ≡ report_of b region market
same-report {a} {b} p v w region market =
    nexts-report a b.nexts v (rw (same-book p) w) region market ∙ ap (λ (c : Book). report_of c region market) (same-book p)

-- ---- images
-- two tests of which each follows from the other
both_ways : (t u : Bool) → (t ≡ true → u ≡ true) → (u ≡ true → t ≡ true) → t ≡ u
both_ways true u f g = sym (f refl)
both_ways false true f g = g refl
both_ways false false f g = refl

-- what a store comes to, for the book that it hands back
abbrev outcome_of : Bool → Verdict → ℕ → List ℕ → List ℕ → Book → Outcome
outcome_of t v n image buffer b =
    pick t (record { verdict = accepted; length = n; book = b; buffer = image }) (record { verdict = v; length = 0; book = b; buffer = buffer })

handed-back : (t : Bool) (v : Verdict) (n : ℕ) (image buffer : List ℕ) (b c : Book)
    → outcome_of t v n image buffer c
    ≡ record { verdict = (outcome_of t v n image buffer b).verdict; length = (outcome_of t v n image buffer b).length; book = c; buffer = (outcome_of t v n image buffer b).buffer }
handed-back true v n image buffer b c = refl
handed-back false v n image buffer b c = refl

-- of a book with two next places each, and two rings, from which the same prices are read
module _ (second : Bool) (b : Book) (nexts : List ℕ) (r s : List ℤ) (prices : (q : ℕ) → q < market_count b → in_order b r q ≡ in_order (with_nexts b nexts) s q) where
  nexts-prices : prices_ok b r ≡ prices_ok (with_nexts b nexts) s
  nexts-prices =
      both_ways (prices_ok b r) (prices_ok (with_nexts b nexts) s)
      (λ e. ok-prices (with_nexts b nexts) s (λ q h. let m = prices-ok b r e q h in record {
        ranged = λ i k. rw (← prices q h) (m.ranged i k);
        summed = ap total (sym (prices q h)) ∙ m.summed;
      }))
      (λ e. ok-prices b r (λ q h. let m = prices-ok (with_nexts b nexts) s e q h in record {
        ranged = λ i k. rw (prices q h) (m.ranged i k);
        summed = ap total (prices q h) ∙ m.summed;
      }))

  -- the ends are no next places
  nexts-tail : tail b ≡ tail (with_nexts b nexts)
  unfolding tail
  nexts-tail = refl

  nexts-tells : kind_tells second b ≡ kind_tells second (with_nexts b nexts)
  nexts-tells = refl

  nexts-image : image_of second b r ≡ image_of second (with_nexts b nexts) s
  unfolding image_of values firsts seconds
  nexts-image =
      ap₂ (λ (vs : List ℕ) (zs : List ℤ). encode widths (values (length_of second b) (kind_of second) b) ++ (pick second (encode tail_widths vs) [] ++ words zs)) nexts-tail
      (joined_same _ _ (market_count b) 0 (λ q x y. prices q (omega arith)))

  nexts-verdict : valid b ≡ true → valid (with_nexts b nexts) ≡ true → length r ≡ length s → (room : ℕ) → store_verdict second b r room ≡ store_verdict second (with_nexts b nexts) s room
  unfolding store_verdict
  nexts-verdict v w e room = rw (v, w, e, nexts-prices, nexts-tells)

  nexts-stored : valid b ≡ true → valid (with_nexts b nexts) ≡ true → length r ≡ length s → (buffer : List ℕ)
      → stored second (with_nexts b nexts) s buffer
      ≡ record { verdict = (stored second b r buffer).verdict; length = (stored second b r buffer).length; book = with_nexts b nexts; buffer = (stored second b r buffer).buffer }
  unfolding stored
  nexts-stored v w e buffer =
      let t = store_verdict second b r (length buffer) in
      let n = length_of second b in
      rw (← nexts-verdict v w e (length buffer))
      (ap (λ (image : List ℕ). outcome_of (is_accepted t) t n (image ++ drop n buffer) buffer (with_nexts b nexts)) (sym nexts-image)
      ∙ handed-back (is_accepted t) t n (image_of second b r ++ drop n buffer) buffer b (with_nexts b nexts))

pub same-stored : (second : Bool) {a b : Book} {r s : List ℤ} → Same a r b s → valid a ≡ true → valid b ≡ true
    → length r ≡ ring_size a.regions a.services a.window → length s ≡ ring_size b.regions b.services b.window → (buffer : List ℕ)
    → stored second b s buffer ≡ record { verdict = (stored second a r buffer).verdict; length = (stored second a r buffer).length; book = b; buffer = (stored second a r buffer).buffer }
same-stored second {a} {b} {r} {s} p v w x y buffer =
    let sizes : ring_size a.regions a.services a.window ≡ ring_size b.regions b.services b.window = rw (p.regions, p.services, p.window) in
    let prices : (q : ℕ) → q < market_count a → in_order a r q ≡ in_order (with_nexts a b.nexts) s q =
    subst (λ (c : Book). (q : ℕ) → q < market_count a → in_order a r q ≡ in_order c s q) (sym (same-book p)) p.prices in
    let e : stored second (with_nexts a b.nexts) s buffer ≡ record { verdict = (stored second a r buffer).verdict; length = (stored second a r buffer).length; book = with_nexts a b.nexts; buffer = (stored second a r buffer).buffer } = nexts-stored second a b.nexts r s prices v (rw (same-book p) w) (x ∙ sizes ∙ sym y) buffer in
    rw (same-book p) at e
