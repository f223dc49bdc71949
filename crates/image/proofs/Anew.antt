-- A book as loading leaves it, every window with its oldest price first: rule 10 accepts it where its sums are within their
-- limits, and its prices are read off from the windows' first places. Assumes nothing.
use mathlib.Core.Path.{◌≡◌, refl}
use mathlib.Core.Bool.{Bool, true, false}
use mathlib.Core.List.{List}
use mathlib.Core.Logic.{◌⊎◌, inl, inr}
use Prim.Native.Nat.{ℕ, ◌/◌, ◌%◌, ◌≤◌, ◌<◌}
use native.Mathlib.Omega.{arith}
use borrow.Author.Tests.{ltb-true, ltb-false}
use lib.Dec.{ltb}
use lib.IntN.{ℤ, pos, nat_abs}
use lib.ListN.{length, get_or}
use Rattle.laws.specs.Base.{pick}
use Rattle.laws.proofs.Lists.{get_or-tabulate}
use Rattle.book.specs.declared.record.Book.{Book}
use Rattle.book.specs.Record.{markets_of}
use Rattle.book.proofs.Validities.{Valid}
use Rattle.head.specs.Counted.{market_count, count_at, oldest_at, in_order}
use Rattle.head.specs.Layout.{next_of}
use Rattle.image.proofs.Markets.{region-of, count_of}
use Rattle.image.proofs.Books.{anew_with}
use Rattle.image.proofs.Prices.{laid, laid-order}

-- ---- the next place of a window whose oldest price is first
next-below : (w c : ℕ) → 0 < w → next_of w c < w
next-below w c h = by (ltb c w) refl
  where
    by : (t : Bool) → ltb c w ≡ t → pick t c 0 < w
    by true e = ltb-true c w e
    by false e = h

next-count : (w c : ℕ) → c ≤ w → (c ≡ w) ⊎ (next_of w c ≡ c)
next-count w c h = by (ltb c w) refl
  where
    by : (t : Bool) → ltb c w ≡ t → (c ≡ w) ⊎ (pick t c 0 ≡ c)
    by true e = inr refl
    by false e = inl (omega (arith, ltb-false c w e))

next-none : (w : ℕ) → next_of w 0 ≡ 0
next-none w = by (ltb 0 w)
  where
    by : (t : Bool) → ◌≡◌ {A = ℕ} (pick t 0 0) 0
    by true = refl
    by false = refl

-- where the count fills the window the oldest is at the next place, the first
oldest-first : (t : Bool) (c : ℕ) → pick t 0 (pick t c 0) ≡ 0
oldest-first true c = refl
oldest-first false c = refl

module _ (b : Book) (v : Valid b) (s : List ℤ) where
  next-at : (r : ℕ) → r < 8 → get_or (anew_with b s).nexts r 0 ≡ next_of b.window (get_or b.counts r 0)
  next-at r h = get_or-tabulate (λ i. next_of b.window (get_or b.counts i 0)) 8 r 0 h

  pub oldest-anew : (q : ℕ) → q < market_count b → oldest_at (anew_with b s) q ≡ 0
  oldest-anew q h =
      rw (next-at (q / markets_of b.services) (omega (arith, region-of b v q h, v.regions))) (oldest-first (ltb (count_at b q) b.window) (count_at b q))

  pub order-anew : (f : ℕ → List ℤ) → ((q : ℕ) → q < market_count b → length (f q) ≡ count_at b q) → (q : ℕ) → q < market_count b → in_order (anew_with b s) (laid b f) q ≡ f q
  order-anew f len q h = laid-order (anew_with b s) f len (count_of b v) oldest-anew q h

  pub valid-anew : ((k : ℕ) → k < 88 → k / 11 < b.regions → k % 11 ≤ b.services → nat_abs (get_or s k (pos 0)) ≤ 20160000000)
      → ((k : ℕ) → k < 88 → (b.regions ≤ k / 11) ⊎ (b.services < k % 11) → get_or s k (pos 0) ≡ pos 0) → Valid (anew_with b s)
  valid-anew used unused = record {
    some-regions = v.some-regions;
    regions = v.regions;
    services = v.services;
    some-window = v.some-window;
    window = v.window;
    some-halves = v.some-halves;
    halves = v.halves;
    position = v.position;
    parent = v.parent;
    ends = v.ends;
    threshold = v.threshold;
    limits = v.limits;
    entries = v.entries;
    count = v.count;
    taken = v.taken;
    next = λ r h. rw (next-at r (omega (arith, v.regions))) (next-below b.window (get_or b.counts r 0) v.some-window);
    next-is = λ r h. rw (next-at r (omega (arith, v.regions))) (next-count b.window (get_or b.counts r 0) (v.count r h));
    no-count = v.no-count;
    no-next = λ r h k. rw (next-at r k, v.no-count r h k) (next-none b.window);
    sum = used;
    mark = v.mark;
    no-sum = unused;
    no-mark = v.no-mark;
  }
