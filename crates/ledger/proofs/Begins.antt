-- A book without entries and periods agrees with a ledger that begins with its settings: one that was just opened, and one that was loaded
-- from such an image. Assumes nothing.
use mathlib.Core.Path.{◌≡◌, refl, sym, ◌∙◌, subst}
use mathlib.Core.Bool.{Bool, true, false, ◌&&◌}
use mathlib.Core.List.{List, []}
use Prim.Native.Nat.{ℕ, ◌+◌, ◌-◌, ◌*◌, ◌/◌, ◌%◌, ◌<◌}
use native.Mathlib.Nat.{mod-eq_of_lt, add-zero}
use native.Mathlib.Omega.{arith}
use borrow.Author.Tests.{eq-eqb}
use lib.IntN.{ℤ, pos}
use lib.ListN.{length, replicate, get_or, length-replicate}
use lib.Seq.{drop-nil}
use Rattle.laws.specs.Base.{pick}
use Rattle.laws.specs.Lists.{run, last_n, any_below}
use Rattle.laws.proofs.Lists.{tabulate-same, tabulate-const, length_run, flat-div}
use Rattle.book.specs.declared.record.Book.{Book}
use Rattle.book.specs.declared.record.Settings.{Settings}
use Rattle.book.specs.Record.{markets_of, is_accepted}
use Rattle.book.specs.Validity.{used_place}
use Rattle.book.proofs.Validities.{Valid, valid-is, is-valid}
use Rattle.book_calls.specs.Opening as Opening
use Rattle.book_calls.specs.Opening.{open_verdict, fresh}
use Rattle.book_calls.proofs.Kept.{accepts, fresh-is, opened-is}
use Rattle.head.specs.Counted.{in_order}
use Rattle.head.specs.Layout.{book_of}
use Rattle.image.specs.Loading as Loading
use Rattle.image.specs.Loading.{loaded, book_from, ring_from}
use Rattle.image.proofs.Typed.{Typed}
use Rattle.image.proofs.RoundTrips.{loaded-is, loaded-valid, loaded-ring, loaded-prices, loaded-typed}
use Rattle.ledger.specs.Ledger.{entries_of, before, last_set, unmarked_prices, administered_at, marks_at, last_prices, begin}
use Rattle.ledger.specs.Demand.{Start, opens, loads, held, settings, settings_in, Blank, Begins}
use Rattle.ledger.proofs.Sounds.{market_at, Sized}
use Rattle.ledger.proofs.Keeping.{Kept, fresh_kept}
use Rattle.ledger.proofs.Agrees.{Agree}

-- ---- a ledger that begins
module _ (t : Settings) where
  no-prices : (r m : ℕ) → last_prices (begin t) r m 0 ≡ []
  unfolding entries_of unmarked_prices last_n
  no-prices r m = drop-nil (0 - t.window)

  none-administered : (k : ℕ) → ◌≡◌ {A = ℕ} (pick (used_place t.regions t.services k && administered_at (begin t) (k / 11) (k % 11) 0) 1 0) 0
  unfolding administered_at any_below
  none-administered k = go (used_place t.regions t.services k)
    where
      go : (u : Bool) → ◌≡◌ {A = ℕ} (pick (u && false) 1 0) 0
      go true = refl
      go false = refl

  no-marks : replicate 88 0 ≡ marks_at (begin t) 0
  no-marks = sym (tabulate-same 88 _ (λ _. 0) (λ k h. none-administered k) ∙ tabulate-const 0 88)

-- entry 0 is at the first position
first-at : (first day : ℕ) → first < day → first ≡ (first + 0) % day
first-at first day h = rw (add-zero first) (sym (mod-eq_of_lt h))

-- ---- any book that rule 10 accepts, without entries and periods
module _ (b : Book) (ring : List ℤ) (k : Kept b ring) (sized : Sized b) (eight : length b.parents ≡ 8) (blank : Blank b) where
  f : Valid b
  f = valid-is b k.accepted

  none-counted : (r : ℕ) → r < b.regions → get_or b.counts r 0 ≡ 0
  none-counted r h = omega (arith, f.taken r h, blank.entries)

  no-order : (r m : ℕ) → r < b.regions → m < markets_of b.services → in_order b ring (market_at b r m) ≡ []
  unfolding run
  no-order r m h l = rw (flat-div r m (markets_of b.services) l, none-counted r h)

  blank-begins : Agree (record { book = b; ring = ring }) (begin (settings_in b))
  unfolding entries_of before last_set
  blank-begins =
      let none : b.marks ≡ replicate 88 0 = blank.marks in
      record {
        holds = k;
        sized = sized;
        eight = eight;
        regions = refl;
        services = refl;
        window = refl;
        halves = refl;
        parents = refl;
        from = refl;
        to = refl;
        entries = blank.entries;
        position = first-at b.position (6 * b.halves) f.position;
        threshold = refl;
        cap = refl;
        floor = refl;
        windows = λ r m h l. no-order r m h l ∙ sym (no-prices (settings_in b) r m);
        marks = none ∙ no-marks (settings_in b);
      }

-- ---- one that was just opened
begins : (t : Settings) (n : ℕ) → is_accepted (open_verdict t n) ≡ true → length t.parents ≡ 8
    → Agree (record { book = fresh t; ring = replicate n (pos 0) }) (begin t)
begins t n ok eight =
    blank-begins (fresh t) (replicate n (pos 0))
    (fresh_kept t (replicate n (pos 0)) (is-valid (fresh t) (fresh-is t n ok)) (length-replicate n (pos 0) ∙ (accepts t n ok).1))
    (record { counts = refl; nexts = refl; sums = refl; marks = refl }) eight (record { entries = refl; marks = refl })

-- ---- one that was loaded
nexts-length : (vs : List ℕ) (from to : ℕ) (s : List ℤ) → length (book_of vs from to s).nexts ≡ 8
unfolding book_of
nexts-length vs from to s = length_run _ 8 0

from-length : (bytes : List ℕ) → length (book_from bytes).nexts ≡ 8
unfolding book_from
from-length bytes = nexts-length _ _ _ _

image-begins : (bytes : List ℕ) (ring : List ℤ) → is_accepted (loaded bytes ring).verdict ≡ true → Blank (loaded bytes ring).book
    → Agree (held (loads bytes ring)) (begin (settings (loads bytes ring)))
image-begins bytes ring ok blank =
    let e = loaded-is bytes ring ok in
    let t : Typed (book_from bytes) = loaded-typed bytes ring ok in
    let z : Blank (book_from bytes) = subst (λ (o : Loading.Outcome). Blank o.book) e blank in
    rw e (blank-begins (book_from bytes) (ring_from bytes)
    (record { accepted = loaded-valid bytes ring ok; ring-size = loaded-ring bytes ring ok; prices = loaded-prices bytes ring ok })
    (record { counts = t.counts; nexts = from-length bytes; sums = t.sums; marks = t.marks }) t.parents z)

-- ---- any start with which P's list may begin
pub start-agrees : (s : Start) → Begins s → Agree (held s) (begin (settings s))
start-agrees (opens t ring) w =
    let o = opened-is t ring (eq-eqb (Opening.opened t ring).verdict.number 0 w.accepted) in
    rw (o.1, o.2) (begins t (length ring) o.0 w.fit)
start-agrees (loads bytes ring) w = image-begins bytes ring (eq-eqb (loaded bytes ring).verdict.number 0 w.accepted) w.fit
