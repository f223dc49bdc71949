-- Storing a book as an image. Assumes nothing.
use Rattle.std.specs.Prelude.{Result, Ok, Err, Bool, not, ◌&&◌, ◌||◌, List, ◌++◌, ℕ, ◌+◌, ◌*◌, ◌/◌, ◌%◌, ltb, eqb, ℤ, pos, length, get_or, drop}
use Rattle.std.specs.Int.Signed.{le_z}
use Rattle.laws.specs.Base.{pick}
use Rattle.laws.specs.Lists.{all_below, total}
use Rattle.pricing.specs.Verdict.{Verdict, accepted, refused}
use Rattle.pricing.specs.Holding.{is_energy, in_range}
use Rattle.book.specs.declared.record.Book.{Book}
use Rattle.book.specs.Record.{markets_of, place_of, ring_size, has_link, verdict, is_accepted}
use Rattle.book.specs.Validity.{valid}
use Rattle.book.specs.declared.record.Reply.{Reply}
use Rattle.book.specs.declared.record.Refusal.{Refusal}
use Rattle.head.specs.Counted.{wrap, window_of, count_at, oldest_at, market_count}
use Rattle.head.specs.Layout.{length_of, image_of}

-- the counted prices of a window are in their market's range, and `sum` is their total
abbrev pub window_ok : List ℤ → ℕ → ℕ → ℕ → ℕ → ℕ → ℤ → Bool
window_ok ring base w s n market sum =
    all_below n (λ i. in_range (is_energy market) (get_or ring (base + wrap w (s + i)) (pos 0)))
    && (le_z (total (window_of ring base w s n)) sum && le_z sum (total (window_of ring base w s n)))

abbrev pub market_ok : Book → List ℤ → ℕ → Bool
market_ok b ring q =
    window_ok ring (q * b.window) b.window (oldest_at b q) (count_at b q) (q % markets_of b.services)
    (get_or b.sums (place_of (q / markets_of b.services) (q % markets_of b.services)) (pos 0))

-- 22: "a counted price out of range or a total that isn't its sum"
abbrev pub prices_ok : Book → List ℤ → Bool
prices_ok b ring = all_below (market_count b) (market_ok b ring)

-- "47: storing as kind 1 a book with the link; after 22". `second` tells kind 2 (true) from kind 1 (false)
abbrev pub kind_tells : Bool → Book → Bool
kind_tells second b = second || not (has_link b)

-- "Store: 10; 11; 22 ..; 23 buffer shorter than the image"
unfoldable pub store_verdict : Bool → Book → List ℤ → ℕ → Verdict
store_verdict second b ring room =
    pick (not (valid b)) (refused 10)
    (pick (not (eqb (length ring) (ring_size b.regions b.services b.window))) (refused 11)
    (pick (not (prices_ok b ring)) (refused 22)
    (pick (not (kind_tells second b)) (refused 47)
    (pick (ltb room (length_of second b)) (refused 23)
    accepted))))

pub record Outcome : Type 0 where
  pub verdict : Verdict
  pub length : ℕ
  pub book : Book
  pub buffer : List ℕ

-- the paper's value for each case: the image's length, or zero beside a refusal
abbrev pub length_in : Result ℕ Refusal → ℕ
length_in (Ok n) = n
length_in (Err r) = 0

abbrev pub outcome : Reply ℕ → List ℕ → Outcome
outcome s buffer = record { verdict = verdict s.answer; length = length_in s.answer; book = s.book; buffer = buffer }

-- accepted: the image as the first bytes of the buffer, "Bytes after the image stay"; refused: nothing is written
unfoldable pub stored : Bool → Book → List ℤ → List ℕ → Outcome
stored second b ring buffer =
    pick (is_accepted (store_verdict second b ring (length buffer)))
    (record {
      verdict = accepted;
      length = length_of second b;
      book = b;
      buffer = image_of second b ring ++ drop (length_of second b) buffer;
    })
    (record { verdict = store_verdict second b ring (length buffer); length = 0; book = b; buffer = buffer })
