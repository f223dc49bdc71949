-- Loading a book from an image, and the image check. Assumes nothing.
use Rattle.std.specs.Prelude.{Bool, not, ◌&&◌, ◌||◌, List, [], ◌++◌, ℕ, zero, suc, ◌+◌, ◌*◌, ◌/◌, ◌%◌, ltb, eqb, ℤ, pos, length, set, replicate}
use Rattle.laws.specs.Base.{pick}
use Rattle.laws.specs.Lists.{tabulate, first_below, total}
use Rattle.laws.specs.Bytes.{number_at, decode, price_at}
use Rattle.pricing.specs.Verdict.{Verdict, accepted, refused, refused_at}
use Rattle.pricing.specs.Holding.{is_energy, in_range}
use Rattle.book.specs.declared.record.Book.{Book}
use Rattle.book.specs.Record.{closed, markets_of, place_of, ring_size, verdict, is_accepted}
use Rattle.book.specs.Validity.{valid}
use Rattle.book.specs.declared.record.Reply.{Reply}
use Rattle.head.specs.Counted.{market_count, count_at, how_many}
use Rattle.head.specs.Layout.{widths, head_size, length_of, book_of, is_second, from_in, to_in, head_from}

-- "24 kind 2 under 156 bytes"
abbrev pub lacks_tail : List ℕ → Bool
lacks_tail bytes = ltb (length bytes) (head_size (is_second bytes))

-- 25: the kind is 1 or 2
abbrev pub kind_ok : List ℕ → Bool
kind_ok bytes = eqb (number_at bytes 4 2) 1 || is_second bytes

-- of kind 2 "two zeros, at 152 four bytes of 255"
abbrev pub tail_ok : List ℕ → Bool
tail_ok bytes = not (is_second bytes) || eqb (number_at bytes 150 2) 0 && eqb (number_at bytes 152 4) 4294967295

-- "a zero byte .. not zero": bytes 11, 26 and 27, and those of kind 2
abbrev pub zeros_ok : List ℕ → Bool
zeros_ok bytes = eqb (number_at bytes 11 1) 0 && eqb (number_at bytes 26 2) 0 && tail_ok bytes

-- 26: the fields and the zero bytes
abbrev pub fields_ok : List ℕ → Bool
fields_ok bytes = zeros_ok bytes && valid (head_from bytes)

-- "Load: 24 under 148 bytes or length field not the lent length; 25 kind; 26 a field in bytes 6 to 147 outside what Open or
-- 10 allows, or a zero byte, unused count or unused period not zero; 27 length formula". What 10 allows is rule 10 itself, of
-- the head read as a book whose windows start at their first places and whose sums are zero
unfoldable pub head_verdict : List ℕ → Verdict
head_verdict bytes =
    pick (ltb (length bytes) 148) (refused 24)
    (pick (not (eqb (number_at bytes 0 4) (length bytes))) (refused 24)
    (pick (lacks_tail bytes) (refused 24)
    (pick (not (kind_ok bytes)) (refused 25)
    (pick (not (fields_ok bytes)) (refused 26)
    (pick (not (eqb (length bytes) (length_of (is_second bytes) (head_from bytes)))) (refused 27)
    accepted)))))

-- of market q's prices, which start with price k of the image, the first that is out of range
module _ (b : Book) (bytes : List ℕ) (first : ℕ) where
  abbrev pub bad_in : ℕ → ℕ → ℕ
  bad_in q k = first_below (count_at b q) (λ i. not (in_range (is_energy (q % markets_of b.services)) (price_at bytes (first + 4 * k) i)))

  -- of n markets from q up, whose prices start with price k, the first price out of range, or how many there are
  unfoldable pub bad_from : ℕ → ℕ → ℕ → ℕ
  bad_from zero q k = k
  bad_from (suc n) q k = pick (ltb (bad_in q k) (count_at b q)) (k + bad_in q k) (bad_from n (suc q) (k + count_at b q))

-- "16, place counted from 0 among the image's prices"
abbrev pub first_bad : List ℕ → ℕ
first_bad bytes = bad_from (head_from bytes) bytes (head_size (is_second bytes)) (market_count (head_from bytes)) 0 0

abbrev pub ring_of : Book → ℕ
ring_of b = ring_size b.regions b.services b.window

-- ".. 27 length formula; 11; 16, .."
unfoldable pub load_verdict : List ℕ → ℕ → Verdict
load_verdict bytes ring =
    pick (not (is_accepted (head_verdict bytes))) (head_verdict bytes)
    (pick (not (eqb ring (ring_of (head_from bytes)))) (refused 11)
    (pick (ltb (first_bad bytes) (how_many (head_from bytes))) (refused_at 16 (first_bad bytes))
    accepted))

-- "an image check ..: 0 or the load's number, 11 left out": the load's number with a ring of the right length
unfoldable pub checked : List ℕ → ℕ
checked bytes = (load_verdict bytes (ring_of (head_from bytes))).number

-- "Loading puts the oldest at the window's first place, zeroes the others": a window of w places with n prices from a place
abbrev pub loaded_window : List ℕ → ℕ → ℕ → ℕ → List ℤ
loaded_window bytes w n from = tabulate w (λ i. pick (ltb i n) (price_at bytes from i) (pos 0))

module _ (b : Book) (bytes : List ℕ) where
  -- the windows of n markets from q up, whose prices start at a place
  unfoldable pub windows_from : ℕ → ℕ → ℕ → List ℤ
  windows_from zero q from = []
  windows_from (suc n) q from = loaded_window bytes b.window (count_at b q) from ++ windows_from n (suc q) (from + 4 * count_at b q)

  -- ".. and adds the sums up anew"
  unfoldable pub sums_from : ℕ → ℕ → ℕ → List ℤ → List ℤ
  sums_from zero q from sums = sums
  sums_from (suc n) q from sums =
      sums_from n (suc q) (from + 4 * count_at b q)
      (set sums (place_of (q / markets_of b.services) (q % markets_of b.services)) (total (tabulate (count_at b q) (price_at bytes from))))

unfoldable pub book_from : List ℕ → Book
book_from bytes =
    book_of (decode widths bytes) (from_in bytes) (to_in bytes)
    (sums_from (head_from bytes) bytes (market_count (head_from bytes)) 0 (head_size (is_second bytes)) (replicate 88 (pos 0)))

unfoldable pub ring_from : List ℕ → List ℤ
ring_from bytes = windows_from (head_from bytes) bytes (market_count (head_from bytes)) 0 (head_size (is_second bytes))

pub record Outcome : Type 0 where
  pub verdict : Verdict
  pub book : Book
  pub ring : List ℤ

abbrev pub outcome : Reply Unit → List ℤ → Outcome
outcome r ring = record { verdict = verdict r.answer; book = r.book; ring = ring }

-- refused: "the closed book" and the ring as it was
unfoldable pub loaded : List ℕ → List ℤ → Outcome
loaded bytes ring =
    pick (is_accepted (load_verdict bytes (length ring)))
    (record { verdict = accepted; book = book_from bytes; ring = ring_from bytes })
    (record { verdict = load_verdict bytes (length ring); book = closed; ring = ring })
