-- When two books, each with its ring, are the same. Assumes nothing.
use Rattle.std.specs.Prelude.{◌≡◌, true, List, ℕ, ◌<◌, ℤ, length}
use Rattle.book.specs.declared.record.Book.{Book}
use Rattle.book.specs.Record.{ring_size}
use Rattle.book.specs.Validity.{valid}
use Rattle.head.specs.Counted.{market_count, in_order}

-- "Two books are the same if they differ only in where a window starts in its ring and in places that hold no counted
-- price": every field but the next places, and the counted prices of every market, oldest first, are equal. Each ring has its
-- book's length, and rule 10 accepts both books: so a next place differs only where it is the start of a full window, for it is
-- the count while below W and 0 in an unused region
pub record Same (b : Book) (ring : List ℤ) (b' : Book) (ring' : List ℤ) : Type 0 where
  pub regions : b.regions ≡ b'.regions
  pub services : b.services ≡ b'.services
  pub window : b.window ≡ b'.window
  pub halves : b.halves ≡ b'.halves
  pub parents : b.parents ≡ b'.parents
  pub from : b.from ≡ b'.from
  pub to : b.to ≡ b'.to
  pub threshold : b.threshold ≡ b'.threshold
  pub cap : b.cap ≡ b'.cap
  pub floor : b.floor ≡ b'.floor
  pub entries : b.entries ≡ b'.entries
  pub position : b.position ≡ b'.position
  pub counts : b.counts ≡ b'.counts
  pub sums : b.sums ≡ b'.sums
  pub marks : b.marks ≡ b'.marks
  pub prices : (q : ℕ) → q < market_count b → in_order b ring q ≡ in_order b' ring' q
  pub ring-size : length ring ≡ ring_size b.regions b.services b.window
  pub ring-size' : length ring' ≡ ring_size b'.regions b'.services b'.window
  pub accepted : valid b ≡ true
  pub accepted' : valid b' ≡ true
