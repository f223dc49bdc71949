-- What is shown of every test load: an entry takes it (proofs/Passes). Assumes nothing.
use Rattle.std.specs.Prelude.{◌≡◌, true, List, ℕ, ◌*◌, ◌<◌, ◌≤◌, ℤ, length}
use Rattle.pricing.specs.Verdict.{accepted}
use Rattle.book.specs.declared.record.Book.{Book}
use Rattle.book.specs.Record.{markets_of, table_size, ring_size, link_count}
use Rattle.book.specs.Validity.{valid}
use Rattle.publishing.specs.Entry.{entry_of}
use Rattle.entries.specs.Checking.{first_mark, first_price, first_factor}
use Rattle.entries.specs.Entering.{enter_verdict}
use Rattle.interval_records.specs.Layout.{Interval}
use Rattle.synthetic.specs.Synthetic.{made}

-- none of an interval's marks (15), prices (16) and factors (17) is refused: the first that is bad is none of them
pub record Passes (b : Book) (v : Interval) : Type 0 where
  pub marks : first_mark b.regions v.marked ≡ b.regions
  pub prices : first_price b.regions (markets_of b.services) v.prices v.marked ≡ table_size b.regions b.services
  pub factors : first_factor (link_count b) b.regions b.parents v.factors ≡ link_count b

-- "For every seed and size this must pass an entry's checks on prices, marks and factors": for every book and every number s, so for
-- every seed of 32 bits
abbrev pub MadePasses : Type 0
MadePasses = (b : Book) (s number kind : ℕ) → Passes b (made b s number kind)

-- and an entry that is made of it is accepted whenever the rest of it is right: the book (10), the lengths of ring, schedule and table
-- (11), the entries taken (12), the number (13) and the day kind (14)
abbrev pub MadeEnters : Type 0
MadeEnters = (b : Book) (s number kind ring table : ℕ) (schedule : List ℤ)
    → valid b ≡ true
    → ring ≡ ring_size b.regions b.services b.window
    → length schedule ≡ table_size b.regions b.services * 2 * b.halves
    → table ≡ table_size b.regions b.services
    → b.entries < 10000000
    → number ≡ b.entries
    → kind ≤ 1
    → let v = made b s number kind in
    enter_verdict b ring v.number (entry_of v.kind v.prices v.marked v.flows v.factors schedule) table ≡ accepted
