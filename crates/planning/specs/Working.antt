-- The way by which the code goes over a window: one price in and one out at each step. Assumes nothing.
use Rattle.std.specs.Prelude.{◌≡◌, true, List, ℕ, ◌+◌, ◌-◌, ◌≤◌, ◌<◌, ltb, ℤ, pos, nat_abs, length, get_or}
use Rattle.laws.specs.Base.{pick}
use Rattle.laws.specs.Lists.{total}
use Rattle.book.specs.declared.record.Book.{Book}
use Rattle.book.specs.Record.{ring_size}
use Rattle.book.specs.Validity.{valid}
use Rattle.head.specs.Counted.{wrap, window_of}
use Rattle.image.specs.Storing.{prices_ok}

-- the price that leaves a window of w places, c of them counted, the oldest at its place s, when one joins it after n others
abbrev pub leaving : List ℤ → ℕ → ℕ → ℕ → ℕ → ℕ → ℤ
leaving ring base w s c n = pick (ltb (c + n) w) (pos 0) (get_or ring (base + wrap w (s + (c + n - w))) (pos 0))

-- what the walk is given
pub record WindowOk (ring : List ℤ) (base w s c : ℕ) (sum : ℤ) : Type 0 where
  pub start : s < w
  pub most : c ≤ w
  pub window : w ≤ 2016
  pub within : base + w ≤ length ring
  pub bound : nat_abs sum ≤ 20160000000
  pub added : sum ≡ total (window_of ring base w s c)

-- what passes 10, 11, 21 and 22
pub record Accepts (b : Book) (ring : List ℤ) (region market : ℕ) : Type 0 where
  pub valid : valid b ≡ true
  pub ring-size : length ring ≡ ring_size b.regions b.services b.window
  pub in-regions : region < b.regions
  pub in-markets : market ≤ b.services
  pub prices : prices_ok b ring ≡ true
