-- A book and a ring that fit each other: what steps 5 and 6 lean on, part of what rule 10 asks. Assumes nothing.
use mathlib.Core.Path.{◌≡◌}
use mathlib.Core.Bool.{true}
use mathlib.Core.List.{List}
use mathlib.Core.Logic.{⊎_elim}
use Prim.Native.Nat.{ℕ, ◌+◌, ◌*◌, ◌≤◌, ◌<◌}
use native.Mathlib.Omega.{arith}
use lib.IntN.{ℤ}
use lib.ListN.{length, get_or}
use Rattle.book.specs.declared.record.Book.{Book}
use Rattle.book.specs.Record.{markets_of, ring_size}
use Rattle.book.specs.Validity.{valid}
use Rattle.book.proofs.Validities.{Valid, valid-is}
use Rattle.ledger.proofs.Turning.{Placed}

-- "a market's window starts at (region × M + market) × W": the number of the market
abbrev pub market_at : Book → ℕ → ℕ → ℕ
market_at b r m = r * markets_of b.services + m

pub record Sound (b : Book) (ring : List ℤ) : Type 0 where
  pub regions : b.regions ≤ 8
  pub services : b.services ≤ 10
  pub some : 1 ≤ b.window
  pub window : b.window ≤ 2016
  pub ring-size : length ring ≡ ring_size b.regions b.services b.window
  -- a region's count and next place
  pub count : (r : ℕ) → r < b.regions → get_or b.counts r 0 ≤ b.window
  pub next : (r : ℕ) → r < b.regions → get_or b.nexts r 0 < b.window
  pub early : (r : ℕ) → r < b.regions → get_or b.counts r 0 < b.window → get_or b.nexts r 0 ≡ get_or b.counts r 0

-- the arrays of the record as lists
pub record Sized (b : Book) : Type 0 where
  pub counts : length b.counts ≡ 8
  pub nexts : length b.nexts ≡ 8
  pub sums : length b.sums ≡ 88
  pub marks : length b.marks ≡ 88

-- rule 10 and the ring's length are enough
pub valid-sound : (b : Book) (ring : List ℤ) → valid b ≡ true → length ring ≡ ring_size b.regions b.services b.window → Sound b ring
valid-sound b ring ok e =
    let f : Valid b = valid-is b ok in
    record {
      regions = f.regions;
      services = f.services;
      some = f.some-window;
      window = f.window;
      ring-size = e;
      count = f.count;
      next = f.next;
      early = λ r h l. ⊎_elim (λ q. absurd (omega arith)) (λ q. q) (f.next-is r h);
    }

pub placed_at : (b : Book) (ring : List ℤ) → Sound b ring → (r : ℕ) → r < b.regions → Placed b.window (get_or b.counts r 0) (get_or b.nexts r 0)
placed_at b ring s r h = record { some = s.some; most = s.count r h; below = s.next r h; early = s.early r h }
