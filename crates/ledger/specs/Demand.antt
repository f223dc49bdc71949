-- DEMAND 3, the one theorem over whole lists of calls: read this file first. `proofs/Theorem` proves `Demand3`. Assumes nothing.
--
-- In words: open a book with any settings, the additional link among them, over any ring, or load an image of either kind of a book without
-- entries and with no period marked into any ring. If that call is accepted, then for every list L of calls (entries, threshold and limit
-- settings, reports and restarts by either kind of image, with any arguments, refused ones too) the answers of the book, each call on the
-- book and ring that the one before left, are exactly the answers of the ledger machine P, which keeps the whole history and no sum:
-- acceptance, or the refusal with its place; an entry's count and published table; a report's four numbers. P begins with the settings of
-- the opening, or with those of the image in their place. After L a report of every region and market is P's. And a market's period mark
-- is 1 exactly when some accepted entry triggered it and none from that one on released it.
--
-- An opening takes a threshold in whole hundreds of dollars alone (44), a load any in range: so a book may begin with one that no opening
-- and no setting takes, as document 01's worked books do, and it stays until the next setting (request 2026-06).
use Rattle.std.specs.Prelude.{◌≡◌, List, ℕ, ◌≤◌, ◌<◌, ℤ, length, get_or, replicate}
use Rattle.laws.specs.Lists.{tabulate}
use Rattle.pricing.specs.Verdict.{Verdict}
use Rattle.book.specs.declared.record.Book.{Book}
use Rattle.book.specs.declared.record.Settings.{Settings}
use Rattle.book.specs.Record.{place_of}
use Rattle.book_calls.specs.Opening as Opening
use Rattle.book_calls.specs.Report as Report
use Rattle.image.specs.Loading as Loading
use Rattle.ledger.specs.Calls.{Call, answers, after}
use Rattle.ledger.specs.Ledger as Ledger
use Rattle.ledger.specs.Book as Book

-- ---- how a list of calls begins
-- with an opening of these settings over a ring, or with a load of these bytes into a ring
pub data Start : Type 0 where
  opens : Settings → List ℤ → Start
  loads : List ℕ → List ℤ → Start

-- what the book answers to it, and the book that it hands back with its ring: the very definitions that the contracts cite
abbrev pub verdict : Start → Verdict
verdict (opens s ring) = (Opening.opened s ring).verdict
verdict (loads image ring) = (Loading.loaded image ring).verdict

abbrev pub held : Start → Book.Held
held (opens s ring) = record { book = (Opening.opened s ring).book; ring = (Opening.opened s ring).ring }
held (loads image ring) = record { book = (Loading.loaded image ring).book; ring = (Loading.loaded image ring).ring }

-- the settings of a book that an image had: "its settings standing for the opening's", the next entry's position for the first
abbrev pub settings_in : Book → Settings
settings_in b = record {
  regions = b.regions;
  services = b.services;
  window = b.window;
  halves = b.halves;
  first = b.position;
  parents = b.parents;
  from = b.from;
  to = b.to;
  threshold = b.threshold;
  cap = b.cap;
  floor = b.floor;
}

-- what P begins with
abbrev pub settings : Start → Settings
settings (opens s ring) = s
settings (loads image ring) = settings_in (Loading.loaded image ring).book

-- "a book without entries and with no period marked"
pub record Blank (b : Book) : Type 0 where
  pub entries : b.entries ≡ 0
  pub marks : b.marks ≡ replicate 88 0

-- of an image it is asked that its book is one; of an opening nothing but its "eight parent bytes", which is what the type of the
-- settings says
abbrev pub Fit : Start → Type 0
Fit (opens s ring) = length s.parents ≡ 8
Fit (loads image ring) = Blank (Loading.loaded image ring).book

-- a start with which P's list "may begin"
pub record Begins (start : Start) : Type 0 where
  pub accepted : (verdict start).number ≡ 0
  pub fit : Fit start

-- the settings of an opening one by one, the eight parent bytes by a function
abbrev pub settings_of : ℕ → ℕ → ℕ → ℕ → ℕ → (ℕ → ℕ) → ℕ → ℕ → ℤ → ℤ → ℤ → Settings
settings_of regions services window halves first parents from to threshold cap floor = record {
  regions = regions;
  services = services;
  window = window;
  halves = halves;
  first = first;
  parents = tabulate 8 parents;
  from = from;
  to = to;
  threshold = threshold;
  cap = cap;
  floor = floor;
}

-- ---- the theorem
-- what is claimed of a book with its ring and of a ledger, for the list L
pub record AnswersAlike (b : Book.Held) (p : Ledger.Ledger) (L : List Call) : Type 0 where
  -- every answer of L
  pub during : answers Book.play b L ≡ answers Ledger.play p L
  -- after L, a report of each region and market
  pub reports : (region market : ℕ) → Report.report_of (after Book.play b L).book region market ≡ Ledger.report_of (after Ledger.play p L) region market
  -- after L, a market's mark, in logical form
  pub administered : (region market : ℕ) → region < p.settings.regions → market ≤ p.settings.services
      → get_or (after Book.play b L).book.marks (place_of region market) 0 ≡ 1
      → Ledger.Administered (after Ledger.play p L) region market (Ledger.taken (after Ledger.play p L))
  pub marked : (region market : ℕ) → region < p.settings.regions → market ≤ p.settings.services
      → Ledger.Administered (after Ledger.play p L) region market (Ledger.taken (after Ledger.play p L))
      → get_or (after Book.play b L).book.marks (place_of region market) 0 ≡ 1

-- from every such start and for every list
unfoldable pub Demand3 : Type 0
Demand3 = (start : Start) (L : List Call) → Begins start → AnswersAlike (held start) (Ledger.begin (settings start)) L
