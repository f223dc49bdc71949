-- What is shown of passed-on limits (request 2026-04), in words: take any book and any entry that it accepts, any region, and cap limits or floor
-- limits. If a limit binds the region's energy at this interval, then it is what some route brings, in whole cents: a route that visits no
-- region twice, over links with power, from a region whose administered energy is at the cap or at the floor. It is less than 0.51 cent from the
-- exact quotient or product along this route, and no such route brings a tighter one. If no limit binds, no route brings one.
-- Proved in proofs/Theorem. Assumes nothing.
use Rattle.std.specs.Prelude.{◌≡◌, Bool, true, List, ℕ, ◌<◌, ℤ, length, Some, None}
use Rattle.book.specs.declared.record.Book.{Book}
use Rattle.book.specs.Record.{is_accepted}
use Rattle.publishing.specs.Entry.{Entry}
use Rattle.publishing.specs.Bounds.{limit}
use Rattle.entries.specs.Entering.{terms_of, enter_verdict}
use Rattle.closeness.specs.Coming.{Brings, PassedOn}

-- of one region of a book at an entry, at whose publishing the limits are `limit caps (terms_of b) b.marks e`
pub record Shown (caps : Bool) (b : Book) (e : Entry) (region : ℕ) : Type 0 where
  pub bound : (q : ℤ) → limit caps (terms_of b) b.marks e region ≡ Some q → PassedOn caps (terms_of b) b.marks e region q
  pub unbound : limit caps (terms_of b) b.marks e region ≡ None → (route : List ℕ) → Brings caps (terms_of b) b.marks e region route → ⊥

-- of every entry that a book accepts, lent a ring and a table of these lengths. A book has eight parents, as its type says
abbrev pub Promise : Type 0
Promise =
    (b : Book) (ring number : ℕ) (e : Entry) (table : ℕ) → length b.parents ≡ 8 → is_accepted (enter_verdict b ring number e table) ≡ true
    → (caps : Bool) (region : ℕ) → region < b.regions → Shown caps b e region
