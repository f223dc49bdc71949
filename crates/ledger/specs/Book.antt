-- The book as a machine over lists of calls: each call by the very definition that its function's contract cites, on the book
-- and ring that the call before left. Assumes nothing.
use Rattle.std.specs.Prelude.{Bool, List, eqb, ℤ, length, take}
use Rattle.laws.specs.Base.{pick}
use Rattle.pricing.specs.Verdict.{accepted}
use Rattle.book.specs.declared.record.Book.{Book}
use Rattle.book.specs.Record.{ring_size, is_accepted}
use Rattle.book_calls.specs.Setting as Setting
use Rattle.book_calls.specs.Report as Report
use Rattle.image.specs.Storing as Storing
use Rattle.image.specs.Loading as Loading
use Rattle.entries.specs.Entering as Entering
use Rattle.ledger.specs.Calls.{Call, entry, threshold, limits, report, restart, entered, set, reported, restarted, Step}

pub record Held : Type 0 where
  pub book : Book
  pub ring : List ℤ

abbrev pub is_own : Book → List ℤ → Bool
is_own b ring = eqb (length ring) (ring_size b.regions b.services b.window)

-- "An entry lent a ring of a wrong length instead is refused by 11, and L goes on with its own ring". A ring of the right
-- length is L's own: of a call it is the length alone that counts
abbrev pub enters : Held → List ℤ → Entering.Outcome → Step Held
enters s ring o = record {
  state = record { book = o.book; ring = pick (is_own s.book ring) o.ring s.ring };
  answer = entered o.verdict o.count o.table;
}

abbrev pub sets : Held → Setting.Outcome → Step Held
sets s o = record { state = record { book = o.book; ring = s.ring }; answer = set o.verdict }

abbrev pub reports : Held → Report.Outcome → Step Held
reports s o = record { state = record { book = o.book; ring = s.ring }; answer = reported o.numbers }

-- "A restart is an image stored into a long enough buffer and loaded, from exactly its bytes, into another ring .., with which
-- L goes on". Refused by the store or by the load, L goes on as it was
abbrev pub loads : Held → Loading.Outcome → Step Held
loads s o =
    pick (is_accepted o.verdict)
    (record { state = record { book = o.book; ring = o.ring }; answer = restarted accepted })
    (record { state = s; answer = restarted o.verdict })

abbrev pub restarts : Held → Storing.Outcome → List ℤ → Step Held
restarts s o ring =
    pick (is_accepted o.verdict)
    (loads (record { book = o.book; ring = s.ring }) (Loading.loaded (take o.length o.buffer) ring))
    (record { state = record { book = o.book; ring = s.ring }; answer = restarted o.verdict })

unfoldable pub play : Held → Call → Step Held
play s (entry ring number e table) = enters s ring (Entering.entered s.book (pick (is_own s.book ring) s.ring ring) number e table)
play s (threshold x) = sets s (Setting.set_threshold s.book x)
play s (limits c f) = sets s (Setting.set_limits s.book c f)
play s (report region market) = reports s (Report.reported s.book region market)
play s (restart second buffer ring) = restarts s (Storing.stored second s.book s.ring buffer) ring
