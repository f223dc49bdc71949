-- DEMAND 3 OVER SEQUENCES OF C CALLS: what a host is answered that keeps a book and a ring in its own memory and hands them to each
-- call. `proofs/Theorem` proves `Demand3`. Assumes nothing.
--
-- In words: a host opens a book by `guxhamole_open` with any settings over any ring, or loads one by `guxhamole_load` from an image of a
-- book without entries and with no period marked into any ring. If the answer's number is 0, then for every list L of calls (entries,
-- threshold and limit settings, reports and restarts, with any arguments, refused ones too), each made by the function of crates/capi on
-- the book and ring that the call before left, the answers are exactly those of the ledger machine P: number and place; an entry's count
-- and table; a report's four numbers. A restart is a store by either kind (`guxhamole_store` is that by kind 1) and, where that is
-- accepted, a load of exactly the stored bytes into another ring; refused by either, the host goes on with the book and ring that it has.
--
-- Of a function nothing is used but what its contract in crates/capi says: each line of `Meets` is that contract.
use Rattle.std.specs.Prelude.{◌≡◌, Bool, ◌&&◌, List, [], ◌∷◌, ℕ, eqb, ℤ, take}
use Rattle.laws.specs.Base.{pick}
use Rattle.book_calls.specs.Opening.{opened}
use Rattle.book_calls.specs.Setting.{set_threshold, set_limits}
use Rattle.book_calls.specs.Report.{report_of}
use Rattle.image.specs.Storing.{stored}
use Rattle.image.specs.Loading.{loaded}
use Rattle.publishing.specs.Entry.{Entry}
use Rattle.entries.specs.Entering as Entering
use Rattle.ledger.specs.Calls.{Call, entry, threshold, limits, report, restart, Answer, entered, set, reported, restarted, answers}
use Rattle.ledger.specs.Ledger as Ledger
use Rattle.ledger.specs.Book.{Held, is_own}
use Rattle.ledger.specs.Demand.{Start, opens, loads, settings, Fit}
use Rattle.face.specs.declared.Kept.{Kept}
use Rattle.face.specs.declared.Taken.{Taken}
use Rattle.face.specs.declared.Seen.{Seen}
use Rattle.face.specs.declared.Written.{Written}
use Rattle.face.specs.Face.{verdict_by, opened_of, changed_of, taken_of, numbers_of, stored_of, loaded_of}

-- a call that a host made: its arguments, the struct that it answered, and the lent slices that it may have written as they then were:
-- ring and table of an entry; whether a restart's store was by kind 2, its buffer, and the ring of the load
pub data Made : Type 0 where
  made-entry : List ℤ → ℕ → Entry → List ℤ → Taken → List ℤ → List ℤ → Made
  made-threshold : ℤ → Kept → Made
  made-limits : ℤ → ℤ → Kept → Made
  made-report : ℕ → ℕ → Seen → Made
  made-restart : Bool → List ℕ → List ℤ → Written → List ℕ → Kept → List ℤ → Made

-- the call alone
unfoldable pub called : Made → Call
called (made-entry ring number e table r ring' table') = entry ring number e table
called (made-threshold x r) = threshold x
called (made-limits c f r) = limits c f
called (made-report region market r) = report region market
called (made-restart second buffer ring w buffer' k ring') = restart second buffer ring

-- the function kept its contract, on the book and ring that the host held: `guxhamole_enter`, `guxhamole_set_threshold`,
-- `guxhamole_set_limits`, `guxhamole_report`; `guxhamole_store` or `guxhamole_store_kind_2` and, where that was accepted,
-- `guxhamole_load`. An entry is lent the host's own ring, or by mistake one of another length
unfoldable pub Meets : Held → Made → Type 0
Meets s (made-entry ring number e table r ring' table') =
    taken_of r ring' table' ≡ Entering.entered s.book (pick (is_own s.book ring) s.ring ring) number e table
Meets s (made-threshold x r) = changed_of r ≡ set_threshold s.book x
Meets s (made-limits c f r) = changed_of r ≡ set_limits s.book c f
Meets s (made-report region market r) = numbers_of r ≡ report_of s.book region market
Meets s (made-restart second buffer ring w buffer' k ring') =
    (stored_of w s.book buffer' ≡ stored second s.book s.ring buffer)
    × (w.number ≡ 0 → loaded_of k ring' ≡ loaded (take w.length buffer') ring)

-- what the host goes on with: the book of the answer, and its own ring as the call left it; after a restart the loaded book and ring
unfoldable pub next : Held → Made → Held
next s (made-entry ring number e table r ring' table') =
    record { book = r.book; ring = pick (is_own s.book ring) ring' s.ring }
next s (made-threshold x r) = record { book = r.book; ring = s.ring }
next s (made-limits c f r) = record { book = r.book; ring = s.ring }
next s (made-report region market r) = s
next s (made-restart second buffer ring w buffer' k ring') =
    pick (eqb w.number 0 && eqb k.number 0) (record { book = k.book; ring = ring' }) s

-- the answer that the host reads off: "acceptance, or refusal with its place; an entry's count and published table; a report's four
-- numbers"
unfoldable pub said : Made → Answer
said (made-entry ring number e table r ring' table') = entered (verdict_by r.number r.place) r.count table'
said (made-threshold x r) = set (verdict_by r.number r.place)
said (made-limits c f r) = set (verdict_by r.number r.place)
said (made-report region market r) = reported (numbers_of r)
said (made-restart second buffer ring w buffer' k ring') =
    restarted (pick (eqb w.number 0) (verdict_by k.number k.place) (verdict_by w.number 0))

unfoldable pub all_called : List Made → List Call
all_called [] = []
all_called (m ∷ l) = called m ∷ all_called l

unfoldable pub all_said : List Made → List Answer
all_said [] = []
all_said (m ∷ l) = said m ∷ all_said l

-- each call met its contract on what the one before left
unfoldable pub Session : Held → List Made → Type 0
Session s [] = Unit {0}
Session s (m ∷ l) = Meets s m × Session (next s m) l

-- how the host began: `guxhamole_open` or `guxhamole_load` kept its contract, answered this and left the ring so
unfoldable pub Began : Start → Kept → List ℤ → Type 0
Began (opens s ring) k ring' = opened_of k ring' ≡ opened s ring
Began (loads image ring) k ring' = loaded_of k ring' ≡ loaded image ring

-- the theorem: where that answer was an acceptance, every session from there is answered as P answers its calls
unfoldable pub Demand3 : Type 0
Demand3 =
    (start : Start) (k : Kept) (ring' : List ℤ) (l : List Made)
    → Began start k ring' → k.number ≡ 0 → Fit start
    → Session (record { book = k.book; ring = ring' }) l
    → all_said l ≡ answers Ledger.play (Ledger.begin (settings start)) (all_called l)
