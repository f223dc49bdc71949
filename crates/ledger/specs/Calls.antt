-- Lists of calls and their answers, for P and for the book alike. Assumes nothing.
use Rattle.std.specs.Prelude.{◌≡◌, Bool, false, List, [], ◌∷◌, ℕ, ℤ}
use Rattle.pricing.specs.Verdict.{Verdict}
use Rattle.book.specs.Record.{is_accepted}
use Rattle.book_calls.specs.Report.{Numbers, nothing}
use Rattle.publishing.specs.Entry.{Entry}

-- a call of L with its arguments, any lengths and any numbers: an entry with the ring that it is lent, its number and the
-- table; the two settings; a report of a region and market; a restart by an image of kind 2 (true) or of kind 1, with a buffer and another
-- ring
pub data Call : Type 0 where
  entry : List ℤ → ℕ → Entry → List ℤ → Call
  threshold : ℤ → Call
  limits : ℤ → ℤ → Call
  report : ℕ → ℕ → Call
  restart : Bool → List ℕ → List ℤ → Call

-- "Compared, for each call of L: acceptance, or refusal with its place; an entry's count and published table; a report's
-- four numbers"
pub data Answer : Type 0 where
  entered : Verdict → ℕ → List ℤ → Answer
  set : Verdict → Answer
  reported : Numbers → Answer
  restarted : Verdict → Answer

-- what a machine has become after a call, and what it answered
pub record Step (S : Type 0) : Type 0 where
  pub state : S
  pub answer : Answer

-- the answers of a machine over a list of calls, and its state after them
unfoldable pub answers : {S : Type 0} → (S → Call → Step S) → S → List Call → List Answer
answers play s [] = []
answers play s (c ∷ L) = (play s c).answer ∷ answers play (play s c).state L

unfoldable pub after : {S : Type 0} → (S → Call → Step S) → S → List Call → S
after play s [] = s
after play s (c ∷ L) = after play (play s c).state L

-- ---- what is said of answers
-- the number and place of an answer: number 0 is an acceptance
abbrev pub verdict_in : Answer → Verdict
verdict_in (entered v count table) = v
verdict_in (set v) = v
verdict_in (reported numbers) = numbers.verdict
verdict_in (restarted v) = v

-- no answer is a refusal by n
abbrev pub Never : ℕ → List Answer → Type 0
Never n [] = Unit {0}
Never n (a ∷ l) = ((verdict_in a).number ≡ n → ⊥) × Never n l

-- "a refused call leaves .. the lent table as [it was] and answers zeros beside number and place"
abbrev pub refused_answer : Call → Verdict → Answer
refused_answer (entry ring number e table) v = entered v 0 table
refused_answer (threshold x) v = set v
refused_answer (limits c f) v = set v
refused_answer (report region market) v = reported (nothing v)
refused_answer (restart second buffer ring) v = restarted v

-- each call has its answer, and an answer that is a refusal is that one
abbrev pub Zeros : List Call → List Answer → Type 0
Zeros [] [] = Unit {0}
Zeros [] (a ∷ l) = ⊥
Zeros (c ∷ L) [] = ⊥
Zeros (c ∷ L) (a ∷ l) = (is_accepted (verdict_in a) ≡ false → a ≡ refused_answer c (verdict_in a)) × Zeros L l

-- a list of calls without its restarts, and a list of answers without those of restarts
unfoldable pub without_restarts : List Call → List Call
without_restarts [] = []
without_restarts (entry ring number e table ∷ L) = entry ring number e table ∷ without_restarts L
without_restarts (threshold x ∷ L) = threshold x ∷ without_restarts L
without_restarts (limits c f ∷ L) = limits c f ∷ without_restarts L
without_restarts (report region market ∷ L) = report region market ∷ without_restarts L
without_restarts (restart second buffer ring ∷ L) = without_restarts L

unfoldable pub drop_restarts : List Answer → List Answer
drop_restarts [] = []
drop_restarts (entered v count table ∷ l) = entered v count table ∷ drop_restarts l
drop_restarts (set v ∷ l) = set v ∷ drop_restarts l
drop_restarts (reported numbers ∷ l) = reported numbers ∷ drop_restarts l
drop_restarts (restarted v ∷ l) = drop_restarts l
