-- The ends of a replay: the state after the opening, a replay that does not begin, and one that does. Assumes nothing.
use mathlib.Core.Path.{◌≡◌, refl, ap, ◌∙◌}
use mathlib.Core.Bool.{Bool, true, false, ◌&&◌}
use mathlib.Core.List.{List, [], ◌++◌}
use Prim.Native.Nat.{ℕ, ◌≤◌, ◌<◌, min}
use native.Mathlib.Omega.{arith}
use borrow.Author.Tests.{leb-true, leb-false, le-leb, lt-leb}
use lib.Dec.{leb}
use lib.IntN.{ℤ}
use lib.ListN.{length, take, drop}
use lib.Seq.{sets}
use Rattle.laws.specs.Bytes.{number_at}
use Rattle.laws.proofs.Tests.{and_left, by-test}
use Rattle.book.specs.declared.record.Settings.{Settings}
use Rattle.book.specs.declared.record.Reply.{Reply}
use Rattle.book.specs.Record.{ring_size, verdict}
use Rattle.book_calls.specs.Opening as Opening
use Rattle.records.specs.Reading.{settings_in, opens}
use Rattle.records.specs.Writing.{plain_record}
use Rattle.playing.specs.Playing.{State, state_of}
use Rattle.replay.specs.Replay.{Lent, part_of, size_in, mine, spare, opened_on, begins, parts, Outcome, finished, runs, turns, begun, replayed, lent_of, outcome}
use Rattle.replay.specs.Promise.{promised}
use Rattle.replay.proofs.Looping.{behind}
use Rattle.replay.proofs.Promises.{part_room, promise}
use Rattle.replay.proofs.Within.{written-within}

-- ---- the state after the opening
pub opening : (c : List ℕ) (m : Lent) (settings : Settings) (r : Reply Unit) (ring : List ℤ) (answers : List ℕ) → settings ≡ settings_in c
    → Opening.outcome r ring ≡ Opening.opened settings m.ring → answers ≡ sets m.answers 0 (plain_record 64 (verdict r.answer))
    → state_of false r.book ring m.other m.image m.numbers m.factors m.table 38 14 answers ≡ begins c m
opening c m settings r ring answers s o a =
    let e : Opening.outcome r ring ≡ opened_on c m.ring = o ∙ ap (λ (x : Settings). Opening.opened x m.ring) s in
    let w : answers ≡ sets m.answers 0 (plain_record 64 (opened_on c m.ring).verdict) = a ∙ ap (λ (x : Opening.Outcome). sets m.answers 0 (plain_record 64 x.verdict)) e in
    λ i. record {
      book = (e i).book;
      ring = (e i).ring;
      other = m.other;
      image = m.image;
      numbers = m.numbers;
      factors = m.factors;
      table = m.table;
      at = 38;
      out = 14;
      answers = w i;
    }

-- ---- whether a replay begins
nor : (a : Bool) → (a && false) ≡ false
nor true = refl
nor false = refl

module _ (c : List ℕ) where
  pub opening-whole : opens c ≡ true → 38 ≤ length c
  unfolding opens
  opening-whole t = leb-true _ _ (and_left (leb 38 (length c)) _ t)

  module _ (m : Lent) where
    ends : begun c (length m.answers) ≡ false → record { written = 0; lent = m } ≡ replayed c m
    unfolding replayed
    ends t = rw t

    closed : opens c ≡ false → begun c (length m.answers) ≡ false
    unfolding begun
    closed t = rw t

    full : length m.answers < 14 → begun c (length m.answers) ≡ false
    unfolding begun
    full l = rw (lt-leb 14 (length m.answers) l) (nor (opens c))

    pub unopened : opens c ≡ false → record { written = 0; lent = m } ≡ replayed c m
    unopened t = ends (closed t)

    pub unwritten : length m.answers < 14 → record { written = 0; lent = m } ≡ replayed c m
    unwritten l = ends (full l)

    starts : opens c ≡ true → 14 ≤ length m.answers → begun c (length m.answers) ≡ true
    unfolding begun
    starts t l = rw (t, le-leb 14 (length m.answers) l)

    goes_on : begun c (length m.answers) ≡ true → finished c (begins c (parts c m)) (drop (mine c m) m.ring) (drop (spare c m) m.other) ≡ replayed c m
    unfolding replayed
    goes_on t = rw t

    -- the book's parts of the rings are played on, and come back in front of what was left out
    pub replays : (n k written : ℕ) (answers : List ℕ) (ring other : List ℤ) (image : List ℕ) (numbers : List ℤ) (factors : List ℕ) (table : List ℤ)
        → opens c ≡ true → 14 ≤ length m.answers → n ≡ mine c m → k ≡ spare c m
        → outcome written answers ring other image numbers factors table
        ≡ finished c (begins c (lent_of m.answers (take n m.ring) (take k m.other) m.image m.numbers m.factors m.table)) [] []
        → outcome written answers (ring ++ drop n m.ring) (other ++ drop k m.other) image numbers factors table ≡ replayed c m
    replays n k written answers ring other image numbers factors table t l p q e =
        let s : State = begins c (lent_of m.answers (take n m.ring) (take k m.other) m.image m.numbers m.factors m.table) in
        behind (runs (length c) c s) (turns (length c) c s false) written answers ring other image numbers factors table (drop n m.ring) (drop k m.other) e
        ∙ (λ i. finished c (begins c (lent_of m.answers (take (p i) m.ring) (take (q i) m.other) m.image m.numbers m.factors m.table)) (drop (p i) m.ring) (drop (q i) m.other))
        ∙ goes_on (starts t l)

    -- what is answered is then what was promised, and lies within the answers
    pub promises : (o : Outcome) → o ≡ replayed c m
        → (o ≡ replayed c m)
        × ((o.written ≡ length (promised c m))
        × ((o.lent.answers ≡ sets m.answers 0 (promised c m)) × (o.written ≤ length m.answers)))
    promises o e =
        let p = promise c m in
        let w : o.written ≡ (replayed c m).written = ap (λ (x : Outcome). x.written) e in
        (e, (w ∙ p.1, (ap (λ (x : Outcome). x.lent.answers) e ∙ p.0, rw w (written-within c m))))

  -- ---- how much of a ring a book is lent
  pub part-is : (r s w size n room : ℕ) → r ≡ number_at c 6 1 → s ≡ number_at c 7 1 → w ≡ number_at c 8 2 → size ≡ ring_size r s w → n ≡ part_of size room → n ≡ part_of (size_in c) room
  part-is r s w size n room a b d e p =
      let z : size ≡ size_in c = e ∙ (λ i. ring_size (a i) (b i) (d i)) in p ∙ ap (λ (x : ℕ). part_of x room) z

-- the smaller of the two
pub part-min : (size room n : ℕ) → n ≡ min size room → n ≡ part_of size room
part-min size room n e = e ∙ by-test (leb size room) (λ t. rw t (omega (arith, leb-true size room t))) (λ t. rw t (omega (arith, leb-false size room t)))

pub part-most : (size room n : ℕ) → n ≡ part_of size room → n ≤ room
part-most size room n e = rw e (part_room size room)
