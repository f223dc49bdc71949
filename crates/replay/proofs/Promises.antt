-- THE REPLAY'S PROMISE: the bytes that it writes are those of the ledger machine's answers (specs/Promise says it). Assumes nothing.
use mathlib.Core.Path.{◌≡◌, refl, sym, ap, ◌∙◌, subst}
use mathlib.Core.Bool.{true, false}
use mathlib.Core.List.{List, [], ◌++◌}
use Prim.Native.Nat.{ℕ, ◌+◌, ◌-◌, ◌≤◌}
use native.Mathlib.Omega.{arith}
use borrow.Author.Tests.{leb-true, eqb-true}
use lib.Dec.{leb}
use lib.IntN.{ℤ, pos}
use lib.ListN.{length, take, length-replicate, length-append}
use lib.Seq.{sets, length-sets, length-take-le}
use Rattle.laws.specs.Base.{pick}
use Rattle.laws.proofs.Tests.{by-test}
use Rattle.laws.proofs.Lists.{length_run}
use Rattle.laws.proofs.Bytes.{sets-append}
use Rattle.pricing.specs.Verdict.{Verdict}
use Rattle.book.specs.Record.{is_accepted}
use Rattle.book_calls.specs.Opening.{open_verdict}
use Rattle.book_calls.proofs.Kept.{opened-verdict, opened-is, opened-not}
use Rattle.ledger.specs.Calls.{Call, Answer, Step, answers}
use Rattle.ledger.specs.Ledger as Ledger
use Rattle.ledger.proofs.Agrees.{Agree}
use Rattle.ledger.specs.Demand.{opens}
use Rattle.ledger.proofs.Begins.{start-agrees}
use Rattle.records.specs.Reading.{parent_at, settings_in}
use Rattle.records.specs.Writing.{plain_record}
use Rattle.records.proofs.Written.{length-head}
use Rattle.playing.specs.Playing.{State}
use Rattle.replay.specs.Replay as Replay
use Rattle.replay.specs.Replay.{Lent, runs, part_of, size_in, mine, spare, parts, opened, opened_on, begun, replayed}
use Rattle.replay.specs.Promise.{sizes_of, lengths_of, calls_from, calls_in, records_of, refusals, ledger_answers, opening_verdict, promised_for, promised}
use Rattle.replay.proofs.Simulating.{simulated}
use Rattle.replay.proofs.Ledgers.{held_of, Fits, fits-room, Good, ledger-steps}
use Rattle.replay.proofs.Refusing.{refuse, refuses, Closed, refusing-steps}

pub part_room : (size room : ℕ) → part_of size room ≤ room
part_room size room = by-test (leb size room) (λ t. rw t (leb-true size room t)) (λ t. rw t (omega arith))

module _ (c : List ℕ) (m : Lent) where
  abbrev s : State
  s = Replay.begins c (parts c m)

  abbrev v : Verdict
  v = (opened c m).verdict

  v-is : v ≡ opening_verdict c (sizes_of m)
  v-is = opened-verdict (settings_in c) (take (mine c m) m.ring) ∙ ap (open_verdict (settings_in c)) (length-take-le (mine c m) m.ring (part_room (size_in c) (length m.ring)))

  abbrev part : List ℤ
  part = take (mine c m) m.ring

  abbrev first : List ℕ
  first = plain_record 64 v

  part_length : length part ≡ mine c m
  part_length = length-take-le (mine c m) m.ring (part_room (size_in c) (length m.ring))

  ring-length : length (opened c m).ring ≡ mine c m
  ring-length =
      by-test (is_accepted v)
      (λ t. ap length (opened-is (settings_in c) part t).2 ∙ length-replicate (length part) (pos 0) ∙ part_length)
      (λ t. ap length (opened-not (settings_in c) part t).1 ∙ part_length)

  lent : Fits (lengths_of c (sizes_of m)) s
  lent = record {
    ring = ring-length;
    numbers = refl;
    factors = refl;
    table = refl;
    other = length-take-le (spare c m) m.other (part_room (size_in c) (length m.other));
    image = refl;
  }

  begun-agree : is_accepted v ≡ true → Agree (held_of s) (Ledger.begin (settings_in c))
  begun-agree t =
      start-agrees (opens (settings_in c) part) (record { accepted = eqb-true v.number 0 t; fit = length_run (parent_at c) 8 0 })

  -- what is written, of the answers to the calls
  abbrev told : List Answer → List ℕ
  told l = records_of (calls_in c (sizes_of m)) l

  -- the buffer's length, before and after the opening's answer
  room-left : length s.answers - 14 ≡ length m.answers - 14
  room-left = ap (λ (n : ℕ). n - 14) (length-sets m.answers 0 first)

  whole : (l : List Answer) (x : State) → (x.answers ≡ sets s.answers 14 (told l)) × (x.out ≡ 14 + length (told l))
      → (x.answers ≡ sets m.answers 0 (first ++ told l)) × (x.out ≡ length (first ++ told l))
  whole l x h =
      let n = length-head 14 64 v in (
        h.0 ∙ ap (λ (i : ℕ). sets s.answers i (told l)) (sym n ∙ omega arith) ∙ sym (sets-append m.answers 0 first (told l)),
        h.1 ∙ omega (arith, n, length-append first (told l)),
      )

  -- a machine's answers to the calls
  abbrev by : {G : Type 0} → (G → Call → Step G) → G → ℕ → List ℕ
  by play g left = records_of (calls_from (length c) (lengths_of c (sizes_of m)) c 38 left) (answers play g (calls_from (length c) (lengths_of c (sizes_of m)) c 38 left))

  module _ {G : Type 0} (play : G → Call → Step G) (g : G) where
    from_start : (x : State) → (x.answers ≡ sets s.answers 14 (by play g (length s.answers - 14))) × (x.out ≡ 14 + length (by play g (length s.answers - 14)))
        → (x.answers ≡ sets m.answers 0 (first ++ told (answers play g (calls_in c (sizes_of m))))) × (x.out ≡ length (first ++ told (answers play g (calls_in c (sizes_of m)))))
    from_start x h =
        whole (answers play g (calls_in c (sizes_of m))) x
        (subst (λ (i : ℕ). (x.answers ≡ sets s.answers 14 (by play g i)) × (x.out ≡ 14 + length (by play g i))) room-left h)

  abbrev Told : List Answer → Type 0
  Told l = ((runs (length c) c s).answers ≡ sets m.answers 0 (first ++ told l)) × ((runs (length c) c s).out ≡ length (first ++ told l))

  accepted-told : is_accepted v ≡ true → Told (answers Ledger.play (Ledger.begin (settings_in c)) (calls_in c (sizes_of m)))
  accepted-told t =
      from_start Ledger.play (Ledger.begin (settings_in c)) (runs (length c) c s)
      (simulated Ledger.play c (lengths_of c (sizes_of m)) (Good (lengths_of c (sizes_of m))) (λ x p g. fits-room (lengths_of c (sizes_of m)) x g.lent) (λ x p g e. ledger-steps c (lengths_of c (sizes_of m)) x p g e)
      (length c) s (Ledger.begin (settings_in c)) (record { agree = begun-agree t; lent = lent }))

  refused-told : is_accepted v ≡ false → Told (refusals (calls_in c (sizes_of m)))
  refused-told t =
      subst Told (refuses tt (calls_in c (sizes_of m)))
      (from_start refuse tt (runs (length c) c s)
      (simulated refuse c (lengths_of c (sizes_of m)) (Closed (lengths_of c (sizes_of m))) (λ x p g. fits-room (lengths_of c (sizes_of m)) x g.lent) (λ x p g e. refusing-steps c (lengths_of c (sizes_of m)) x p g e)
      (length c) s tt (record { book = (opened-not (settings_in c) part t).0; lent = lent })))

  all_told : Told (ledger_answers c v (calls_in c (sizes_of m)))
  all_told = by-test (is_accepted v) (λ t. rw t (accepted-told t)) (λ t. rw t (refused-told t))

  written : ((replayed c m).lent.answers ≡ sets m.answers 0 (pick (begun c (length m.answers)) (first ++ told (ledger_answers c v (calls_in c (sizes_of m)))) []))
      × ((replayed c m).written ≡ length (pick (begun c (length m.answers)) (first ++ told (ledger_answers c v (calls_in c (sizes_of m)))) []))
  unfolding replayed
  written = by-test (begun c (length m.answers)) (λ t. rw t all_told) (λ t. rw t (refl, refl))

  by_lengths : promised c m ≡ pick (begun c (length m.answers)) (first ++ told (ledger_answers c v (calls_in c (sizes_of m)))) []
  unfolding promised_for
  by_lengths = rw (v-is)

  pub promise : ((replayed c m).lent.answers ≡ sets m.answers 0 (promised c m)) × ((replayed c m).written ≡ length (promised c m))
  promise = subst (λ (l : List ℕ). ((replayed c m).lent.answers ≡ sets m.answers 0 l) × ((replayed c m).written ≡ length l)) (sym by_lengths) written
