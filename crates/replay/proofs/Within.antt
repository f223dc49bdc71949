-- What a replay writes lies within the answers' buffer. Assumes nothing.
use mathlib.Core.Path.{◌≡◌, refl, sym, ap, ◌∙◌, subst}
use mathlib.Core.Bool.{true, false}
use mathlib.Core.List.{List}
use Prim.Native.Nat.{ℕ, zero, suc, ◌+◌, ◌-◌, ◌≤◌}
use native.Mathlib.Omega.{arith}
use borrow.Author.Tests.{leb-true}
use lib.Dec.{eqb, leb}
use lib.ListN.{length}
use lib.Seq.{sets, length-sets}
use Rattle.laws.proofs.Tests.{by-test, and_right}
use Rattle.records.specs.Reading.{kind_at, answer_size, opens}
use Rattle.book_calls.specs.Setting as Setting
use Rattle.book_calls.specs.Report as Report
use Rattle.image.specs.Storing as Storing
use Rattle.records.specs.Writing.{plain_record, report_record}
use Rattle.playing.specs.Playing.{State, room_of, playable, step, threshold_in, cap_in, floor_in, region_in, market_in, threshold, limits, report, entered_at, entered_record, entry, restart_verdict, restart}
use Rattle.replay.specs.Replay.{Lent, runs, parts, begins, opened, begun, replayed}
use Rattle.playing.proofs.Goes.{goes-room}
use Rattle.replay.proofs.Looping.{runs-next, runs-stop}

-- a call appends its answer, and the buffer stays as long as it was
abbrev Appends : List ℕ → State → State → Type 0
Appends c s x = (x.out ≡ s.out + answer_size c s.at) × (length x.answers ≡ length s.answers)

sets-keeps : (c : List ℕ) (s x : State) (r : List ℕ) → x.out ≡ s.out + answer_size c s.at → x.answers ≡ sets s.answers s.out r → Appends c s x
sets-keeps c s x r o a = (o, ap length a ∙ length-sets s.answers s.out r)

appends : (c : List ℕ) (s : State) → Appends c s (step c s)
unfolding step
appends c s =
    by-test (eqb (kind_at c s.at) 65) (λ e. rw e (sets-keeps c s (entry c s) (entered_record (entered_at c s.at s.book s.ring)) refl refl))
    (λ a. by-test (eqb (kind_at c s.at) 66) (λ e. rw (a, e) (sets-keeps c s (threshold c s) (plain_record 66 (Setting.set_threshold s.book (threshold_in c s.at)).verdict) refl refl))
    (λ b. by-test (eqb (kind_at c s.at) 67) (λ e. rw (a, b, e) (sets-keeps c s (limits c s) (plain_record 67 (Setting.set_limits s.book (cap_in c s.at) (floor_in c s.at)).verdict) refl refl))
    (λ d. by-test (eqb (kind_at c s.at) 68) (λ e. rw (a, b, d, e) (sets-keeps c s (report c s) (report_record (Report.reported s.book (region_in c s.at) (market_in c s.at)).numbers) refl refl))
    (λ e. rw (a, b, d, e) (sets-keeps c s (restart c s) (plain_record 69 (restart_verdict (Storing.stored false s.book s.ring s.image) s.other)) refl refl)))))

none : (c : List ℕ) (s : State) → runs zero c s ≡ s
unfolding runs
none c s = refl

within : (n : ℕ) (c : List ℕ) (s : State) → s.out ≤ length s.answers → (runs n c s).out ≤ length s.answers
within zero c s h = rw (none c s) h
within (suc n) c s h =
    by-test (playable c s)
    (λ t. let a = appends c s in
    let r = goes-room (room_of s) c s.at (length s.answers - s.out) t in
    let k : (step c s).out ≤ length (step c s).answers = omega (arith, a.0, a.1, r) in
    let w : (runs n c (step c s)).out ≤ length s.answers = subst (λ (i : ℕ). (runs n c (step c s)).out ≤ i) a.1 (within n c (step c s) k) in
    subst (λ (x : State). x.out ≤ length s.answers) (sym (runs-next c s n t)) w)
    (λ t. subst (λ (x : State). x.out ≤ length s.answers) (sym (runs-stop c s (suc n) t)) h)

module _ (c : List ℕ) (m : Lent) where
  room : begun c (length m.answers) ≡ true → 14 ≤ length m.answers
  unfolding begun
  room t = leb-true 14 (length m.answers) (and_right (opens c) (leb 14 (length m.answers)) t)

  from-opening : 14 ≤ length m.answers → (runs (length c) c (begins c (parts c m))).out ≤ length m.answers
  from-opening h =
      let k : length (begins c (parts c m)).answers ≡ length m.answers = length-sets m.answers 0 (plain_record 64 (opened c m).verdict) in
      subst (λ (i : ℕ). (runs (length c) c (begins c (parts c m))).out ≤ i) k (within (length c) c (begins c (parts c m)) (omega (arith, k)))

  pub written-within : (replayed c m).written ≤ length m.answers
  unfolding replayed
  written-within = by-test (begun c (length m.answers)) (λ t. rw t (from-opening (room t))) (λ t. rw t (omega arith))
