-- A machine that answers each call as a replay writes it answers the whole replay. Assumes nothing.
use mathlib.Core.Path.{◌≡◌, refl, sym, ap, ◌∙◌, subst}
use mathlib.Core.Bool.{true, false}
use mathlib.Core.List.{List, [], ◌++◌}
use Prim.Native.Nat.{ℕ, zero, suc, ◌+◌, ◌-◌}
use native.Mathlib.Omega.{arith}
use lib.ListN.{length, length-append}
use lib.Seq.{sets, length-sets}
use Rattle.laws.proofs.Tests.{by-test}
use Rattle.laws.proofs.Bytes.{sets-append}
use Rattle.ledger.specs.Calls.{Call, Step, answers}
use Rattle.records.specs.declared.reading.Room.{Room}
use Rattle.records.specs.Reading.{call_size, answer_size, goes}
use Rattle.playing.specs.Playing.{State, room_of, playable, step}
use Rattle.replay.specs.Replay.{runs}
use Rattle.replay.proofs.Looping.{runs-next, runs-stop}
use Rattle.playing.specs.Fed.{Lengths, call_at}
use Rattle.replay.specs.Promise.{calls_from, record_of, records_of}

module _ {G : Type 0} (play : G → Call → Step G) (c : List ℕ) (m : Lengths) (Good : State → G → Type 0) where
  -- what a call comes to: it is answered by the machine's record, and what is then had is good again
  pub record Stepped (s : State) (g : G) (call : Call) : Type 0 where
    pub at : (step c s).at ≡ s.at + call_size c s.at
    pub out : (step c s).out ≡ s.out + answer_size c s.at
    pub size : length (record_of call (play g call).answer) ≡ answer_size c s.at
    pub answers : (step c s).answers ≡ sets s.answers s.out (record_of call (play g call).answer)
    pub good : Good (step c s) (play g call).state

  -- the bytes of at most n calls
  abbrev told : ℕ → ℕ → ℕ → G → List ℕ
  told n at left g = records_of (calls_from n m c at left) (answers play g (calls_from n m c at left))

  abbrev Told : ℕ → ℕ → ℕ → List ℕ → State → G → Type 0
  Told n at out l x g = (x.answers ≡ sets l out (told n at (length l - out) g)) × (x.out ≡ out + length (told n at (length l - out) g))

  next : (n at left : ℕ) (g : G) → goes m.room c at left ≡ true
      → told (suc n) at left g ≡ record_of (call_at m c at) (play g (call_at m c at)).answer ++ told n (at + call_size c at) (left - answer_size c at) (play g (call_at m c at)).state
  unfolding calls_from answers records_of
  next n at left g t = rw t

  stop : (n at left : ℕ) (g : G) → goes m.room c at left ≡ false → told (suc n) at left g ≡ []
  unfolding calls_from answers records_of
  stop n at left g t = rw t

  left_is : (l : List ℕ) (out a : ℕ) (r : List ℕ) → length (sets l out r) - (out + a) ≡ (length l - out) - a
  left_is l out a r = omega (arith, length-sets l out r)

  told-next : (n at out : ℕ) (l : List ℕ) (x : State) (g : G) → goes m.room c at (length l - out) ≡ true
      → length (record_of (call_at m c at) (play g (call_at m c at)).answer) ≡ answer_size c at
      → Told n (at + call_size c at) (out + answer_size c at) (sets l out (record_of (call_at m c at) (play g (call_at m c at)).answer)) x (play g (call_at m c at)).state
      → Told (suc n) at out l x g
  told-next n at out l x g t k h =
      let r = record_of (call_at m c at) (play g (call_at m c at)).answer in
      let e = left_is l out (answer_size c at) r in
      let rest = told n (at + call_size c at) ((length l - out) - answer_size c at) (play g (call_at m c at)).state in
      let p : x.answers ≡ sets (sets l out r) (out + answer_size c at) rest = h.0 ∙ ap (λ (i : ℕ). sets (sets l out r) (out + answer_size c at) (told n (at + call_size c at) i (play g (call_at m c at)).state)) e in
      let q : x.out ≡ (out + answer_size c at) + length rest = h.1 ∙ ap (λ (i : ℕ). (out + answer_size c at) + length (told n (at + call_size c at) i (play g (call_at m c at)).state)) e in
      let w = next n at (length l - out) g t in (
        p ∙ ap (λ (i : ℕ). sets (sets l out r) (out + i) rest) (sym k) ∙ sym (sets-append l out r rest) ∙ ap (sets l out) (sym w),
        q ∙ omega (arith, k, length-append r rest) ∙ ap (λ (i : List ℕ). out + length i) (sym w),
      )

  none : (s : State) (g : G) → Told zero s.at s.out s.answers (runs zero c s) g
  unfolding runs calls_from answers records_of
  none s g = (refl, omega arith)

  ended : (n : ℕ) (s : State) (g : G) → goes m.room c s.at (length s.answers - s.out) ≡ false → Told (suc n) s.at s.out s.answers s g
  ended n s g t =
      let w = stop n s.at (length s.answers - s.out) g t in
      (ap (sets s.answers s.out) (sym w), omega arith ∙ ap (λ (i : List ℕ). s.out + length i) (sym w))

  moved : (n : ℕ) (x : State) (g : G) {a b o p : ℕ} {k l : List ℕ} → a ≡ b → o ≡ p → k ≡ l → Told n a o k x g → Told n b p l x g
  moved n x g {a} {b} {o} {p} {k} {l} e f d h =
      subst (λ (l : List ℕ). Told n b p l x g) d (subst (λ (p : ℕ). Told n b p k x g) f (subst (λ (b : ℕ). Told n b o k x g) e h))

  module _ (room : (s : State) (g : G) → Good s g → room_of s ≡ m.room)
      (steps : (s : State) (g : G) → Good s g → goes m.room c s.at (length s.answers - s.out) ≡ true → Stepped s g (call_at m c s.at)) where
    pub simulated : (n : ℕ) (s : State) (g : G) → Good s g → Told n s.at s.out s.answers (runs n c s) g
    simulated zero s g h = none s g
    simulated (suc n) s g h =
        by-test (goes m.room c s.at (length s.answers - s.out))
        (λ t. let u : playable c s ≡ true = ap (λ (r : Room). goes r c s.at (length s.answers - s.out)) (room s g h) ∙ t in
        let k = steps s g h t in
        subst (λ (x : State). Told (suc n) s.at s.out s.answers x g) (sym (runs-next c s n u))
        (told-next n s.at s.out s.answers (runs n c (step c s)) g t k.size
        (moved n (runs n c (step c s)) (play g (call_at m c s.at)).state k.at k.out k.answers
        (simulated n (step c s) (play g (call_at m c s.at)).state k.good))))
        (λ t. let u : playable c s ≡ false = ap (λ (r : Room). goes r c s.at (length s.answers - s.out)) (room s g h) ∙ t in
        subst (λ (x : State). Told (suc n) s.at s.out s.answers x g) (sym (runs-stop c s (suc n) u)) (ended n s g t))
