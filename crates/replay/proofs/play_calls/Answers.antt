-- `replay::play_calls` meets its contract. The loop's invariant: so many calls from here come to all calls from the start. Assumes nothing.
use mathlib.Core.Path.{◌≡◌, refl, ◌∙◌}
use mathlib.Core.List.{List, []}
use Prim.Native.Nat.{ℕ, ◌+◌, ◌-◌, ◌≤◌, ◌<◌}
use native.Mathlib.Omega.{arith}
use lib.ListN.{length}
use mir.Syntax.{w64}
use mir.Val.{Fits}
use Rattle.playing.specs.Playing.{State, state_of}
use Rattle.replay.proofs.Looping.{Fit, room_by, plays, stops, start, fits_in, again, done, leaves}
use Rattle.replay.proofs.Turning.{turn-is}
use Rattle.replay.proofs.play_calls.Goals as goal

-- a sum that stays within a length fits
within : (a n m b : ℕ) → n ≡ m → a + m ≤ b → b < 18446744073709551616 → Fits w64 (a + n)
within a n m b e l h = record { fits = omega arith }

-- what is left of the bytes shrinks
shrinks : (a n m b : ℕ) → n ≡ m → 1 ≤ m → a + m ≤ b → b - (a + n) < b - a
shrinks a n m b e o l = omega arith

pub loop-next-init : goal.loop-next-init
loop-next-init c = let p = c.requires in (start _ _ p.0 p.1, refl, refl, refl, refl, refl, refl, refl)

pub overflow_add-at : goal.overflow_add-at
overflow_add-at c =
    let l = c.loop-next in
    let bytes : List ℕ = c.args.calls.now in
    let state : State = state_of l.turned l.book l.ring l.other l.image l.numbers l.factors l.table l.at l.out l.answers in
    let next = plays bytes state c.picked.result c.next_call.result (room_by l.turned l.other l.ring c.picked.result c.picked.ensures) c.next_call.ensures c.in-Some.next c.in-Some.is in
    let f : Fit bytes l.at l.out (length l.answers) = fits_in l.invariant.0 next.0 in
    within _ _ _ _ next.1 f.inside (omega arith)

pub overflow_add-out : goal.overflow_add-out
overflow_add-out c =
    let l = c.loop-next in
    let bytes : List ℕ = c.args.calls.now in
    let state : State = state_of l.turned l.book l.ring l.other l.image l.numbers l.factors l.table l.at l.out l.answers in
    let next = plays bytes state c.picked.result c.next_call.result (room_by l.turned l.other l.ring c.picked.result c.picked.ensures) c.next_call.ensures c.in-Some.next c.in-Some.is in
    let f : Fit bytes l.at l.out (length l.answers) = fits_in l.invariant.0 next.0 in
    within _ _ _ _ next.2 f.room (omega arith)

pub loop-next-smaller : goal.loop-next-smaller
loop-next-smaller c =
    let l = c.loop-next in
    let bytes : List ℕ = c.args.calls.now in
    let state : State = state_of l.turned l.book l.ring l.other l.image l.numbers l.factors l.table l.at l.out l.answers in
    let next = plays bytes state c.picked.result c.next_call.result (room_by l.turned l.other l.ring c.picked.result c.picked.ensures) c.next_call.ensures c.in-Some.next c.in-Some.is in
    let f : Fit bytes l.at l.out (length l.answers) = fits_in l.invariant.0 next.0 in
    shrinks _ _ _ _ next.1 f.some f.inside

pub loop-next-preserved : goal.loop-next-preserved
loop-next-preserved c =
    let l = c.loop-next in
    let bytes : List ℕ = c.args.calls.now in
    let state : State = state_of l.turned l.book l.ring l.other l.image l.numbers l.factors l.table l.at l.out l.answers in
    let next = plays bytes state c.picked.result c.next_call.result (room_by l.turned l.other l.ring c.picked.result c.picked.ensures) c.next_call.ensures c.in-Some.next c.in-Some.is in
    let h = l.invariant in
    let r = c.play_turned-played in
    let k = r.auto in (
      rw (turn-is l.turned r.result.swapped) (again h.0 r.result.swapped _ _ _ _ _ _ _ _ _ _ next.0 next.1 next.2 r.ensures.swapped_value r.ensures.answers_after k.answers),
      k.ring ∙ h.1,
      k.other ∙ h.2,
      k.image ∙ h.3,
      k.numbers ∙ h.4,
      k.factors ∙ h.5,
      k.table ∙ h.6,
      k.answers ∙ h.7,
    )

pub returns : goal.returns
returns c =
    let l = c.loop-next in
    let bytes : List ℕ = c.args.calls.now in
    let state : State = state_of l.turned l.book l.ring l.other l.image l.numbers l.factors l.table l.at l.out l.answers in
    let stopped = stops bytes state c.picked.result c.next_call.result (room_by l.turned l.other l.ring c.picked.result c.picked.ensures) c.next_call.ensures c.in_default.is in
    leaves l.turned l.book l.ring l.other l.image l.numbers l.factors l.table l.at l.out l.answers ∙ done l.invariant.0 [] [] stopped
