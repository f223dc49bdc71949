-- `codec::get` meets its contract. The loop runs downward: x is the number in the bytes from j on. Assumes nothing.
use mathlib.Core.Path.{refl, ap, ◌∙◌}
use Prim.Native.Nat.{◌+◌, ◌-◌, ◌^◌, ◌<◌}
use native.Mathlib.Omega.{arith}
use Rattle.laws.specs.Bytes.{number_at}
use Rattle.laws.proofs.Bytes.{number-none}
use Rattle.codec.proofs.Turns.{get-step, get-room}
use Rattle.codec.proofs.get.Goals as goal

pub loop-j-init : goal.loop-j-init
loop-j-init c = (omega arith, number-none _ _ ∙ ap (number_at _ _) (omega arith))

pub overflow_mul-x : goal.overflow_mul-x
overflow_mul-x c =
    let small : c.loop-j.x < 256 ^ 7 = (let s = c.args in
    let j = c.loop-j.j in
    let room = get-room s.bytes.now (λ i. omega (arith, c.type_inv.bytes i)) (s.at + j) (s.width - j) (omega arith) (omega arith) in
    omega (arith, c.loop-j.invariant.1, room)) in
    omega (arith, small)

pub overflow_add-x : goal.overflow_add-x
overflow_add-x c =
    let small : c.loop-j.x < 256 ^ 7 = (let s = c.args in
    let j = c.loop-j.j in
    let room = get-room s.bytes.now (λ i. omega (arith, c.type_inv.bytes i)) (s.at + j) (s.width - j) (omega arith) (omega arith) in
    omega (arith, c.loop-j.invariant.1, room)) in
    omega (arith, small, c.type_inv.bytes (c.args.at + (c.loop-j.j - 1)))

pub loop-j-preserved : goal.loop-j-preserved
loop-j-preserved c =
    (omega arith, get-step _ _ _ _ _ _ (omega arith) (omega arith) (omega arith) c.loop-j.invariant.1 refl)
