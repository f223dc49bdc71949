-- `sheet::text::put_sum` meets its contract: an amount is written as the first bytes of a part. Assumes nothing.
use mathlib.Core.List.{List, ◌++◌}
use Prim.Native.Nat.{ℕ, ◌+◌, ◌-◌, ◌≤◌}
use native.Mathlib.Omega.{arith}
use lib.ListN.{length, take, drop}
use Rattle.laws.proofs.Integers.{signed}
use Rattle.amount.specs.Text.{amount_text}
use Rattle.sheet.specs.Put.{Put}
use Rattle.sheet.proofs.Puts.{amount-most, put-part, put_byte, put-length}
use Rattle.sheet.proofs.text.put_sum.Goals as goal

pub overflow_add-end : goal.overflow_add-end
overflow_add-end c =
    let text : List ℕ = amount_text c.args.cents in
    let short : length text ≤ 21 = amount-most c.args.cents c.ranges.cents in
    let at : ℕ = c.args.at in
    let buffer : List ℕ = c.args.out.now in
    let put : Put text at (at + c.write_amount.result) buffer
    (take at buffer ++ (c.write_amount.new.buffer ++ drop (length buffer - at) (drop at buffer))) = (let e = simp (signed, c.ranges.cents) at c.write_amount.ensures in
    put-part text buffer _ at _ (omega (arith, short, c.requires)) e.value e.buffer_after) in
    omega (arith, short, (put).ends)

pub bounds-out-end : goal.bounds-out-end
bounds-out-end c =
    let text : List ℕ = amount_text c.args.cents in
    let short : length text ≤ 21 = amount-most c.args.cents c.ranges.cents in
    let at : ℕ = c.args.at in
    let buffer : List ℕ = c.args.out.now in
    let put : Put text at (at + c.write_amount.result) buffer
    (take at buffer ++ (c.write_amount.new.buffer ++ drop (length buffer - at) (drop at buffer))) = (let e = simp (signed, c.ranges.cents) at c.write_amount.ensures in
    put-part text buffer _ at _ (omega (arith, short, c.requires)) e.value e.buffer_after) in
    omega (arith, short, (put).ends, put-length (omega (arith, short)) (put))

pub overflow_add-result : goal.overflow_add-result
overflow_add-result c =
    let text : List ℕ = amount_text c.args.cents in
    let short : length text ≤ 21 = amount-most c.args.cents c.ranges.cents in
    let at : ℕ = c.args.at in
    let buffer : List ℕ = c.args.out.now in
    let put : Put text at (at + c.write_amount.result) buffer
    (take at buffer ++ (c.write_amount.new.buffer ++ drop (length buffer - at) (drop at buffer))) = (let e = simp (signed, c.ranges.cents) at c.write_amount.ensures in
    put-part text buffer _ at _ (omega (arith, short, c.requires)) e.value e.buffer_after) in
    omega (arith, short, (put).ends)

pub returns : goal.returns
returns c =
    let text : List ℕ = amount_text c.args.cents in
    let at : ℕ = c.args.at in
    let buffer : List ℕ = c.args.out.now in
    let short : length text ≤ 21 = amount-most c.args.cents c.ranges.cents in
    let put : Put text at (at + c.write_amount.result) buffer
    (take at buffer ++ (c.write_amount.new.buffer ++ drop (length buffer - at) (drop at buffer))) = (let e = simp (signed, c.ranges.cents) at c.write_amount.ensures in
    put-part text buffer _ at _ (omega (arith, short, c.requires)) e.value e.buffer_after) in
    put_byte (text) (at) _ 44 (buffer) _ (omega (arith, short)) (put)
