-- `amount::write_amount` meets its contract. Assumes nothing.
use mathlib.Core.Path.{◌≡◌, sym, ap, ◌∙◌}
use mathlib.Core.List.{◌∷◌}
use Prim.Native.Nat.{ℕ, ◌<◌, ◌/◌}
use native.Mathlib.Omega.{arith}
use lib.ListN.{length, length-set}
use Rattle.amount.specs.Text.{size_text, amount_text}
use Rattle.laws.proofs.Integers.{signed}
use Rattle.amount.proofs.Texts.{length-decimal, length-size, amount-below, amount-above, no_room, room, put-below}
use Rattle.amount.proofs.write_amount.Goals as goal

pub overflow_add-count : goal.overflow_add-count
overflow_add-count c = omega (arith, length-decimal (c.unsigned_abs-size.result / 100))

pub returns-then-buffer-count : goal.returns-then-buffer-count
returns-then-buffer-count c =
    let text-below : amount_text c.args.cents ≡ 45 ∷ size_text c.unsigned_abs-size.result = (amount-below c.args.cents (simp (signed, c.ranges.cents) at c.if-cents-lt0.true)
    ∙ ap (λ (n : ℕ). 45 ∷ size_text n) (sym (simp (signed, c.ranges.cents) at c.unsigned_abs-size.ensures.value))) in
    let n = no_room (45 ∷ size_text c.unsigned_abs-size.result) c.args.buffer.now (omega (arith, length-size c.unsigned_abs-size.result)) in
    rw text-below record { value = n.0; buffer_after = n.1 }

pub put_size-requires : goal.put_size-requires
put_size-requires c = simp length-set (omega (arith, length-size c.unsigned_abs-size.result))

pub returns-then-buffer-count-2 : goal.returns-then-buffer-count-2
returns-then-buffer-count-2 c =
    let text-above : amount_text c.args.cents ≡ size_text c.unsigned_abs-size.result = (amount-above c.args.cents (simp (signed, c.ranges.cents) at c.if-cents-lt0.false)
    ∙ ap (λ (n : ℕ). size_text n) (sym (simp (signed, c.ranges.cents) at c.unsigned_abs-size.ensures.value))) in
    let n = no_room (size_text c.unsigned_abs-size.result) c.args.buffer.now (omega (arith, length-size c.unsigned_abs-size.result)) in
    rw text-above record { value = n.0; buffer_after = n.1 }

pub put_size-requires-else-cents-lt0 : goal.put_size-requires-else-cents-lt0
put_size-requires-else-cents-lt0 c = omega (arith, length-size c.unsigned_abs-size.result)

pub returns-else-buffer-count : goal.returns-else-buffer-count
returns-else-buffer-count c =
    let text-below : amount_text c.args.cents ≡ 45 ∷ size_text c.unsigned_abs-size.result = (amount-below c.args.cents (simp (signed, c.ranges.cents) at c.if-cents-lt0.true)
    ∙ ap (λ (n : ℕ). 45 ∷ size_text n) (sym (simp (signed, c.ranges.cents) at c.unsigned_abs-size.ensures.value))) in
    let r = c.put_size.ensures in
    let b = c.args.buffer.now in
    let t = size_text c.unsigned_abs-size.result in
    let h : 0 < length b = omega arith in
    let n = room (45 ∷ t) b _ _ (omega (arith, length-size c.unsigned_abs-size.result)) (omega (arith, r.value)) (r.buffer_after ∙ put-below t b h) in
    rw text-below record { value = n.0; buffer_after = n.1 }

pub returns-else-buffer-count-2 : goal.returns-else-buffer-count-2
returns-else-buffer-count-2 c =
    let text-above : amount_text c.args.cents ≡ size_text c.unsigned_abs-size.result = (amount-above c.args.cents (simp (signed, c.ranges.cents) at c.if-cents-lt0.false)
    ∙ ap (λ (n : ℕ). size_text n) (sym (simp (signed, c.ranges.cents) at c.unsigned_abs-size.ensures.value))) in
    let r = c.put_size-else-cents-lt0.ensures in
    let b = c.args.buffer.now in
    let t = size_text c.unsigned_abs-size.result in
    let n = room t b _ _ (omega (arith, length-size c.unsigned_abs-size.result)) (omega (arith, r.value)) r.buffer_after in
    rw text-above record { value = n.0; buffer_after = n.1 }
