-- `amount::put_size` meets its contract. Assumes nothing.
use native.Mathlib.Omega.{arith}
use lib.ListN.{length-set}
use Rattle.amount.proofs.Texts.{length-size, put-size}
use Rattle.amount.proofs.put_size.Goals as goal

pub put_decimal-end-requires : goal.put_decimal-end-requires
put_decimal-end-requires c = omega (arith, length-size c.args.size)

pub bounds-buffer-end : goal.bounds-buffer-end
bounds-buffer-end c = omega (arith, length-size c.args.size, c.put_decimal-end.auto.buffer)

pub overflow_add-buffer-2 : goal.overflow_add-buffer-2
overflow_add-buffer-2 c = omega (arith, length-size c.args.size)

pub bounds-buffer-end-2 : goal.bounds-buffer-end-2
bounds-buffer-end-2 c = simp length-set (omega (arith, length-size c.args.size, c.put_decimal-end.auto.buffer))

pub overflow_add-buffer-4 : goal.overflow_add-buffer-4
overflow_add-buffer-4 c = omega (arith, length-size c.args.size)

pub bounds-buffer-end-3 : goal.bounds-buffer-end-3
bounds-buffer-end-3 c = simp length-set (omega (arith, length-size c.args.size, c.put_decimal-end.auto.buffer))

pub overflow_add-result : goal.overflow_add-result
overflow_add-result c = omega (arith, length-size c.args.size)

pub returns : goal.returns
returns c =
    let r = c.put_decimal-end.ensures in
    record {
      value = omega (arith, length-size c.args.size);
      buffer_after = put-size c.args.at c.args.size c.args.buffer.now _ _ c.requires r.buffer_after r.value;
    }
