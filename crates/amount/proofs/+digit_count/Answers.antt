-- `amount::digit_count`, which calls itself, meets its contract. Assumes nothing.
use Prim.Native.Nat.{◌<◌, ◌≤◌, ◌/◌}
use native.Mathlib.Omega.{arith}
use lib.ListN.{length-append}
use Rattle.amount.proofs.Texts.{decimal-small, decimal_step, length-decimal}
use Rattle.amount.proofs.+digit_count.Goals as goal

pub overflow_add-result : goal.overflow_add-result
overflow_add-result t c = omega (arith, length-decimal (c.args.n / 10))

pub returns-then-n-lt10 : goal.returns-then-n-lt10
returns-then-n-lt10 t c = let h : c.args.n < 10 = omega arith in rw (decimal-small _ h)

pub returns-else-n-lt10 : goal.returns-else-n-lt10
returns-else-n-lt10 t c = let h : 10 ≤ c.args.n = omega arith in rw decimal_step (simp length-append (omega arith))
