-- `codec::get_u32` meets its contract. Assumes nothing.
use native.Mathlib.Omega.{arith}
use Rattle.laws.proofs.Bytes.{number-below}
use Rattle.codec.proofs.get_u32.Goals as goal

pub overflow_cast-result : goal.overflow_cast-result
overflow_cast-result c =
    omega (arith, c.get.ensures, number-below c.args.bytes.now (λ i. omega (arith, c.type_inv.bytes i)) c.args.at 4 (omega arith))
