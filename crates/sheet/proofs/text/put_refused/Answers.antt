-- `sheet::text::put_refused` meets its contract. Assumes nothing.
use native.Mathlib.Omega.{arith}
use Rattle.sheet.specs.Sheet.{refused_text}
use Rattle.sheet.proofs.Puts.{decimal-most, put_then}
use Rattle.sheet.proofs.text.put_refused.Goals as goal

pub put_number-requires : goal.put_number-requires
put_number-requires c =
    let p = c.put_text-at in
    omega (arith, c.put_text-at.ensures.ends, c.put_text-at.auto.out, decimal-most 9 c.args.number (omega (arith, c.ranges.number)))

pub returns : goal.returns
unfolding refused_text
returns c = put_then (omega arith) c.put_text-at.ensures c.put_number.ensures
