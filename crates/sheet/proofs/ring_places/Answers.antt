-- `sheet::ring_places` meets its contract: it reads bytes 6 to 9. Assumes nothing.
use mathlib.Core.Path.{◌∙◌}
use native.Mathlib.Omega.{arith}
use Rattle.laws.proofs.Bytes.{number-one, number-below}
use Rattle.sheet.proofs.Loads.{ring-is}
use Rattle.sheet.proofs.ring_places.Goals as goal

pub overflow_cast-window : goal.overflow_cast-window
overflow_cast-window c =
    omega (arith, c.get-window.ensures, number-below c.args.bytes.now (λ i. (c.type_inv.bytes i).fits) 8 2 (omega arith))

pub returns : goal.returns
returns c =
    let l = c.args.bytes.now in
    c.ring_size.ensures
    ∙ rw (c.get-window.ensures, ring-is l, number-one l 6 (omega (arith, c.requires)), number-one l 7 (omega (arith, c.requires)))
