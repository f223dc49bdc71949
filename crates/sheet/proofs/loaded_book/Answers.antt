-- `sheet::loaded_book` meets its contract. Assumes nothing.
use mathlib.Core.Path.{◌≡◌, ◌∙◌}
use native.Mathlib.Omega.{arith}
use lib.ListN.{length, take}
use lib.Seq.{length-take-le}
use Rattle.sheet.proofs.Loads.{book-is}
use Rattle.sheet.proofs.loaded_book.Goals as goal

pub returns : goal.returns
returns c =
    let part : length (take c.args.size c.zeros-ring.result) ≡ c.args.size = (length-take-le c.args.size c.zeros-ring.result (omega (arith, c.zeros-ring.ensures, c.requires))) in
    book-is c.args.bytes.now c.requires.0 c.load-loaded.result _ _ (part ∙ c.requires.1) c.load-loaded.ensures
