-- `pricing::rounding::nearest` meets its contract. Assumes nothing.
use mathlib.Core.Path.{refl}
use Rattle.pricing.specs.Rounding.{nearest}
use Rattle.pricing.proofs.rounding.nearest.Goals as goal

pub returns : goal.returns
unfolding nearest
returns c = refl
