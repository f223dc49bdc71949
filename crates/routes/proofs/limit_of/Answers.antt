-- `routes::limit_of` meets its contract: the search finds the limit over every route. Assumes nothing.
use mathlib.Core.Path.{◌∙◌}
use Prim.Native.Nat.{◌+◌, ◌*◌}
use lib.ListN.{get_or}
use mir.Facts.{to_z-of_z}
use Rattle.routes.specs.Limits.{own}
use Rattle.routes.proofs.Routes.{limit-routes}
use Rattle.routes.proofs.limit_of.Goals as goal

pub returns : goal.returns
returns c =
    let a = c.args in
    let e = simp (to_z-of_z c.ranges.bound) at c.limit_from.ensures in
    e ∙ limit-routes a.caps (λ x y. get_or a.powers.now (8 * x + y) 0) (own a.hits a.bound) a.regions a.x
