-- `routes::limit_from` meets its contract. Assumes nothing.
use mathlib.Core.Path.{◌≡◌, ◌∙◌}
use mathlib.Core.Bool.{true}
use mathlib.Core.List.{List}
use Prim.Native.Nat.{ℕ, ◌+◌, ◌-◌, ◌*◌}
use native.Mathlib.Omega.{arith}
use lib.ListN.{get_or, set}
use mir.Syntax.{w64}
use mir.Val.{to_z, of_z}
use mir.Facts.{to_z-of_z}
use Rattle.routes.specs.Limits.{own}
use Rattle.routes.proofs.Limits.{limit-end, limit-step, turn-seen, turn-none, turn-over, tightest-none}
use Rattle.routes.proofs.Sizes.{search-small, step-linked}
use Rattle.routes.proofs.+limit_from.Goals as goal
use Rattle.routes.proofs.+limit_from.Goals.{then-not-marked-y+then-factor-ne0, then-not-marked-y+else-factor-ne0, else-not-marked-y}

abbrev power : List ℕ → ℕ → ℕ → ℕ
power powers x y = get_or powers (8 * x + y) 0

pub returns-then-left-eq0 : goal.returns-then-left-eq0
returns-then-left-eq0 t c =
    let a = c.args in
    c.own-best.ensures ∙ rw (to_z-of_z c.ranges.bound) (limit-end a.caps (power a.powers.now) (own a.hits a.bound) a.regions a.left a.seen a.x c.if-left-eq0.true)

pub loop-y-init : goal.loop-y-init
loop-y-init t c = (omega arith, tightest-none _ _ _)

pub over-requires : goal.over-requires
over-requires t c =
    let a = c.args in
    let y = c.loop-y.y in
    let e = simp (to_z-of_z c.ranges.bound) at c.limit_from-found.ensures in
    rw (e, c.step-factor.ensures) (
      search-small a.caps (power a.powers.now) a.hits a.bound a.regions c.requires.linked c.requires.small _ _ _ (omega (arith, c.requires.few)) (omega arith),
      step-linked a.caps (power a.powers.now) a.regions c.requires.linked a.x y c.requires.here (omega arith),
    )

pub loop-y-preserved : goal.loop-y-preserved
loop-y-preserved t c =
    let a = c.args in
    let l = c.loop-y in
    let o = own a.hits (to_z w64 (of_z w64 a.bound)) in
    let m = set a.seen a.x true in
    let b = c.own-best.result in (
      omega arith,
      elim c.if-not-marked-y.branch [
        | then-not-marked-y+then-factor-ne0 w ↦ w.best-is ∙ w.tighter-best.ensures ∙ turn-over a.caps (power a.powers.now) o a.regions (a.left - 1) m a.x l.y b l.invariant.1 w.if-not-marked-y.true w.step-factor.ensures w.limit_from-found.ensures w.over.ensures
        | then-not-marked-y+else-factor-ne0 w ↦ w.best-is ∙ turn-none a.caps (power a.powers.now) o a.regions (a.left - 1) m a.x l.y b l.invariant.1 w.if-not-marked-y.true w.step-factor.ensures w.if-factor-ne0.false
        | else-not-marked-y w ↦ w.best-is ∙ turn-seen a.caps (power a.powers.now) o a.regions (a.left - 1) m a.x l.y b l.invariant.1 w.if-not-marked-y.false
      ],
    )

pub returns : goal.returns
returns t c =
    let a = c.args in
    let l = c.loop-y in
    let e : l.y ≡ a.regions = omega arith in
    let i = simp (to_z-of_z c.ranges.bound, e, c.own-best.ensures) at l.invariant.1 in
    i ∙ limit-step a.caps (power a.powers.now) (own a.hits a.bound) a.regions a.left a.seen a.x c.if-left-eq0.false
