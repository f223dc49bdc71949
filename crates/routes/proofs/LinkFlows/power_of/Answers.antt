-- `routes::LinkFlows::power_of` meets its contract. Assumes nothing.
use Rattle.laws.proofs.Lists.{get_or-any}
use borrow.Author.Rules.{rules}
use native.Mathlib.Omega.{arith}
use lib.Dec.{eqb}
use lib.IntN.{ℤ, pos}
use lib.Signed.{lt_z}
use mathlib.Core.Path.{◌≡◌}
use mathlib.Core.Bool.{Bool, true, false, ◌&&◌}
use mathlib.Core.List.{List}
use Prim.Native.Nat.{ℕ}
use lib.ListN.{length, get_or}
use mir.Syntax.{w32}
use mir.Val.{SFits}
use mir.Facts.{to_z-of_z}
use Rattle.routes.specs.Links.{power_of}
use Rattle.routes.proofs.LinkFlows.power_of.Goals as goal

-- the two tests, of parents that are all there
abbrev goes_up : List ℕ → List ℤ → ℕ → ℕ → Bool
goes_up parents flows x y = eqb (get_or parents x 0) y && lt_z (pos 0) (get_or flows x (pos 0))

abbrev goes_down : List ℕ → List ℤ → ℕ → ℕ → Bool
goes_down parents flows x y = eqb (get_or parents y 0) x && lt_z (get_or flows y (pos 0)) (pos 0)

pub returns-then-up : goal.returns-then-up
unfolding power_of
returns-then-up c =
    let s = c.args in
    let i = c.self.inside in
    let r = rw (← c.self.view_is) at c.requires in
    let f : SFits w32 (get_or i.flows.now s.x (pos 0)) = search rules in
    let g : SFits w32 (get_or i.flows.now s.y (pos 0)) = search rules in
    let n : length i.network.parents ≡ 8 = c.self.invariant.1 in
    let up : goes_up i.network.parents i.flows.now s.x s.y ≡ true = simp (to_z-of_z f, to_z-of_z g) at c.if-up.true in
    rw (← c.self.view_is, get_or-any i.network.parents s.x 255 0 (omega (arith, r, c.self.invariant.0.few)), get_or-any i.network.parents s.y 255 0 (omega (arith, r, c.self.invariant.0.few)), up)

pub returns-then-down : goal.returns-then-down
unfolding power_of
returns-then-down c =
    let s = c.args in
    let i = c.self.inside in
    let r = rw (← c.self.view_is) at c.requires in
    let f : SFits w32 (get_or i.flows.now s.x (pos 0)) = search rules in
    let g : SFits w32 (get_or i.flows.now s.y (pos 0)) = search rules in
    let n : length i.network.parents ≡ 8 = c.self.invariant.1 in
    let up : goes_up i.network.parents i.flows.now s.x s.y ≡ false = simp (to_z-of_z f, to_z-of_z g) at c.if-up.false in
    let down : goes_down i.network.parents i.flows.now s.x s.y ≡ true = simp (to_z-of_z f, to_z-of_z g) at c.if-down.true in
    rw (← c.self.view_is, get_or-any i.network.parents s.x 255 0 (omega (arith, r, c.self.invariant.0.few)), get_or-any i.network.parents s.y 255 0 (omega (arith, r, c.self.invariant.0.few)), up, down)

pub returns-else-down : goal.returns-else-down
unfolding power_of
returns-else-down c =
    let s = c.args in
    let i = c.self.inside in
    let r = rw (← c.self.view_is) at c.requires in
    let f : SFits w32 (get_or i.flows.now s.x (pos 0)) = search rules in
    let g : SFits w32 (get_or i.flows.now s.y (pos 0)) = search rules in
    let n : length i.network.parents ≡ 8 = c.self.invariant.1 in
    let up : goes_up i.network.parents i.flows.now s.x s.y ≡ false = simp (to_z-of_z f, to_z-of_z g) at c.if-up.false in
    let down : goes_down i.network.parents i.flows.now s.x s.y ≡ false = simp (to_z-of_z f, to_z-of_z g) at c.if-down.false in
    rw (← c.self.view_is, get_or-any i.network.parents s.x 255 0 (omega (arith, r, c.self.invariant.0.few)), get_or-any i.network.parents s.y 255 0 (omega (arith, r, c.self.invariant.0.few)), up, down) (rw (← c.self.view_is) at c.extra_of.ensures)
