-- `routes::LinkFlows::extra_of` meets its contract: where there is no link no region is its end, and else its flow and factor are there. Assumes nothing.
use mathlib.Core.Path.{◌≡◌, refl, sym}
use mathlib.Core.Bool.{Bool, true, false, ◌&&◌, ◌||◌}
use mathlib.Core.List.{List}
use Prim.Native.Nat.{ℕ, ◌<◌}
use native.Mathlib.Omega.{arith}
use borrow.Author.Rules.{rules}
use borrow.Author.Tests.{ne_eqb}
use lib.Dec.{eqb}
use lib.IntN.{ℤ, pos}
use lib.Signed.{lt_z}
use mir.Syntax.{w32}
use mir.Val.{SFits}
use mir.Facts.{to_z-of_z}
use Rattle.laws.specs.Base.{pick}
use Rattle.routes.specs.declared.Network.{Network}
use Rattle.routes.specs.Links.{last_flow, extra_of}
use Rattle.routes.proofs.LinkFlows.extra_of.Goals as goal

-- no region is an end where there is no link
none_of : (n : Network) (flows : List ℤ) (factors : List ℕ) (x y : ℕ) → x < 255 → y < 255 → n.from ≡ 255 → extra_of n flows factors x y ≡ 0
unfolding extra_of
none_of n flows factors x y h k e =
    let p : n.from ≡ x → ⊥ = λ q. omega arith in
    let r : n.from ≡ y → ⊥ = λ q. omega arith in
    rw (ne_eqb n.from x p, ne_eqb n.from y r)

-- the two tests
abbrev goes_there : Network → List ℤ → ℕ → ℕ → Bool
goes_there n flows x y = eqb n.from x && eqb n.to y && lt_z (pos 0) (last_flow n flows)

abbrev goes_back : Network → List ℤ → ℕ → ℕ → Bool
goes_back n flows x y = eqb n.from y && eqb n.to x && lt_z (last_flow n flows) (pos 0)

-- they have one factor
either : (t u : Bool) (f : ℕ) → pick (t || u) f 0 ≡ pick t f (pick u f 0)
either true u f = refl
either false true f = refl
either false false f = refl

pub returns-then-network-eq255 : goal.returns-then-network-eq255
returns-then-network-eq255 c =
    let i = c.self.inside in
    let few = c.self.invariant.0.few in
    let r = rw (← c.self.view_is) at c.requires in
    rw (← c.self.view_is)
    (sym (none_of i.network i.flows.now i.factors.now c.args.x c.args.y (omega arith) (omega arith) c.if-network-eq255.true))

pub returns-then-there-back : goal.returns-then-there-back
unfolding extra_of
returns-then-there-back c =
    let i = c.self.inside in
    let f : SFits w32 (last_flow i.network i.flows.now) = search rules in
    let test : (goes_there i.network i.flows.now c.args.x c.args.y || goes_back i.network i.flows.now c.args.x c.args.y) ≡ true = simp (to_z-of_z f) at c.if-there-back.true in
    rw (← c.self.view_is, ← either, test) refl

pub returns-else-there-back : goal.returns-else-there-back
unfolding extra_of
returns-else-there-back c =
    let i = c.self.inside in
    let f : SFits w32 (last_flow i.network i.flows.now) = search rules in
    let test : (goes_there i.network i.flows.now c.args.x c.args.y || goes_back i.network i.flows.now c.args.x c.args.y) ≡ false = simp (to_z-of_z f) at c.if-there-back.false in
    rw (← c.self.view_is, ← either, test) refl
