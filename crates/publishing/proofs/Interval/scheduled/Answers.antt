-- `publishing::Interval::scheduled` meets its contract: the place is in the schedule, and what stands there is held. Assumes nothing.
use borrow.Author.Rules.{rules}
use Prim.Native.Nat.{◌<◌}
use mathlib.Core.Path.{◌≡◌}
use mathlib.Core.Bool.{true, false}
use native.Mathlib.Omega.{arith}
use lib.IntN.{pos}
use lib.ListN.{length, get_or}
use mir.Syntax.{w32}
use mir.Val.{SFits}
use mir.Facts.{to_z-of_z}
use Rattle.pricing.specs.Holding.{held}
use Rattle.publishing.specs.Entry.{schedule_place}
use Rattle.publishing.specs.Effective.{scheduled}
use Rattle.publishing.proofs.Limits.{source_fits}
use Rattle.publishing.proofs.Places.{schedule-in, schedule-small}
use Rattle.publishing.proofs.Interval.scheduled.Goals as goal

pub overflow_mul-at-3 : goal.overflow_mul-at-3
overflow_mul-at-3 c =
    let r = rw (← c.self.view_is) at c.requires in
    let p = c.self.invariant in
    omega (arith, schedule-small c.self.inside.terms p.0 c.args.region c.args.market r.0 r.1 c.self.inside.kind p.1.kind)

pub overflow_add-at-3 : goal.overflow_add-at-3
overflow_add-at-3 c =
    let r = rw (← c.self.view_is) at c.requires in
    let p = c.self.invariant in
    omega (arith, schedule-small c.self.inside.terms p.0 c.args.region c.args.market r.0 r.1 c.self.inside.kind p.1.kind)

pub offset_bounds-self-inside-at : goal.offset_bounds-self-inside-at
offset_bounds-self-inside-at c =
    let r = rw (← c.self.view_is) at c.requires in
    let p = c.self.invariant in
    let i = c.self.inside in
    let place : schedule_place i.terms i.kind c.args.region c.args.market < length i.schedule.now =
    rw p.1.schedule (schedule-in i.terms p.0 c.args.region c.args.market r.0 r.1 i.kind p.1.kind) in
    omega (arith, place)

pub bounds-self-inside-at : goal.bounds-self-inside-at
bounds-self-inside-at c =
    let r = rw (← c.self.view_is) at c.requires in
    let p = c.self.invariant in
    let i = c.self.inside in
    let place : schedule_place i.terms i.kind c.args.region c.args.market < length i.schedule.now =
    rw p.1.schedule (schedule-in i.terms p.0 c.args.region c.args.market r.0 r.1 i.kind p.1.kind) in
    omega (arith, place)

pub returns : goal.returns
unfolding scheduled
returns c =
    let r = c.lowest-low in
    let a = c.args in
    let i = c.self.inside in
    let f : SFits w32 c.lowest-low.result = search rules in
    let g = source_fits i.terms c.self.invariant.0 true in
    let h = source_fits i.terms c.self.invariant.0 false in
    let s : SFits w32 (get_or i.schedule.now (schedule_place i.terms i.kind a.region a.market) (pos 0)) = search rules in
    let q : SFits w32 c.held.result = search rules in
    let e : c.held.result ≡ held (get_or i.schedule.now (schedule_place i.terms i.kind a.region a.market) (pos 0)) c.lowest-low.result i.terms.cap =
    simp (to_z-of_z f, to_z-of_z g, to_z-of_z s) at c.held.ensures in
    let d = simp (to_z-of_z h) at c.lowest-low.ensures in
    rw (to_z-of_z q, ← c.self.view_is) (rw d at e)
