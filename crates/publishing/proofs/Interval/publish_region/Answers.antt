-- `publishing::Interval::publish_region` meets its contract. The loop's invariant: what is still to be stored makes the table the same
-- at every turn, and the count is that of the markets passed. Assumes nothing.
use borrow.Author.Rules.{rules}
use mathlib.Core.Path.{◌≡◌, refl, ◌∙◌}
use mathlib.Core.Bool.{Bool, true, false, not}
use lib.Dec.{eqb}
use mathlib.Core.List.{List}
use Prim.Native.Nat.{ℕ, ◌+◌}
use native.Mathlib.Omega.{arith}
use Rattle.std.specs.Prelude.{ℤ, Option}
use lib.ListN.{length-set}
use mir.Syntax.{w32}
use mir.Val.{SFits, of_z, bool_byte}
use mir.Facts.{to_z-of_z}
use Rattle.laws.specs.Lists.{count_below}
use Rattle.laws.proofs.Lists.{run_none, run_step, run-done, count_below-none, count_below-step}
use Rattle.publishing.specs.declared.Terms.{Terms}
use Rattle.publishing.specs.Entry.{Offer, offer_of}
use Rattle.publishing.specs.Effective.{effective}
use Rattle.publishing.specs.Capped.{administered, any_administered}
use Rattle.publishing.specs.Working.{published_by, region_price, region_changed}
use Rattle.publishing.proofs.Limits.{source_fits}
use Rattle.publishing.proofs.Places.{count_fits}
use Rattle.publishing.proofs.Changes.{changed_is}
use Rattle.publishing.proofs.Interval.publish_region.Goals as goal

module _ (t : Terms) (marks : List ℕ) (o : Offer) (region : ℕ) (top bottom : Option ℤ) (m : ℕ) {was price : ℤ} (w : was ≡ effective t o region m) where
  -- what a turn finds is the price
  found : {energy any : Bool} → energy ≡ administered marks region 0 → any ≡ any_administered t marks region → price ≡ published_by energy any t.floor t.cap top bottom m was
      → price ≡ region_price t marks o top bottom region m
  found e a p = rw (e, a, w) at p

  -- and what it counts
  counted : {count one : ℕ} → SFits w32 was → SFits w32 price → price ≡ region_price t marks o top bottom region m
      → count ≡ count_below m (region_changed t marks o top bottom region) → one ≡ bool_byte (not (eqb (of_z w32 price) (of_z w32 was)))
      → count + one ≡ count_below (m + 1) (region_changed t marks o top bottom region)
  counted f g p n e = count_below-step m _ n (rw (p, w) at (e ∙ changed_is g f))

pub loop-m-init : goal.loop-m-init
loop-m-init c = (omega arith, refl, run_none _ _ _ _, count_below-none _)

pub overflow_add-count : goal.overflow_add-count
overflow_add-count c =
    let i = c.self.inside in
    let o = offer_of i.kind i.prices.now i.marked.now i.schedule.now in
    let a = c.args in
    let f = source_fits i.terms c.self.invariant.0 false in
    let g = source_fits i.terms c.self.invariant.0 true in
    let w : SFits w32 c.effective-was.result = search rules in
    let q : SFits w32 c.published-price.result = search rules in
    let loop = rw (← c.self.view_is) at c.loop-m.invariant in
    let any = rw (← c.self.view_is) at c.any_administered-any.ensures in
    let was = rw (← c.self.view_is) at c.effective-was.ensures in
    let price : c.published-price.result ≡ region_price i.terms i.marks.now o a.top a.bottom a.region c.loop-m.m =
    found i.terms i.marks.now o a.region a.top a.bottom _ was c.administered-energy.ensures any (simp (to_z-of_z f, to_z-of_z g, to_z-of_z w) at c.published-price.ensures) in
    let more = counted i.terms i.marks.now o a.region a.top a.bottom c.loop-m.m was w q price loop.3 c.from-count.ensures in
    count_fits _ more (omega (arith, c.self.invariant.0.markets.1))

pub loop-m-preserved : goal.loop-m-preserved
loop-m-preserved c =
    let i = c.self.inside in
    let o = offer_of i.kind i.prices.now i.marked.now i.schedule.now in
    let a = c.args in
    let f = source_fits i.terms c.self.invariant.0 false in
    let g = source_fits i.terms c.self.invariant.0 true in
    let w : SFits w32 c.effective-was.result = search rules in
    let q : SFits w32 c.published-price.result = search rules in
    let loop = rw (← c.self.view_is) at c.loop-m.invariant in
    let any = rw (← c.self.view_is) at c.any_administered-any.ensures in
    let was = rw (← c.self.view_is) at c.effective-was.ensures in
    let price : c.published-price.result ≡ region_price i.terms i.marks.now o a.top a.bottom a.region c.loop-m.m =
    found i.terms i.marks.now o a.region a.top a.bottom _ was c.administered-energy.ensures any (simp (to_z-of_z f, to_z-of_z g, to_z-of_z w) at c.published-price.ensures) in
    let more = counted i.terms i.marks.now o a.region a.top a.bottom c.loop-m.m was w q price loop.3 c.from-count.ensures in
    rw (← c.self.view_is) (
      omega arith,
      simp length-set (omega arith),
      run_step _ _ _ _ _ _ _ (omega arith) (to_z-of_z q ∙ price) loop.2,
      more,
    )

pub returns : goal.returns
returns c =
    let e : c.loop-m.m ≡ c.self.inside.terms.markets = omega arith in
    let loop = rw (← c.self.view_is) at c.loop-m.invariant in
    rw (← c.self.view_is) (record { value = loop.3 ∙ rw e; table_after = run-done _ _ _ _ _ _ (omega arith) loop.2 })
