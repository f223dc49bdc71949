-- The proof of what specs/Promise says: of the limit that publishing holds a region's energy to, then of every accepted entry. Assumes nothing.
use Rattle.std.specs.Prelude.{Option, Some, None}
use mathlib.Core.Path.{◌≡◌, refl, sym, ap, ◌∙◌, subst}
use mathlib.Core.Bool.{Bool, true, false}
use mathlib.Core.List.{List}
use Prim.Native.Nat.{ℕ, ◌≤◌, ◌<◌}
use native.Mathlib.Omega.{arith}
use lib.IntN.{ℤ}
use lib.ListN.{length}
use Rattle.laws.specs.Base.{pick}
use Rattle.pricing.specs.Carrying as Carrying
use Rattle.pricing.specs.Passing.{fine, cents}
use Rattle.pricing.proofs.Passings.{cents-mono}
use Rattle.routes.specs.Links.{power_of}
use Rattle.std.proofs.lemmas.Option.{none-some, same_Some}
use Rattle.publishing.specs.declared.Terms.{Terms}
use Rattle.publishing.specs.Entry.{Entry, TermsOk, LinksOk, network_of}
use Rattle.publishing.specs.Bounds.{has_limit, in_cents, limit}
use Rattle.publishing.proofs.Limits.{source, limit_by, in-cents-at, linked}
use Rattle.book.proofs.Validities.{valid-is}
use Rattle.entries.specs.Entering.{terms_of}
use Rattle.entries.proofs.Accepted.{accepted-entry, terms-ok, links-ok}
use Rattle.closeness.specs.Exact.{Close}
use Rattle.closeness.specs.Coming.{source_of, links_of, Brings, brought, no_looser, PassedOn}
use Rattle.closeness.specs.Promise.{Promise}
use Rattle.closeness.proofs.Errors.{passed-close}
use Rattle.closeness.proofs.Routes.{factors-many, factors-powered, came_from, no-looser}

-- a source has a limit of its own, which is the book's
own_is : (t : Bool) {x y : ℤ} → pick t (Some x) None ≡ Some y → (t ≡ true) × (y ≡ x)
own_is true e = (refl, sym (same_Some _ _ e))
own_is false e = absurd (none-some _ e)

-- the last step keeps what is no looser
cents-no-looser : (caps : Bool) (x y : ℤ) → no_looser caps x y ≡ true → no_looser caps (cents x) (cents y) ≡ true
cents-no-looser true x y h = cents-mono x y h
cents-no-looser false x y h = cents-mono y x h

module _ (caps : Bool) (t : Terms) (ok : TermsOk t) (marks : List ℕ) (e : Entry) (links : LinksOk t e.flows e.factors)
    (region : ℕ) (here : region < t.regions) where
  abbrev power : ℕ → ℕ → ℕ
  power = power_of (network_of t) e.flows e.factors

  abbrev units : Option ℤ
  units = limit_by caps t e.flows e.factors (has_limit caps t marks e.offer) region

  -- a route that brings a limit: there is a limit, and it is no looser
  against : (r : List ℕ) → Brings caps t marks e region r
      → (q : ℤ) × (limit caps t marks e region ≡ Some q) × (no_looser caps q (brought caps t e region r) ≡ true)
  unfolding limit in_cents
  against r b =
      let own : Option ℤ = Some (fine (source caps t)) in
      let has : pick (has_limit caps t marks e.offer (source_of region r)) own None ≡ own = ap (λ (h : Bool). pick h own None) b.source in
      let w = no-looser caps power _ t.regions ok.regions.1 region here r b.simple has b.powered in
      (cents w.0, ap in_cents w.1, cents-no-looser caps w.0 _ w.2)

  pub passed_on : {q : ℤ} → limit caps t marks e region ≡ Some q → PassedOn caps t marks e region q
  unfolding limit
  passed_on {q} h =
      let w = in-cents-at units h in
      let c = came_from caps power _ t.regions ok.regions.1 region here (linked t ok e.flows e.factors links) w.1 in
      let o = own_is (has_limit caps t marks e.offer (source_of region c.0)) c.3.from in
      let l = links_of caps t e region c.0 in
      let few : length l ≤ 7 = omega (arith, factors-many caps power region c.0, c.2, ok.regions.1) in
      let p : q ≡ brought caps t e region c.0 = w.2 ∙ ap cents (c.3.is ∙ ap (Carrying.along caps l) o.1) in
      record {
        route = c.0;
        brings = record { simple = c.1; source = o.0; powered = factors-powered l c.3.factors };
        is = p;
        close = subst (Close caps l (source caps t)) (sym p) (passed-close caps l (source caps t) c.3.factors few);
        tightest = λ other b.
            let v = against other b in
            subst (λ (z : ℤ). no_looser caps z (brought caps t e region other) ≡ true) (same_Some _ _ (sym v.1 ∙ h)) v.2;
      }

  -- where no limit holds the prices, no route brings one
  pub unbound : limit caps t marks e region ≡ None → (r : List ℕ) → Brings caps t marks e region r → ⊥
  unbound h r b = let v = against r b in none-some _ (sym h ∙ v.1)

-- of every entry that a book accepts
pub promise : Promise
promise b ring number e table eight h caps region here =
    let a = accepted-entry b ring number e table h in
    let t = terms-ok b (valid-is b a.valid) in
    let l = links-ok b ring number e table a eight in
    record {
      bound = λ q i. passed_on caps (terms_of b) t b.marks e l region here i;
      unbound = unbound caps (terms_of b) t b.marks e l region here;
    }
