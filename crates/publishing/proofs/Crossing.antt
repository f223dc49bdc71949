-- A cap limit and a floor limit never cross: the one is never below 0 and the other always, so the order in which they bind does not matter.
-- Assumes nothing.
use Rattle.std.specs.Prelude.{Option, Some, None}
use mathlib.Core.Path.{◌≡◌, refl}
use mathlib.Core.Bool.{Bool, true, false}
use mathlib.Core.List.{List}
use Prim.Native.Nat.{ℕ, ◌<◌}
use lib.IntN.{ℤ, pos, negsuc}
use lib.Signed.{le_z, ◌≤ℤ◌}
use Rattle.laws.specs.Base.{pick, min_z, max_z}
use Rattle.laws.proofs.Integers.{integers, le_order}
use Rattle.publishing.specs.declared.Terms.{Terms}
use Rattle.publishing.specs.Entry.{Entry, TermsOk, LinksOk}
use Rattle.publishing.specs.Bounds.{has_limit, limit, at_most, at_least}
use Rattle.pricing.proofs.Passings.{cents-above, cents-below}
use Rattle.publishing.proofs.Limits.{limit_by, in-cents-at, cap-above, floor-below}

-- of two numbers on either side of 0 it does not matter which binds first
either_order : (f c : ℤ) → pos 0 ≤ℤ c → f ≤ℤ negsuc 0 → (x : ℤ) → max_z f (min_z x c) ≡ min_z (max_z f x) c
unfolding min_z max_z
either_order f c h k x = go (le_z x c) (le_z f x) (le_z f c) refl refl refl
  where
    go : (a b d : Bool) → le_z x c ≡ a → le_z f x ≡ b → le_z f c ≡ d → pick (le_z f (pick a x c)) (pick a x c) f ≡ pick (le_z (pick b x f) c) (pick b x f) c
    go true true d p q r = rw (q, p)
    go true false true p q r = rw (q, r)
    go false true true p q r = rw (r, p)
    go true false false p q r = absurd (omega integers)
    go false b false p q r = absurd (omega integers)
    go false false true p q r = absurd (omega integers)

module _ (t : Terms) (ok : TermsOk t) (marks : List ℕ) (e : Entry) (links : LinksOk t e.flows e.factors) (region : ℕ) (here : region < t.regions) where
  pub cap-limit : {z : ℤ} → limit true t marks e region ≡ Some z → pos 0 ≤ℤ z
  unfolding limit
  cap-limit q =
      let w = in-cents-at (limit_by true t e.flows e.factors (has_limit true t marks e.offer) region) q in
      let a = cap-above t ok e.flows e.factors links (has_limit true t marks e.offer) region here w.1 in
      rw w.2 (cents-above w.0 (le_order _ _ (omega integers)))

  pub floor-limit : {z : ℤ} → limit false t marks e region ≡ Some z → z ≤ℤ negsuc 0
  unfolding limit
  floor-limit q =
      let w = in-cents-at (limit_by false t e.flows e.factors (has_limit false t marks e.offer) region) q in
      rw w.2 (cents-below w.0 (floor-below t ok e.flows e.factors links (has_limit false t marks e.offer) region here w.1))

  pub never-cross : (x : ℤ) → at_least (limit false t marks e region) (at_most (limit true t marks e region) x) ≡ at_most (limit true t marks e region) (at_least (limit false t marks e region) x)
  unfolding at_most at_least
  never-cross x = go (limit true t marks e region) (limit false t marks e region) refl refl
    where
      go : (c f : Option ℤ) → limit true t marks e region ≡ c → limit false t marks e region ≡ f → at_least f (at_most c x) ≡ at_most c (at_least f x)
      go None f p q = refl
      go (Some c) None p q = refl
      go (Some c) (Some f) p q = either_order f c (cap-limit p) (floor-limit q) x
