-- Published prices stay within ±10,000,000 where the entry's do. Assumes nothing.
use Rattle.std.specs.Prelude.{Option, Some, None}
use mathlib.Core.Path.{◌≡◌, refl}
use mathlib.Core.Bool.{Bool, true, false}
use mathlib.Core.List.{List}
use Prim.Native.Nat.{ℕ, ◌+◌, ◌≤◌, ◌<◌}
use native.Mathlib.Omega.{arith}
use lib.IntN.{ℤ, pos, negsuc, nat_abs}
use lib.ListN.{get_or}
use lib.Signed.{le_z, ◌≤ℤ◌}
use Rattle.laws.specs.Base.{pick, min_z, max_z}
use Rattle.laws.proofs.Integers.{integers, up, dn, le_order}
use Rattle.laws.proofs.Tests.{and_left, and_right}
use Rattle.pricing.specs.Holding.{held, is_energy, in_range}
use Rattle.publishing.specs.declared.Terms.{Terms}
use Rattle.publishing.specs.Entry.{Offer, Entry, TermsOk, LinksOk, flat}
use Rattle.publishing.specs.Effective.{is_marked, scheduled, effective}
use Rattle.publishing.specs.Capped.{administered, any_administered, capped_by, capped}
use Rattle.publishing.specs.Bounds.{limit, at_most, at_least}
use Rattle.publishing.specs.Published.{published}
use Rattle.publishing.proofs.Limits.{source-small, cap-least}
use Rattle.publishing.proofs.Crossing.{cap-limit, floor-limit}

-- ---- within n on either side of 0
abbrev Within : ℕ → ℤ → Type 0
Within n z = (up z ≤ dn z + n) × (dn z ≤ up z + n)

size-within : (n : ℕ) (z : ℤ) → Within n z → nat_abs z ≤ n
size-within n (pos k) w = omega (arith, w.0)
size-within n (negsuc k) w = omega (arith, w.1)

within-size : (n : ℕ) (z : ℤ) → nat_abs z ≤ n → Within n z
within-size n (pos k) h = omega arith
within-size n (negsuc k) h = omega arith

module _ (n : ℕ) where
  pick-within : (t : Bool) (x y : ℤ) → Within n x → Within n y → Within n (pick t x y)
  pick-within true x y v w = v
  pick-within false x y v w = w

  -- at most a number that is not below 0, at least one that is: what is within stays so
  most-within : (x c : ℤ) → pos 0 ≤ℤ c → Within n x → Within n (min_z x c)
  unfolding min_z
  most-within x c h w = go (le_z x c) refl
    where
      go : (t : Bool) → le_z x c ≡ t → Within n (pick t x c)
      go true e = w
      go false e = omega (integers, w.0, w.1)

  least-within : (x f : ℤ) → f ≤ℤ negsuc 0 → Within n x → Within n (max_z f x)
  unfolding max_z
  least-within x f h w = go (le_z f x) refl
    where
      go : (t : Bool) → le_z f x ≡ t → Within n (pick t x f)
      go true e = w
      go false e = omega (integers, w.0, w.1)

  -- and whatever is held within two such
  held-within : (x low high : ℤ) → Within n low → Within n high → Within n (held x low high)
  unfolding held max_z min_z
  held-within x low high v w = go (le_z x high) (le_z low x) (le_z low high) refl refl refl
    where
      go : (a b c : Bool) → le_z x high ≡ a → le_z low x ≡ b → le_z low high ≡ c → Within n (pick (le_z low (pick a x high)) (pick a x high) low)
      go true true c p q r = rw q (omega (integers, v.1, w.0))
      go true false c p q r = rw q v
      go false b true p q r = rw r w
      go false b false p q r = rw r v

-- ---- the prices of an interval
module _ (t : Terms) (ok : TermsOk t) where
  source-within : (caps : Bool) → Within 10000000 (pick caps t.cap t.floor)
  source-within caps = within-size 10000000 (pick caps t.cap t.floor) (source-small t ok caps)

  -- "energy beyond ±10,000,000 or service outside 0..10,000,000" is refused
  range-within : (energy : Bool) (price : ℤ) → in_range energy price ≡ true → Within 10000000 price
  range-within true price e =
      let a = and_left (le_z (negsuc 9999999) price) (le_z price (pos 10000000)) e in
      let b = and_right (le_z (negsuc 9999999) price) (le_z price (pos 10000000)) e in
      omega integers
  range-within false price e =
      let a = and_left (le_z (pos 0) price) (le_z price (pos 10000000)) e in
      let b = and_right (le_z (pos 0) price) (le_z price (pos 10000000)) e in
      omega integers

  effective-within : (o : Offer) (region market : ℕ) → (is_marked o region ≡ false → in_range (is_energy market) (get_or o.prices (flat t region market) (pos 0)) ≡ true)
      → Within 10000000 (effective t o region market)
  unfolding effective scheduled
  effective-within o region market h = go (is_marked o region) refl
    where
      go : (x : Bool) → is_marked o region ≡ x → Within 10000000 (pick x (scheduled t o region market) (get_or o.prices (flat t region market) (pos 0)))
      go true e =
          held-within 10000000 _ _ _ (pick-within 10000000 (is_energy market) t.floor (pos 0) (source-within false) (omega arith)) (source-within true)
      go false e = range-within (is_energy market) _ (h e)

  capped-within : (marks : List ℕ) (region market : ℕ) (price : ℤ) → Within 10000000 price → Within 10000000 (capped t marks region market price)
  unfolding capped_by
  capped-within marks region market price w =
      pick-within 10000000 (is_energy market) _ _
      (pick-within 10000000 (administered marks region 0) _ price (held-within 10000000 price t.floor t.cap (source-within false) (source-within true)) w)
      (pick-within 10000000 (any_administered t marks region) _ price (most-within 10000000 price t.cap (let c = cap-least t ok in le_order _ _ (omega integers)) w) w)

  -- what is published where the entry price is used and in range, or where it is not used
  pub bounded : (marks : List ℕ) (e : Entry) → LinksOk t e.flows e.factors → (region market : ℕ) → region < t.regions
      → (is_marked e.offer region ≡ false → in_range (is_energy market) (get_or e.offer.prices (flat t region market) (pos 0)) ≡ true)
      → nat_abs (published t marks e region market) ≤ 10000000
  unfolding published at_most at_least
  bounded marks e links region market here h =
      size-within 10000000 (published t marks e region market)
      (pick-within 10000000 (is_energy market) _ _ (go (limit true t marks e region) (limit false t marks e region) refl refl) price)
    where
      price : Within 10000000 (capped t marks region market (effective t e.offer region market))
      price = capped-within marks region market (effective t e.offer region market) (effective-within e.offer region market h)

      go : (c f : Option ℤ) → limit true t marks e region ≡ c → limit false t marks e region ≡ f → Within 10000000 (at_least f (at_most c (capped t marks region market (effective t e.offer region market))))
      go None None p q = price
      go None (Some f) p q = least-within 10000000 _ f (floor-limit t ok marks e links region here q) price
      go (Some c) None p q = most-within 10000000 _ c (cap-limit t ok marks e links region here p) price
      go (Some c) (Some f) p q = least-within 10000000 _ f (floor-limit t ok marks e links region here q) (most-within 10000000 _ c (cap-limit t ok marks e links region here p) price)
