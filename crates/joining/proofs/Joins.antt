-- The prices that join the windows are in range where the entry's are: limits only draw a price towards zero. Assumes nothing.
use mathlib.Core.Path.{◌≡◌}
use mathlib.Core.Bool.{Bool, true, false}
use mathlib.Core.List.{List}
use Prim.Native.Nat.{ℕ, ◌*◌, ◌≤◌, ◌<◌}
use native.Mathlib.Omega.{arith}
use borrow.Author.Tests.{eqb-true}
use lib.Dec.{eqb}
use lib.IntN.{ℤ, pos, negsuc, nat_abs}
use lib.ListN.{get_or}
use Rattle.laws.proofs.Integers.{le_test, abs-parts}
use Rattle.laws.proofs.Lists.{get_or-tabulate, flat-div, flat-mod, flat-lt}
use Rattle.laws.proofs.Tests.{by-test}
use Rattle.pricing.specs.Holding.{is_energy, in_range}
use Rattle.publishing.specs.declared.Terms.{Terms}
use Rattle.publishing.specs.Entry.{Offer, Entry, TermsOk, LinksOk, flat}
use Rattle.publishing.specs.Effective.{is_marked}
use Rattle.publishing.specs.Capped.{administered}
use Rattle.publishing.specs.Published.{published}
use Rattle.joining.specs.Joined.{joined_at, joined}
use Rattle.publishing.proofs.Bounded.{bounded}

-- a number of that size is in energy's range
size-range : (z : ℤ) → nat_abs z ≤ 10000000 → in_range true z ≡ true
size-range z h = rw (le_test (negsuc 9999999) z (omega (arith, abs-parts z)), le_test z (pos 10000000) (omega (arith, abs-parts z)))

-- an unmarked region is not a marked one
not-marked : (o : Offer) (region : ℕ) → eqb (get_or o.marked region 0) 0 ≡ true → is_marked o region ≡ false
not-marked o region e = rw (eqb-true (get_or o.marked region 0) 0 e)

module _ (t : Terms) (ok : TermsOk t) (marks : List ℕ) (e : Entry) (links : LinksOk t e.flows e.factors)
    (region : ℕ) (here : region < t.regions) (free : eqb (get_or e.offer.marked region 0) 0 ≡ true)
    (ranged : (m : ℕ) → m < t.markets → in_range (is_energy m) (get_or e.offer.prices (flat t region m) (pos 0)) ≡ true) where
  at-ranged : (m : ℕ) → m < t.markets → in_range (is_energy m) (joined_at t marks e (flat t region m)) ≡ true
  at-ranged m l =
      rw (flat-div region m t.markets l, flat-mod region m t.markets l)
      (by-test (is_energy m)
      (λ q. by-test (administered marks region 0)
      (λ a. rw (q, a) (rw q at (ranged m l)))
      (λ a. rw (q, a) (size-range (published t marks e region m) (bounded t ok marks e links region m here (λ f. ranged m l)))))
      (λ q. rw q (rw q at (ranged m l))))

  pub joined-ranged : (reached : Bool) (m : ℕ) → m < t.markets → in_range (is_energy m) (get_or (joined reached t marks e).prices (flat t region m) (pos 0)) ≡ true
  joined-ranged true m l =
      rw (get_or-tabulate (joined_at t marks e) (t.regions * t.markets) (flat t region m) (pos 0) (flat-lt region m t.regions t.markets here l)) (at-ranged m l)
  joined-ranged false m l = ranged m l
