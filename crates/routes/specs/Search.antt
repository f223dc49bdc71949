-- The search by which the code finds a limit, and what it is to be given. Proved equal to the limit over all routes. Assumes nothing.
use Rattle.std.specs.Prelude.{Bool, true, false, List, ℕ, zero, suc, ◌+◌, ◌*◌, ◌≤◌, ◌<◌, ℤ, nat_abs, get_or, set, Option, Some, None}
use Rattle.laws.specs.Base.{pick}
use Rattle.pricing.specs.Carrying.{Factor}
use Rattle.routes.specs.Limits.{tighter, over}
use Rattle.routes.specs.Links.{step}

-- the tightest of l, f 0, .. f (n - 1)
unfoldable pub tightest : Bool → (ℕ → Option ℤ) → Option ℤ → ℕ → Option ℤ
tightest caps f l zero = l
tightest caps f l (suc n) = tighter caps (tightest caps f l n) (f n)

-- the limit of region x of R with `left` regions left to visit: its own, and that of each region y that was not seen,
-- over the link between them
unfoldable pub limit_from : Bool → (ℕ → ℕ → ℕ) → (ℕ → Option ℤ) → ℕ → ℕ → List Bool → ℕ → Option ℤ
limit_from caps power own R zero seen x = own x
limit_from caps power own R (suc left) seen x =
    tightest caps
    (λ y. pick (get_or (set seen x true) y false) None (over caps (step caps power x y) (limit_from caps power own R left (set seen x true) y)))
    (own x) R

-- a limit of at most so much
abbrev pub Sized : ℕ → Option ℤ → Type 0
Sized b None = Unit {0}
Sized b (Some z) = nat_abs z ≤ b

-- a factor of a link, or 0 for none
abbrev pub Linked : ℕ → Type 0
Linked factor = 0 < factor → Factor factor

-- what the search is given: a table of powers, the limit of a source in ten-thousandths of a cent, a region
pub record Searched (powers : List ℕ) (R : ℕ) (bound : ℤ) (x left : ℕ) : Type 0 where
  pub regions : R ≤ 8
  pub linked : (x y : ℕ) → x < R → y < R → Linked (get_or powers (8 * x + y) 0)
  pub small : nat_abs bound ≤ 100000000000
  pub here : x < R
  pub few : left ≤ 7
