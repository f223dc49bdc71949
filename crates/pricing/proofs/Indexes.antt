-- The ranges that 30 asks of an index leave room for its products and its dollars. Assumes nothing.
use mathlib.Core.Path.{◌≡◌}
use mathlib.Core.Bool.{true, ◌&&◌}
use Prim.Native.Nat.{ℕ, ◌*◌, ◌≤◌}
use native.Mathlib.Nat.{mul-le-mul, max-le}
use native.Mathlib.Omega.{arith}
use borrow.Author.Tests.{leb-true}
use lib.Dec.{leb}
use Rattle.laws.proofs.Tests.{and_left, and_right, by-test}
use Rattle.pricing.specs.Rounding.{nearest}
use Rattle.pricing.specs.Indexing.{between, quarters_ok, sum, index_ok, indexed}
use Rattle.pricing.specs.declared.indexing.Quarters.{Quarters}
use Rattle.pricing.proofs.Roundings.{nearest-size}

in_between : (low high x : ℕ) → between low high x ≡ true → (low ≤ x) × (x ≤ high)
in_between low high x e =
    (leb-true low x (and_left (leb low x) (leb x high) e), leb-true x high (and_right (leb low x) (leb x high) e))

-- a year's quarters in range
in-year : (y : Quarters) → quarters_ok y ≡ true → (4 ≤ sum y) × (sum y ≤ 400000)
in-year y e =
    let t1 = between 1 100000 y.q1 in
    let t2 = between 1 100000 y.q2 in
    let t3 = between 1 100000 y.q3 in
    let t4 = between 1 100000 y.q4 in
    let e3 = and_left (t1 && t2 && t3) t4 e in
    let e2 = and_left (t1 && t2) t3 e3 in
    omega (
      arith,
      in_between 1 100000 y.q1 (and_left t1 t2 e2),
      in_between 1 100000 y.q2 (and_right t1 t2 e2),
      in_between 1 100000 y.q3 (and_right (t1 && t2) t3 e3),
      in_between 1 100000 y.q4 (and_right (t1 && t2 && t3) t4 e),
    )

-- what is left of them for the products
pub record Ranges (amount : ℕ) (c b : Quarters) : Type 0 where
  pub product : amount * sum c ≤ 100000000 * 400000
  pub below : (4 ≤ sum b) × (sum b ≤ 400000)

pub ranges : (amount : ℕ) (c b : Quarters) (last : ℕ) → index_ok amount c b last ≡ true → Ranges amount c b
ranges amount c b last e =
    let t = between 1 100000000 amount in
    let e3 = and_left (t && quarters_ok c && quarters_ok b) (leb last 10000000000000) e in
    let e2 = and_left (t && quarters_ok c) (quarters_ok b) e3 in
    let a = in_between 1 100000000 amount (and_left t (quarters_ok c) e2) in
    let y = in-year c (and_right t (quarters_ok c) e2) in
    record {
      product = mul-le-mul a.1 y.1;
      below = in-year b (and_right (t && quarters_ok c) (quarters_ok b) e3);
    }

pub hundreds-most : (amount : ℕ) (c b : Quarters) → Ranges amount c b → nearest (amount * sum c) (100 * sum b) ≤ 40000000000000
hundreds-most amount c b r =
    nearest-size (amount * sum c) (100 * sum b) 40000000000000 (omega (arith, r.below)) (omega (arith, r.product, r.below))

-- the dollars of every answer
module _ (amount : ℕ) (c b : Quarters) (last : ℕ) where
  pub dollars-most : (indexed amount c b last).dollars ≤ 4000000000000000
  unfolding indexed
  dollars-most =
      by-test (index_ok amount c b last)
      (λ e. let l = leb-true last 10000000000000 (and_right (between 1 100000000 amount && quarters_ok c && quarters_ok b) (leb last 10000000000000) e) in
      rw e (max-le (omega arith) (omega (arith, hundreds-most amount c b (ranges amount c b last e)))))
      (λ e. rw e (omega arith))
