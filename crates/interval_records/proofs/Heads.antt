-- What an accepted head says, and the records in number order. Assumes nothing.
use mathlib.Core.Path.{◌≡◌, refl, sym, ◌∙◌}
use mathlib.Core.Bool.{Bool, true, false, not}
use mathlib.Core.List.{List}
use Prim.Native.Nat.{ℕ, ◌+◌, ◌<◌}
use native.Mathlib.Omega.{arith}
use borrow.Author.Tests.{eq-eqb, eqb-true}
use lib.Dec.{eqb}
use Rattle.laws.specs.Base.{pick}
use Rattle.laws.specs.Bytes.{number_at}
use Rattle.laws.proofs.Tests.{by-test, never, true-is}
use Rattle.pricing.specs.Verdict.{Verdict, accepted, refused}
use Rattle.book.specs.Record.{is_accepted}
use Rattle.interval_records.specs.Layout.{head_length}
use Rattle.interval_records.specs.Record.{due_verdict, head_verdict, record_place, region_at}
use Rattle.interval_records.proofs.Wholes.{Due, LinkDue, due-accepted, accepted-due}

-- a test after another verdict
module _ (v : Verdict) (t : Bool) (n : ℕ) (z : eqb n 0 ≡ false) where
  pub then-both : is_accepted (pick (not (is_accepted v)) v (pick (not t) (refused n) accepted)) ≡ true → (is_accepted v ≡ true) × (t ≡ true)
  then-both e =
      by-test (is_accepted v)
      (λ a. by-test t (λ b. (a, b)) (λ b. absurd (true-is (sym z ∙ rw (a, b) at e))))
      (λ a. never (is_accepted v) (rw a at e) a)

-- ---- the tests of the records in number order
pub record Ordered (linked : Bool) (R M : ℕ) (bytes : List ℕ) (at : ℕ) : Type 0 where
  pub head : Due 16 M bytes at
  pub total : number_at bytes (at + 11) 1 ≡ R
  pub due : (k : ℕ) → k < R → Due 17 M bytes (record_place M (at + head_length) k)
  pub region : (k : ℕ) → k < R → region_at M bytes (at + head_length) k ≡ k
  pub link : linked ≡ true → LinkDue bytes (record_place M (at + head_length) R)

module _ (R M : ℕ) (bytes : List ℕ) (at : ℕ) where
  pub head-is : is_accepted (head_verdict R M bytes at) ≡ true → Due 16 M bytes at × (number_at bytes (at + 11) 1 ≡ R)
  unfolding head_verdict
  head-is e =
      let b = then-both (due_verdict 16 M bytes at) (eqb (number_at bytes (at + 11) 1) R) 41 refl e in
      (accepted-due 16 M (omega arith) bytes at b.0, eqb-true _ _ b.1)

  pub is-head : Due 16 M bytes at → number_at bytes (at + 11) 1 ≡ R → head_verdict R M bytes at ≡ accepted
  unfolding head_verdict
  is-head d e = rw (due-accepted 16 M (omega arith) bytes at d, eq-eqb _ _ e)
