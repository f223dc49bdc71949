-- How the loop of `joined_prices` fills its copy of the prices: before a turn, the regions passed have the prices that join and the others the
-- entry's. Assumes nothing.
use mathlib.Core.Path.{◌≡◌, refl, sym, ap, ◌∙◌}
use mathlib.Core.Bool.{Bool, true, false, not, ◌&&◌}
use mathlib.Core.List.{List}
use mathlib.Core.Logic.{⊎_elim}
use Prim.Native.Nat.{ℕ, ◌+◌, ◌*◌, ◌/◌, ◌%◌, ◌<◌, ◌≤◌}
use native.Mathlib.Nat.{mul-div_cancel, mul-mod_left, div-add-mod', div-lt_iff_lt-mul}
use native.Mathlib.Omega.{arith}
use borrow.Author.Tests.{lt-ltb, le-ltb, eqb-true, eqb-false, eq-eqb, ne_eqb}
use lib.Dec.{eqb, ltb}
use lib.IntN.{ℤ, pos}
use lib.ListN.{length, get_or, set, take, length-take}
use lib.Seq.{get_or-set_same, get_or-set_other, get_or-take}
use Rattle.laws.specs.Base.{pick}
use Rattle.laws.proofs.Joined.{tabulate-list}
use Rattle.laws.proofs.Lists.{tabulate-same}
use Rattle.laws.proofs.Tests.{by-test, lt-or-ge}
use Rattle.pricing.specs.Holding.{is_energy}
use Rattle.publishing.specs.Capped.{administered}
use Rattle.joining.specs.Working.{joined_from}

-- a choice between two that are the same
pick_same : {A : Type 0} (t : Bool) (a : A) → pick t a a ≡ a
pick_same true a = refl
pick_same false a = refl

-- another region than r is passed after r's turn where it was before
passed : (k r : ℕ) → (k ≡ r → ⊥) → ltb k (r + 1) ≡ ltb k r
passed k r ne =
    ⊎_elim
    (λ (h : k < r). rw (lt-ltb k r h, lt-ltb k (r + 1) (omega arith)))
    (λ (h : r ≤ k). rw (le-ltb k r h, le-ltb k (r + 1) (omega arith)))
    (lt-or-ge k r)

-- the mark of a region's energy
energy_mark : (marks : List ℕ) (r : ℕ) → administered marks r 0 ≡ eqb (get_or marks (11 * r) 0) 1
energy_mark marks r = ap (λ (k : ℕ). eqb (get_or marks k 0) 1) (omega arith)

module _ (regions markets : ℕ) (marks : List ℕ) (prices table : List ℤ) where
  -- the price that joins at place q, as `joined_from` has it
  abbrev pub joined_price : ℕ → ℤ
  joined_price q = pick (is_energy (q % markets) && not (administered marks (q / markets) 0)) (get_or table q (pos 0)) (get_or prices q (pos 0))

  -- place q when r regions are passed
  abbrev pub price_after : ℕ → ℕ → ℤ
  price_after r q = pick (ltb (q / markets) r) (joined_price q) (get_or prices q (pos 0))

  -- the copy when r regions are passed
  abbrev pub Filled : ℕ → List ℤ → Type 0
  Filled r joined = (q : ℕ) → q < regions * markets → get_or joined q (pos 0) ≡ price_after r q

  -- a turn leaves each place but that of its region's energy
  elsewhere : (r q : ℕ) → (q ≡ r * markets → ⊥) → price_after r q ≡ price_after (r + 1) q
  elsewhere r q ne =
      by-test (is_energy (q % markets))
      (λ e. let other : q / markets ≡ r → ⊥ = λ d. ne (sym (div-add-mod' q markets) ∙ rw (d, eqb-true (q % markets) 0 e) (omega arith)) in rw (passed (q / markets) r other))
      (λ e. rw (e, pick_same (ltb (q / markets) r) (get_or prices q (pos 0)), pick_same (ltb (q / markets) (r + 1)) (get_or prices q (pos 0))))

  -- the place of region r's energy after its turn
  here : (r : ℕ) → 1 ≤ markets → price_after (r + 1) (r * markets) ≡ pick (not (administered marks r 0)) (get_or table (r * markets) (pos 0)) (get_or prices (r * markets) (pos 0))
  here r some = rw (mul-mod_left r markets, mul-div_cancel r some, lt-ltb r (r + 1) (omega arith))

  -- and before it
  before : (r : ℕ) → 1 ≤ markets → price_after r (r * markets) ≡ get_or prices (r * markets) (pos 0)
  before r some = rw (mul-div_cancel r some, le-ltb r r (omega arith))

  -- a turn that stores
  pub stored : (r : ℕ) (joined : List ℤ) → 1 ≤ markets → (get_or marks (11 * r) 0 ≡ 1 → ⊥) → r * markets < length joined → Filled r joined
      → Filled (r + 1) (set joined (r * markets) (get_or table (r * markets) (pos 0)))
  stored r joined some free within filled q l =
      by-test (eqb q (r * markets))
      (λ e. rw (eqb-true q (r * markets) e, here r some, energy_mark marks r, ne_eqb (get_or marks (11 * r) 0) 1 free)
      (get_or-set_same joined (r * markets) (get_or table (r * markets) (pos 0)) (pos 0) within))
      (λ e. let ne : q ≡ r * markets → ⊥ = eqb-false q (r * markets) e in
      get_or-set_other joined (r * markets) q (get_or table (r * markets) (pos 0)) (pos 0) ne ∙ filled q l ∙ elsewhere r q ne)

  -- a turn that does not
  pub kept : (r : ℕ) (joined : List ℤ) → 1 ≤ markets → get_or marks (11 * r) 0 ≡ 1 → Filled r joined → Filled (r + 1) joined
  kept r joined some held filled q l =
      filled q l
      ∙ by-test (eqb q (r * markets))
      (λ e. rw (eqb-true q (r * markets) e, before r some, here r some, energy_mark marks r, eq-eqb (get_or marks (11 * r) 0) 1 held))
      (λ e. elsewhere r q (eqb-false q (r * markets) e))

  -- when all regions are passed, the prices that join
  pub done : (joined : List ℤ) → 1 ≤ markets → regions * markets ≤ length joined → Filled regions joined
      → take (regions * markets) joined ≡ joined_from regions markets marks prices table
  done joined some fits filled =
      sym (tabulate-list (pos 0) (take (regions * markets) joined) (regions * markets) (omega (arith, length-take (regions * markets) joined)))
      ∙ tabulate-same (regions * markets) (λ q. get_or (take (regions * markets) joined) q (pos 0)) joined_price
      (λ q l. let last : q / markets < regions = (div-lt_iff_lt-mul some).1 l in
      get_or-take (regions * markets) joined q (pos 0) l ∙ filled q l ∙ rw (lt-ltb (q / markets) regions last))
