-- The power between regions: the table has it at its place, its factors are those of links, and of a region without a parent nothing is looked at.
-- Assumes nothing.
use Rattle.std.specs.Prelude.{Option}
use mathlib.Core.Path.{◌≡◌, refl, ap, ◌∙◌}
use mathlib.Core.Bool.{Bool, true, false, ◌&&◌}
use mathlib.Core.List.{List}
use Prim.Native.Nat.{ℕ, ◌+◌, ◌*◌, ◌/◌, ◌%◌, ◌<◌, ◌≤◌}
use native.Mathlib.Omega.{arith}
use lib.Dec.{eqb}
use lib.IntN.{ℤ, pos}
use lib.ListN.{get_or}
use lib.Signed.{lt_z}
use borrow.Author.Tests.{eqb-true, lt-ltb}
use Rattle.laws.specs.Base.{pick}
use Rattle.laws.proofs.Lists.{get_or-tabulate}
use Rattle.laws.proofs.Tests.{and_left}
use Rattle.pricing.specs.Carrying.{Factor}
use Rattle.routes.specs.declared.Network.{Network}
use Rattle.routes.specs.Links.{last_flow, last_factor, extra_of, power_of, power_at, powers_of}
use Rattle.routes.specs.Routes.{limit_of}
use Rattle.routes.specs.Search.{Linked}
use Rattle.routes.proofs.Routes.{limit-same}

-- region r has a parent
abbrev pub Child : List ℕ → ℕ → Type 0
Child parents r = get_or parents r 255 ≡ 255 → ⊥

-- a region whose parent is found below 255 has one
child : (parents : List ℕ) (x y : ℕ) → y < 255 → eqb (get_or parents x 255) y ≡ true → Child parents x
child parents x y h t e = omega (arith, eqb-true (get_or parents x 255) y t)

-- the book has the additional link
abbrev pub Extra : Network → Type 0
Extra l = l.from ≡ 255 → ⊥

extra : (l : Network) (x : ℕ) → x < 255 → eqb l.from x ≡ true → Extra l
extra l x h t e = omega (arith, eqb-true l.from x t)

-- ---- the table as a function
module _ (l : Network) (flows : List ℤ) (factors : List ℕ) (few : l.regions ≤ 8) where
  pub power-table : (x y : ℕ) → x < l.regions → y < l.regions → get_or (powers_of l flows factors) (8 * x + y) 0 ≡ power_of l flows factors x y
  power-table x y i j =
      let d : (8 * x + y) / 8 ≡ x = omega arith in
      let m : (8 * x + y) % 8 ≡ y = omega arith in
      get_or-tabulate (power_at l flows factors) 64 (8 * x + y) 0 (omega arith) ∙ rw (d, m, lt-ltb x l.regions i, lt-ltb y l.regions j)

  pub limit-table : (caps : Bool) (own : ℕ → Option ℤ) (x : ℕ) → x < l.regions
      → limit_of caps (λ x y. get_or (powers_of l flows factors) (8 * x + y) 0) own l.regions x ≡ limit_of caps (power_of l flows factors) own l.regions x
  limit-table caps own x i = limit-same caps _ _ own own l.regions power-table (λ y j. refl) x i

-- ---- factors in range where there is a link make every power one of a link
-- a choice whose test begins with a test t
pick-linked : (t u : Bool) {f g : ℕ} → (t ≡ true → Factor f) → Linked g → Linked (pick (t && u) f g)
pick-linked true true h k p = h refl
pick-linked true false h k p = k p
pick-linked false u h k p = k p

none-linked : Linked 0
none-linked p = absurd (omega arith)

module _ (l : Network) (flows : List ℤ) (factors : List ℕ) (few : l.regions ≤ 8) (child-in : (r : ℕ) → r < l.regions → Child l.parents r → Factor (get_or factors r 0))
    (extra-in : Extra l → Factor (last_factor l factors)) where
  pub power-linked : (x y : ℕ) → x < l.regions → y < l.regions → Linked (power_of l flows factors x y)
  unfolding power_of extra_of
  power-linked x y i j =
      pick-linked (eqb (get_or l.parents x 255) y) (lt_z (pos 0) (get_or flows x (pos 0))) (λ e. child-in x i (child l.parents x y (omega arith) e))
      (pick-linked (eqb (get_or l.parents y 255) x) (lt_z (get_or flows y (pos 0)) (pos 0)) (λ e. child-in y j (child l.parents y x (omega arith) e))
      (pick-linked (eqb l.from x && eqb l.to y) (lt_z (pos 0) (last_flow l flows)) (λ e. extra-in (extra l x (omega arith) (and_left (eqb l.from x) (eqb l.to y) e)))
      (pick-linked (eqb l.from y && eqb l.to x) (lt_z (last_flow l flows) (pos 0)) (λ e. extra-in (extra l y (omega arith) (and_left (eqb l.from y) (eqb l.to x) e))) none-linked)))

-- ---- "A region without a parent has no flow or factor looked at", nor has the place R of a book without the additional link
module _ (l : Network) (few : l.regions ≤ 255) (flows flows' : List ℤ) (factors factors' : List ℕ)
    (same : (r : ℕ) → r < l.regions → Child l.parents r → (get_or flows r (pos 0) ≡ get_or flows' r (pos 0)) × (get_or factors r 0 ≡ get_or factors' r 0))
    (last : Extra l → (last_flow l flows ≡ last_flow l flows') × (last_factor l factors ≡ last_factor l factors')) where
  -- a choice whose test begins with a test t: what follows is looked at only where t holds
  choice : (t : Bool) {u v : Bool} {f g h k : ℕ} → (t ≡ true → (u ≡ v) × (f ≡ g)) → h ≡ k → pick (t && u) f h ≡ pick (t && v) g k
  choice true e q = rw ((e refl).0, (e refl).1, q)
  choice false e q = q

  extra-same : (x y : ℕ) → x < l.regions → y < l.regions → extra_of l flows factors x y ≡ extra_of l flows' factors' x y
  unfolding extra_of
  extra-same x y i j =
      choice (eqb l.from x && eqb l.to y) (λ e. let q = last (extra l x (omega arith) (and_left _ _ e)) in (ap (lt_z (pos 0)) q.0, q.1))
      (choice (eqb l.from y && eqb l.to x) (λ e. let q = last (extra l y (omega arith) (and_left _ _ e)) in (ap (λ (z : ℤ). lt_z z (pos 0)) q.0, q.1)) refl)

  pub power-same : (x y : ℕ) → x < l.regions → y < l.regions → power_of l flows factors x y ≡ power_of l flows' factors' x y
  unfolding power_of
  power-same x y i j =
      choice (eqb (get_or l.parents x 255) y) (λ e. let q = same x i (child l.parents x y (omega arith) e) in (ap (lt_z (pos 0)) q.0, q.1))
      (choice (eqb (get_or l.parents y 255) x) (λ e. let q = same y j (child l.parents y x (omega arith) e) in (ap (λ (z : ℤ). lt_z z (pos 0)) q.0, q.1)) (extra-same x y i j))
