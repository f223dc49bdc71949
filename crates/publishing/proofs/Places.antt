-- Where the numbers of an entry stand: every place that is read is in its slice, and a count of them is small. Assumes nothing.
use mathlib.Core.Path.{◌≡◌}
use mathlib.Core.Bool.{Bool}
use Prim.Native.Nat.{ℕ, ◌+◌, ◌*◌, ◌/◌, ◌≤◌, ◌<◌}
use native.Mathlib.Nat.{div-lt_iff_lt-mul, mul-le-mul, mul-le-mul_right}
use native.Mathlib.Omega.{arith}
use mir.Syntax.{w32}
use mir.Val.{Fits}
use Rattle.laws.specs.Lists.{count_below}
use Rattle.laws.proofs.Lists.{flat-lt, count_below-most}
use Rattle.publishing.specs.declared.Terms.{Terms}
use Rattle.publishing.specs.Entry.{flat, schedule_place, TermsOk}

module _ (t : Terms) (ok : TermsOk t) where
  pub size_small : t.regions * t.markets ≤ 88
  size_small = mul-le-mul ok.regions.1 ok.markets.1

  -- the rows up to a region's
  pub rows-small : (region : ℕ) → region < t.regions → (region + 1) * t.markets ≤ 88
  rows-small region h = let n : region + 1 ≤ t.regions = omega arith in omega (arith, mul-le-mul_right t.markets n, size_small)

  module _ (region market : ℕ) (h : region < t.regions) (l : market < t.markets) where
    pub flat_in : flat t region market < t.regions * t.markets
    flat_in = flat-lt region market t.regions t.markets h l

    pub schedule-in : (kind : ℕ) → kind < 2 → schedule_place t kind region market < t.regions * t.markets * 2 * t.halves
    schedule-in kind k =
        let p : t.position < t.halves * 6 = omega (arith, ok.position) in
        let six : 0 < 6 = omega arith in
        flat-lt (flat t region market * 2 + kind) (t.position / 6) (t.regions * t.markets * 2) t.halves
        (flat-lt (flat t region market) kind (t.regions * t.markets) 2 flat_in k)
        ((div-lt_iff_lt-mul six).1 p)

    -- the place of a number of the schedule, small enough for any arithmetic on it
    pub schedule-small : (kind : ℕ) → kind < 2 → schedule_place t kind region market < 8448
    schedule-small kind k =
        let n : t.regions * t.markets * 2 ≤ 176 = omega (arith, size_small) in
        omega (arith, schedule-in kind k, mul-le-mul n ok.halves)

pub count_fits : {n x : ℕ} (test : ℕ → Bool) → x ≡ count_below n test → n ≤ 88 → Fits w32 x
count_fits {n} test e h = record { fits = omega (arith, count_below-most n test) }
