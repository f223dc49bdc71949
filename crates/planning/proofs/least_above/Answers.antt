-- `planning::least_above` meets its contract. The loop's invariant: `now` is the sum after n further prices, and the sum after none of
-- the numbers up to n is above the threshold. Assumes nothing.
use mathlib.Core.Path.{◌≡◌, sym, ap, ap₂, ◌∙◌, subst}
use mathlib.Core.Bool.{Bool, true, false}
use mathlib.Core.List.{List}
use Prim.Native.Nat.{ℕ, suc, ◌≤◌, ◌+◌, ◌*◌}
use native.Mathlib.Omega.{arith}
use lib.IntN.{ℤ, nat_abs, ◌+ℤ◌, ◌-ℤ◌}
use lib.Signed.{lt_z}
use mir.Syntax.{w32, w64}
use mir.Val.{SFits, to_z, of_z}
use mir.Facts.{to_z-of_z}
use Rattle.laws.proofs.Integers.{signed, sub-fits, fits-abs, abs-add, abs-sub, abs-fits}
use Rattle.head.specs.Counted.{window_of}
use Rattle.planning.specs.Left.{sum_with, exceeds}
use Rattle.planning.specs.Working.{leaving}
use Rattle.planning.proofs.Least.{NoneTo, none-start, none-step, least-found, least-none}
use Rattle.planning.proofs.Steps.{sum-start, sum-walk}
use borrow.Author.Rules.{rules}
use Rattle.planning.proofs.least_above.Goals as goal

pub loop-n-init : goal.loop-n-init
loop-n-init c =
    let a = c.args in
    let f : SFits w64 a.sum = search rules in
    let q : to_z w64 (of_z w64 a.sum) ≡ a.sum = to_z-of_z f in
    let w = window_of a.ring.now a.base a.window a.start a.count in
    let x = to_z w32 (of_z w32 a.price) in (
      omega arith,
      subst (λ (z : ℤ). nat_abs z ≤ 20160000000) (sym q) c.requires.bound,
      q ∙ c.requires.added ∙ sym (sum-start a.ring.now a.base a.window a.start a.count x c.requires.most),
      none-start a.window w x (to_z w64 (of_z w64 a.threshold)),
    )

pub returns-then-threshold-now : goal.returns-then-threshold-now
returns-then-threshold-now c =
    let window : ℕ = c.args.window in
    let counted : List ℤ = (let a = c.args in window_of a.ring.now a.base a.window a.start a.count) in
    let price : ℤ = c.args.price in
    let threshold : ℤ = c.args.threshold in
    let n : ℕ = c.loop-n.n in
    let price-fits : SFits w32 price = search rules in
    let threshold-fits : SFits w64 threshold = search rules in
    let none_so_far : NoneTo window counted price threshold n = rw (to_z-of_z price-fits, to_z-of_z threshold-fits) at c.loop-n.invariant.3 in
    let sum : ℤ = to_z w64 c.loop-n.now-bits in
    let old : ℤ = c.leaving-old.result in
    let sum_is : sum +ℤ (price -ℤ old) ≡ sum_with window counted price (suc n) = (let a = c.args in
    let h : sum ≡ sum_with window counted price n = rw (to_z-of_z price-fits) at c.loop-n.invariant.2 in
    let l : old ≡ leaving a.ring.now a.base window a.start a.count n = c.leaving-old.ensures in
    ap₂ (λ (x y : ℤ). x +ℤ (price -ℤ y)) h l
    ∙ sym (sum-walk a.ring.now a.base window a.start a.count price n c.requires.most c.loop-n-test.true)) in
    let tested : (t : Bool) → lt_z threshold (sum +ℤ (price -ℤ old)) ≡ t → exceeds window counted price threshold (suc n) ≡ t = λ t e. ap (lt_z threshold) (sym sum_is) ∙ e in
    let old-fits : SFits w32 old = search rules in
    let moves-fits : SFits w64 (price -ℤ old) = omega (arith, sub-fits, fits-abs w32 price price-fits, fits-abs w32 old old-fits) in
    let moved : nat_abs (sum +ℤ (price -ℤ old)) ≤ 20160000000 + (n + 1) * 4294967296 = (omega (
      arith,
      abs-add sum (price -ℤ old),
      abs-sub price old,
      fits-abs w32 price price-fits,
      fits-abs w32 old old-fits,
      c.loop-n.invariant.1,
    )) in
    let sum_fits : SFits w64 (sum +ℤ (price -ℤ old)) = abs-fits w64 (sum +ℤ (price -ℤ old)) (omega (arith, moved)) in
    let above : exceeds (window) (counted) (price) (threshold) (suc (n)) ≡ true = (tested true (simp (signed, price-fits, old-fits, moves-fits, sum_fits, threshold-fits) at c.if-threshold-now.true)) in
    record { value = least-found (window) (counted) (price) (threshold) (n) c.loop-n-test.true (none_so_far) (above); upper_bound = omega arith }

pub loop-n-preserved : goal.loop-n-preserved
loop-n-preserved c =
    let n : ℕ = c.loop-n.n in
    let price : ℤ = c.args.price in
    let price-fits : SFits w32 price = search rules in
    let old : ℤ = c.leaving-old.result in
    let old-fits : SFits w32 old = search rules in
    let moves-fits : SFits w64 (price -ℤ old) = omega (arith, sub-fits, fits-abs w32 price price-fits, fits-abs w32 old old-fits) in
    let sum : ℤ = to_z w64 c.loop-n.now-bits in
    let moved : nat_abs (sum +ℤ (price -ℤ old)) ≤ 20160000000 + (n + 1) * 4294967296 = (omega (
      arith,
      abs-add sum (price -ℤ old),
      abs-sub price old,
      fits-abs w32 price price-fits,
      fits-abs w32 old old-fits,
      c.loop-n.invariant.1,
    )) in
    let sum_fits : SFits w64 (sum +ℤ (price -ℤ old)) = abs-fits w64 (sum +ℤ (price -ℤ old)) (omega (arith, moved)) in
    let threshold : ℤ = c.args.threshold in
    let threshold-fits : SFits w64 threshold = search rules in
    let window : ℕ = c.args.window in
    let counted : List ℤ = (let a = c.args in window_of a.ring.now a.base a.window a.start a.count) in
    let sum_is : sum +ℤ (price -ℤ old) ≡ sum_with window counted price (suc n) = (let a = c.args in
    let h : sum ≡ sum_with window counted price n = rw (to_z-of_z price-fits) at c.loop-n.invariant.2 in
    let l : old ≡ leaving a.ring.now a.base window a.start a.count n = c.leaving-old.ensures in
    ap₂ (λ (x y : ℤ). x +ℤ (price -ℤ y)) h l
    ∙ sym (sum-walk a.ring.now a.base window a.start a.count price n c.requires.most c.loop-n-test.true)) in
    let none_so_far : NoneTo window counted price threshold n = rw (to_z-of_z price-fits, to_z-of_z threshold-fits) at c.loop-n.invariant.3 in
    let tested : (t : Bool) → lt_z threshold (sum +ℤ (price -ℤ old)) ≡ t → exceeds window counted price threshold (suc n) ≡ t = λ t e. ap (lt_z threshold) (sym sum_is) ∙ e in
    let not-above : exceeds (window) (counted) (price) (threshold) (suc (n)) ≡ false = (tested false (simp (signed, price-fits, old-fits, moves-fits, sum_fits, threshold-fits) at c.if-threshold-now.false)) in
    let z : suc (n) ≡ n + 1 = omega arith in
    simp (signed, price-fits, old-fits, moves-fits, sum_fits, threshold-fits) (
      omega arith,
      moved,
      sum_is ∙ ap (sum_with (window) (counted) (price)) z,
      none-step (window) (counted) (price) (threshold) (n) (none_so_far) (not-above),
    )

pub returns : goal.returns
returns c =
    let l = c.loop-n in
    let a = c.args in
    let w = window_of a.ring.now a.base a.window a.start a.count in
    let price-fits : SFits w32 a.price = search rules in
    let threshold-fits : SFits w64 a.threshold = search rules in
    let e : c.loop-n.n ≡ a.window = omega arith in
    let none : NoneTo a.window w a.price a.threshold c.loop-n.n = rw (to_z-of_z price-fits, to_z-of_z threshold-fits) at c.loop-n.invariant.3 in record { value = least-none a.window w a.price a.threshold (subst (NoneTo a.window w a.price a.threshold) e none); upper_bound = omega arith }
