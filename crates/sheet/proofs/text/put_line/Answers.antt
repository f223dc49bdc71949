-- `sheet::text::put_line` meets its contract: a field after the other. Assumes nothing.
use mathlib.Core.Path.{◌≡◌, ◌∙◌}
use Prim.Native.Nat.{◌+◌, ◌≤◌}
use native.Mathlib.Omega.{arith}
use lib.ListN.{length}
use Rattle.laws.proofs.Integers.{signed}
use Rattle.sheet.proofs.Puts.{decimal-most, ended-most, sum-most, line-put}
use Rattle.sheet.proofs.text.put_line.Goals as goal

pub put_number-a-requires : goal.put_number-a-requires
put_number-a-requires c = omega (arith, decimal-most 2 c.args.region (omega (arith, c.ranges.region)))

pub put_number-b-requires : goal.put_number-b-requires
put_number-b-requires c =
    let first : (c.put_number-a.result ≤ c.args.at + 4) × (length c.put_number-a.new.out ≡ length c.args.out.now) = ((omega (arith, c.put_number-a.ensures.ends, ended-most 2 c.args.region 44 (omega (arith, c.ranges.region))), c.put_number-a.auto.out)) in
    omega (arith, c.requires, first, decimal-most 2 c.args.market (omega (arith, c.ranges.market)))

pub put_number-c-requires : goal.put_number-c-requires
put_number-c-requires c =
    let first : (c.put_number-a.result ≤ c.args.at + 4) × (length c.put_number-a.new.out ≡ length c.args.out.now) = ((omega (arith, c.put_number-a.ensures.ends, ended-most 2 c.args.region 44 (omega (arith, c.ranges.region))), c.put_number-a.auto.out)) in
    let second : (c.put_number-b.result ≤ c.args.at + 8) × (length c.put_number-b.new.out ≡ length c.args.out.now) = ((omega (arith, c.put_number-b.ensures.ends, ended-most 2 c.args.market 44 (omega (arith, c.ranges.market)), (first).0), c.put_number-b.auto.out ∙ (first).1)) in
    omega (arith, c.requires, second, decimal-most 4 c.args.counted (omega (arith, c.ranges.counted)))

pub put_sum-d-requires : goal.put_sum-d-requires
put_sum-d-requires c =
    let first : (c.put_number-a.result ≤ c.args.at + 4) × (length c.put_number-a.new.out ≡ length c.args.out.now) = ((omega (arith, c.put_number-a.ensures.ends, ended-most 2 c.args.region 44 (omega (arith, c.ranges.region))), c.put_number-a.auto.out)) in
    let second : (c.put_number-b.result ≤ c.args.at + 8) × (length c.put_number-b.new.out ≡ length c.args.out.now) = ((omega (arith, c.put_number-b.ensures.ends, ended-most 2 c.args.market 44 (omega (arith, c.ranges.market)), (first).0), c.put_number-b.auto.out ∙ (first).1)) in
    let third : (c.put_number-c.result ≤ c.args.at + 14) × (length c.put_number-c.new.out ≡ length c.args.out.now) = ((omega (arith, c.put_number-c.ensures.ends, ended-most 4 c.args.counted 44 (omega (arith, c.ranges.counted)), (second).0), c.put_number-c.auto.out ∙ (second).1)) in
    omega (arith, c.requires, third)

pub put_number-requires : goal.put_number-requires
put_number-requires c =
    let first : (c.put_number-a.result ≤ c.args.at + 4) × (length c.put_number-a.new.out ≡ length c.args.out.now) = ((omega (arith, c.put_number-a.ensures.ends, ended-most 2 c.args.region 44 (omega (arith, c.ranges.region))), c.put_number-a.auto.out)) in
    let second : (c.put_number-b.result ≤ c.args.at + 8) × (length c.put_number-b.new.out ≡ length c.args.out.now) = ((omega (arith, c.put_number-b.ensures.ends, ended-most 2 c.args.market 44 (omega (arith, c.ranges.market)), (first).0), c.put_number-b.auto.out ∙ (first).1)) in
    let third : (c.put_number-c.result ≤ c.args.at + 14) × (length c.put_number-c.new.out ≡ length c.args.out.now) = ((omega (arith, c.put_number-c.ensures.ends, ended-most 4 c.args.counted 44 (omega (arith, c.ranges.counted)), (second).0), c.put_number-c.auto.out ∙ (second).1)) in
    let fourth : (c.put_sum-d.result ≤ c.args.at + 36) × (length c.put_sum-d.new.out ≡ length c.args.out.now) = (let e = simp (signed, c.ranges.sum) at c.put_sum-d.ensures in
    (omega (arith, e.ends, sum-most c.args.sum c.ranges.sum, (third).0), c.put_sum-d.auto.out ∙ (third).1)) in
    omega (arith, c.requires, fourth, decimal-most 2 c.args.administered (omega (arith, c.ranges.administered)))

pub returns : goal.returns
returns c =
    let first : (c.put_number-a.result ≤ c.args.at + 4) × (length c.put_number-a.new.out ≡ length c.args.out.now) = ((omega (arith, c.put_number-a.ensures.ends, ended-most 2 c.args.region 44 (omega (arith, c.ranges.region))), c.put_number-a.auto.out)) in
    let second : (c.put_number-b.result ≤ c.args.at + 8) × (length c.put_number-b.new.out ≡ length c.args.out.now) = ((omega (arith, c.put_number-b.ensures.ends, ended-most 2 c.args.market 44 (omega (arith, c.ranges.market)), (first).0), c.put_number-b.auto.out ∙ (first).1)) in
    let third : (c.put_number-c.result ≤ c.args.at + 14) × (length c.put_number-c.new.out ≡ length c.args.out.now) = ((omega (arith, c.put_number-c.ensures.ends, ended-most 4 c.args.counted 44 (omega (arith, c.ranges.counted)), (second).0), c.put_number-c.auto.out ∙ (second).1)) in
    let fourth : (c.put_sum-d.result ≤ c.args.at + 36) × (length c.put_sum-d.new.out ≡ length c.args.out.now) = (let e = simp (signed, c.ranges.sum) at c.put_sum-d.ensures in
    (omega (arith, e.ends, sum-most c.args.sum c.ranges.sum, (third).0), c.put_sum-d.auto.out ∙ (third).1)) in
    let e = c.put_number.ensures in record {
      put = line-put c.args.region c.args.market c.args.counted c.args.sum c.args.administered c.args.at c.args.out.now
          (omega (arith, c.ranges.region)) (omega (arith, c.ranges.market)) (omega (arith, c.ranges.counted)) c.ranges.sum (omega (arith, c.ranges.administered)) c.requires
          c.put_number-a.ensures c.put_number-b.ensures c.put_number-c.ensures
          (simp (signed, c.ranges.sum) at c.put_sum-d.ensures) c.put_number.ensures;
      upper_bound = omega (arith, e.ends, ended-most 2 c.args.administered 10 (omega (arith, c.ranges.administered)), (fourth).0);
    }
