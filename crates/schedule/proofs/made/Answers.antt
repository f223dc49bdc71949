-- `schedule::made` meets its contract, by a law for each way out. Assumes nothing.
use mathlib.Core.Path.{◌≡◌, sym, ap, ◌∙◌}
use mathlib.Core.Bool.{Bool, true}
use mathlib.Core.List.{[], ◌∷◌}
use Prim.Native.Nat.{ℕ, ◌≤◌}
use lib.ListN.{length}
use native.Mathlib.Omega.{arith}
use mir.Syntax.{w32}
use mir.Val.{SFits}
use Rattle.laws.proofs.Integers.{signed}
use Rattle.pricing.specs.Verdict.{refused_at}
use Rattle.pricing.specs.Holding.{lowest, limits_ok}
use Rattle.schedule.specs.Schedule.{sizes_ok, kinds_ok, first_bad, row, refused_by}
use Rattle.schedule.specs.Working.{Days, found_in}
use Rattle.schedule.proofs.Runs.{totals-none, counts-none, room-none, some-is, none-is}
use Rattle.schedule.proofs.Schedules.{days, both-kinds, means, row_is, says-31, says-32, says-19, says-16, says-made}
use borrow.Author.Rules.{rules}
use Rattle.schedule.proofs.made.Goals as goal

pub returns-then-not-sizes_ok : goal.returns-then-not-sizes_ok
returns-then-not-sizes_ok c =
    let a = c.args in
    says-31 a.halves a.cap a.floor a.energy a.prices.now a.kinds.now
    (sym c.sizes_ok.ensures ∙ c.if-not-sizes_ok.true)

pub returns-then-not-kinds_ok : goal.returns-then-not-kinds_ok
returns-then-not-kinds_ok c =
    let a = c.args in
    let past-31 : sizes_ok a.halves a.prices.now a.kinds.now ≡ true = sym c.sizes_ok.ensures ∙ c.if-not-sizes_ok.false in
    says-32 a.halves a.cap a.floor a.energy a.prices.now a.kinds.now past-31
    (sym c.kinds_ok.ensures ∙ c.if-not-kinds_ok.true)

pub returns-then-not-limits_ok : goal.returns-then-not-limits_ok
returns-then-not-limits_ok c =
    let a = c.args in
    let past-31 : sizes_ok a.halves a.prices.now a.kinds.now ≡ true = sym c.sizes_ok.ensures ∙ c.if-not-sizes_ok.false in
    let past-32 : kinds_ok a.kinds.now ≡ true = sym c.kinds_ok.ensures ∙ c.if-not-kinds_ok.false in
    let test-19 : c.limits_ok.result ≡ limits_ok a.cap a.floor = simp (signed, c.ranges.cap, c.ranges.floor) at c.limits_ok.ensures in
    says-19 a.halves a.cap a.floor a.energy a.prices.now a.kinds.now past-31 past-32
    (sym test-19 ∙ c.if-not-limits_ok.true)

pub returns-in-Some : goal.returns-in-Some
returns-in-Some c =
    let a = c.args in
    let found : c.add_days-bad.result ≡ found_in a.energy a.prices.now (length a.prices.now) = rw c.market_of-market.ensures at c.add_days-bad.ensures.value in
    let past-31 : sizes_ok a.halves a.prices.now a.kinds.now ≡ true = sym c.sizes_ok.ensures ∙ c.if-not-sizes_ok.false in
    let past-32 : kinds_ok a.kinds.now ≡ true = sym c.kinds_ok.ensures ∙ c.if-not-kinds_ok.false in
    let test-19 : c.limits_ok.result ≡ limits_ok a.cap a.floor = simp (signed, c.ranges.cap, c.ranges.floor) at c.limits_ok.ensures in
    let past-19 : limits_ok a.cap a.floor ≡ true = sym test-19 ∙ c.if-not-limits_ok.false in
    let first = some-is (length a.prices.now) (first_bad a.energy a.prices.now) c.in-Some.place (sym found ∙ c.in-Some.is) in
    ap (λ (k : ℕ). refused_by (refused_at 16 k)) first.1
    ∙ says-16 a.halves a.cap a.floor a.energy a.prices.now a.kinds.now past-31 past-32 past-19 first.0

pub add_days-bad-requires : goal.add_days-bad-requires
add_days-bad-requires c =
    let a = c.args in
    let past-31 : sizes_ok a.halves a.prices.now a.kinds.now ≡ true = sym c.sizes_ok.ensures ∙ c.if-not-sizes_ok.false in
    let past-32 : kinds_ok a.kinds.now ≡ true = sym c.kinds_ok.ensures ∙ c.if-not-kinds_ok.false in
    record {
      days = (days a.halves a.prices.now a.kinds.now past-31 past-32, room-none);
      totals_value = totals-none a.halves a.prices.now a.kinds.now;
      counts_value = counts-none a.halves a.prices.now a.kinds.now;
    }

pub rows-requires : goal.rows-requires
rows-requires c =
    let a = c.args in
    let found : c.add_days-bad.result ≡ found_in a.energy a.prices.now (length a.prices.now) = rw c.market_of-market.ensures at c.add_days-bad.ensures.value in
    let past-16 : length a.prices.now ≤ first_bad a.energy a.prices.now = none-is (length a.prices.now) (first_bad a.energy a.prices.now) (sym found ∙ c.in_default.is) in
    let past-31 : sizes_ok a.halves a.prices.now a.kinds.now ≡ true = sym c.sizes_ok.ensures ∙ c.if-not-sizes_ok.false in
    let past-32 : kinds_ok a.kinds.now ≡ true = sym c.kinds_ok.ensures ∙ c.if-not-kinds_ok.false in
    let four-weeks : Days a.halves a.prices.now a.kinds.now = days a.halves a.prices.now a.kinds.now past-31 past-32 in
    let both = both-kinds a.kinds.now past-32 in
    rw (c.add_days-bad.ensures.totals_after, c.add_days-bad.ensures.counts_after) (
      means four-weeks 0 (omega arith) a.energy past-16 both.0,
      means four-weeks 1 (omega arith) a.energy past-16 both.1,
    )

pub returns : goal.returns
returns c =
    let a = c.args in
    let found : c.add_days-bad.result ≡ found_in a.energy a.prices.now (length a.prices.now) = rw c.market_of-market.ensures at c.add_days-bad.ensures.value in
    let past-16 : length a.prices.now ≤ first_bad a.energy a.prices.now = none-is (length a.prices.now) (first_bad a.energy a.prices.now) (sym found ∙ c.in_default.is) in
    let past-31 : sizes_ok a.halves a.prices.now a.kinds.now ≡ true = sym c.sizes_ok.ensures ∙ c.if-not-sizes_ok.false in
    let past-32 : kinds_ok a.kinds.now ≡ true = sym c.kinds_ok.ensures ∙ c.if-not-kinds_ok.false in
    let test-19 : c.limits_ok.result ≡ limits_ok a.cap a.floor = simp (signed, c.ranges.cap, c.ranges.floor) at c.limits_ok.ensures in
    let past-19 : limits_ok a.cap a.floor ≡ true = sym test-19 ∙ c.if-not-limits_ok.false in
    let four-weeks : Days a.halves a.prices.now a.kinds.now = days a.halves a.prices.now a.kinds.now past-31 past-32 in
    -- the rows as the definition has them
    let low = lowest a.energy a.floor in
    let low-is : c.lowest-low.result ≡ low =
    (simp (signed, c.ranges.floor) at c.lowest-low.ensures) ∙ ap (λ (e : Bool). lowest e a.floor) c.market_of-market.ensures in
    let low-fits : SFits w32 c.lowest-low.result = search rules in
    let made = rw (low-is, c.add_days-bad.ensures.totals_after, c.add_days-bad.ensures.counts_after) at (simp (signed, low-fits, c.ranges.cap) at c.rows.ensures) in
    let rows_are : c.rows.result ≡ row a.halves low a.cap a.prices.now a.kinds.now 0 ∷ row a.halves low a.cap a.prices.now a.kinds.now 1 ∷ [] =
    made ∙ (λ i. row_is four-weeks 0 (omega arith) low a.cap i ∷ row_is four-weeks 1 (omega arith) low a.cap i ∷ []) in
    rw rows_are (says-made a.halves a.cap a.floor a.energy a.prices.now a.kinds.now past-31 past-32 past-19 past-16)
