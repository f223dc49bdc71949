-- `interval_records::in_order::records_verdict` meets its contract, by a law for each way out. Assumes nothing.
use borrow.Author.Rules.{rules}
use mathlib.Core.Path.{◌≡◌, refl, sym, ap, ◌∙◌}
use mathlib.Core.Bool.{true}
use mathlib.Core.List.{List}
use Prim.Native.Nat.{ℕ, ◌+◌, ◌*◌, ◌≤◌, ◌<◌}
use native.Mathlib.Omega.{arith}
use lib.ListN.{length}
use Rattle.laws.specs.Bytes.{number_at}
use Rattle.pricing.specs.Verdict.{Verdict}
use Rattle.book.specs.Record.{markets_of, verdict, is_accepted}
use Rattle.interval_records.specs.Layout.{head_length, region_length}
use Rattle.interval_records.specs.Record.{due_verdict, head_verdict, link_verdict, record_place}
use Rattle.interval_records.specs.Working.{Stands, tested_verdict}
use Rattle.interval_records.proofs.Wholes.{accepted-due}
use Rattle.interval_records.proofs.Heads.{head-is}
use Rattle.book.proofs.Ways.{is-accepted, is-refused}
use Rattle.interval_records.proofs.Verdicts.{tested-due, tested-own, first-all, first-stop, first_step, first_done, records-head, records-region, records-rest}
use Rattle.interval_records.proofs.in_order.records_verdict.Goals as goal

-- what 40 and 41 said of record k, and what its test may know of it
module _ (M : ℕ) (bytes : List ℕ) (first k size : ℕ) (s : size ≡ region_length M) (said : Verdict) (d : said ≡ due_verdict 17 M bytes (first + k * size)) where
  at-place : said ≡ due_verdict 17 M bytes (record_place M first k)
  at-place = d ∙ ap (λ (n : ℕ). due_verdict 17 M bytes (first + k * n)) s

  module _ (p : is_accepted said ≡ true) where
    passed : is_accepted (due_verdict 17 M bytes (record_place M first k)) ≡ true
    passed = rw at-place at p

    room : record_place M first k + region_length M ≤ length bytes
    room = (accepted-due 17 M (omega arith) bytes (record_place M first k) passed).room

    stands : (R region : ℕ) → k < R → region < 256 → region ≡ number_at bytes (first + k * size + 6) 1 → Stands M bytes first R k region
    stands R region l b e = (l, b, rw s at e, room)

pub returns-in_err-head_verdict : goal.returns-in_err-head_verdict
returns-in_err-head_verdict g c = λ own says.
    let passed_on : c.from_residual.result ≡ c.head_verdict.result = search rules in
    ap verdict passed_on ∙ c.head_verdict.ensures ∙ records-head own _ _ _ _ _ (is-refused _ _ c.head_verdict.ensures _ c.in_err-head_verdict.was).1

pub loop-k-init : goal.loop-k-init
loop-k-init g c =
    let a = c.args in
    let head : is_accepted (head_verdict a.regions (markets_of a.services) a.bytes.now a.at) ≡ true = ap is_accepted (is-accepted _ _ c.head_verdict.ensures _ c.in_ok-head_verdict.was) in
    let r = (head-is _ _ _ _ head).0.room in
    (omega arith, omega (arith, r), λ own says. first-all _ _)

pub returns-in_err-due_verdict : goal.returns-in_err-due_verdict
returns-in_err-due_verdict g c = λ own says.
    let a = c.args in
    let head = ap is_accepted (is-accepted _ _ c.head_verdict.ensures _ c.in_ok-head_verdict.was) in
    let due = at-place _ _ (a.at + 12) c.loop-k.k c.region_length-size.result c.region_length-size.ensures.0 _ c.due_verdict.ensures in
    let passed_on : c.from_residual-in_err-due_verdict.result ≡ c.due_verdict.result = search rules in
    let tested = due ∙ tested-due own _ _ _ _ (is-refused _ _ due _ c.in_err-due_verdict.was).1 in
    let first = tested ∙ first-stop _ _ (tested_verdict own (markets_of a.services) a.bytes.now (a.at + head_length)) (omega arith) (is-refused _ _ tested _ c.in_err-due_verdict.was).1 ∙ c.loop-k.invariant.2 own says in
    ap verdict passed_on ∙ first ∙ records-region own _ _ _ _ _ head (is-refused _ _ first _ c.in_err-due_verdict.was).1

pub get_u8-requires : goal.get_u8-requires
get_u8-requires g c =
    let s = c.region_length-size.ensures.0 in
    let p = ap is_accepted (is-accepted _ _ c.due_verdict.ensures _ c.in_ok-due_verdict.was) in
    let r = room _ _ (c.args.at + 12) c.loop-k.k c.region_length-size.result s _ refl p in
    let e = ap (λ (n : ℕ). c.args.at + 12 + c.loop-k.k * n) s in
    omega (arith, e, r)

pub test-requires : goal.test-requires
test-requires g c =
    let a = c.args in
    let below : c.get_u8.result < 256 = search rules in
    let p = ap is_accepted (is-accepted _ _ c.due_verdict.ensures _ c.in_ok-due_verdict.was) in
    let there = stands _ _ (a.at + 12) c.loop-k.k c.region_length-size.result c.region_length-size.ensures.0 _ refl p a.regions c.get_u8.result (omega arith) below c.get_u8.ensures in
    let may = c.requires c.loop-k.k c.get_u8.result there in
    search rules

pub returns-in_err-test : goal.returns-in_err-test
returns-in_err-test g c = λ own says.
    let a = c.args in
    let head = ap is_accepted (is-accepted _ _ c.head_verdict.ensures _ c.in_ok-head_verdict.was) in
    let below : c.get_u8.result < 256 = search rules in
    let s = c.region_length-size.ensures.0 in
    let p = ap is_accepted (is-accepted _ _ c.due_verdict.ensures _ c.in_ok-due_verdict.was) in
    let there = stands _ _ (a.at + 12) c.loop-k.k c.region_length-size.result s _ refl p a.regions c.get_u8.result (omega arith) below c.get_u8.ensures in
    let said = says c.loop-k.k c.get_u8.result c.test.result there c.test.ensures in
    let passed_on : c.from_residual-in_err-test.result ≡ c.test.result = search rules in
    let tested = said ∙ tested-own own _ _ _ _ (passed _ _ (a.at + 12) c.loop-k.k c.region_length-size.result s _ refl p) in
    let first = tested ∙ first-stop _ _ (tested_verdict own (markets_of a.services) a.bytes.now (a.at + head_length)) (omega arith) (is-refused _ _ tested _ c.in_err-test.was).1 ∙ c.loop-k.invariant.2 own says in
    ap verdict passed_on ∙ first ∙ records-region own _ _ _ _ _ head (is-refused _ _ first _ c.in_err-test.was).1

pub loop-k-preserved : goal.loop-k-preserved
loop-k-preserved g c =
    let a = c.args in
    let below : c.get_u8.result < 256 = search rules in
    let s = c.region_length-size.ensures.0 in
    let p = ap is_accepted (is-accepted _ _ c.due_verdict.ensures _ c.in_ok-due_verdict.was) in
    let there = stands _ _ (a.at + 12) c.loop-k.k c.region_length-size.result s _ refl p a.regions c.get_u8.result (omega arith) below c.get_u8.ensures in (
      omega arith,
      omega (arith, room _ _ (a.at + 12) c.loop-k.k c.region_length-size.result s _ refl p),
      λ own says.
          let said = says c.loop-k.k c.get_u8.result c.test.result there c.test.ensures in
          let tested = said ∙ tested-own own _ _ _ _ (passed _ _ (a.at + 12) c.loop-k.k c.region_length-size.result s _ refl p) in
          first_step _ c.loop-k.k (tested_verdict own (markets_of a.services) a.bytes.now (a.at + head_length)) (omega arith)
          (ap is_accepted (is-accepted _ _ tested _ c.in_ok-test.was)) ∙ c.loop-k.invariant.2 own says,
    )

pub returns : goal.returns
returns g c = λ own says.
    let a = c.args in
    let head = ap is_accepted (is-accepted _ _ c.head_verdict.ensures _ c.in_ok-head_verdict.was) in
    let place = ap (λ (n : ℕ). link_verdict a.linked (markets_of a.services) a.bytes.now (a.at + 12 + a.regions * n)) c.region_length-size.ensures.0 in
    let all = first_done _ c.loop-k.k (tested_verdict own (markets_of a.services) a.bytes.now (a.at + head_length)) (omega arith) ∙ c.loop-k.invariant.2 own says in
    c.link_verdict.ensures ∙ place ∙ records-rest own _ _ _ _ _ head (sym (ap is_accepted all))
