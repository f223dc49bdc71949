-- `interval_records::record::head_verdict` meets its contract, by a law for each way out. Assumes nothing.
use mathlib.Core.Path.{◌≡◌, sym, ap, ◌∙◌}
use mathlib.Core.Bool.{true}
use native.Mathlib.Omega.{arith}
use borrow.Author.Rules.{rules}
use Rattle.book.specs.Record.{markets_of, is_accepted, verdict}
use Rattle.interval_records.specs.Record.{due_verdict}
use Rattle.interval_records.proofs.Wholes.{Due, accepted-due}
use Rattle.book.proofs.Ways.{is-accepted, is-refused}
use Rattle.interval_records.proofs.Verdicts.{head-due, head-41, head-0}
use Rattle.interval_records.proofs.record.head_verdict.Goals as goal

pub returns-in_err-due_verdict : goal.returns-in_err-due_verdict
returns-in_err-due_verdict c =
    let d = c.due_verdict in
    let passed_on : c.from_residual.result ≡ c.due_verdict.result = search rules in
    ap verdict passed_on ∙ c.due_verdict.ensures ∙ head-due _ _ _ _ (is-refused _ _ c.due_verdict.ensures _ c.in_err-due_verdict.was).1

pub overflow_add-at : goal.overflow_add-at
overflow_add-at c =
    let passed : let a = c.args in
    is_accepted (due_verdict 16 (markets_of a.services) a.bytes.now a.at) ≡ true = ap is_accepted (is-accepted _ _ c.due_verdict.ensures _ c.in_ok-due_verdict.was) in
    let head : let a = c.args in
    Due 16 (markets_of a.services) a.bytes.now a.at = accepted-due 16 _ (omega arith) _ _ (passed) in
    let d = (head).room in search rules

pub get_u8-requires : goal.get_u8-requires
get_u8-requires c =
    let passed : let a = c.args in
    is_accepted (due_verdict 16 (markets_of a.services) a.bytes.now a.at) ≡ true = ap is_accepted (is-accepted _ _ c.due_verdict.ensures _ c.in_ok-due_verdict.was) in
    let head : let a = c.args in
    Due 16 (markets_of a.services) a.bytes.now a.at = accepted-due 16 _ (omega arith) _ _ (passed) in
    let d = (head).room in omega arith

pub returns-then-get_u8-regions : goal.returns-then-get_u8-regions
returns-then-get_u8-regions c =
    let passed : let a = c.args in
    is_accepted (due_verdict 16 (markets_of a.services) a.bytes.now a.at) ≡ true = ap is_accepted (is-accepted _ _ c.due_verdict.ensures _ c.in_ok-due_verdict.was) in
    head-41 _ _ _ _ (passed) (λ e. c.if-get_u8-regions.true (c.get_u8.ensures ∙ e))

pub returns : goal.returns
returns c =
    let passed : let a = c.args in
    is_accepted (due_verdict 16 (markets_of a.services) a.bytes.now a.at) ≡ true = ap is_accepted (is-accepted _ _ c.due_verdict.ensures _ c.in_ok-due_verdict.was) in
    head-0 _ _ _ _ (passed) (sym c.get_u8.ensures ∙ c.if-get_u8-regions.false)
