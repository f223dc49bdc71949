-- `interval_records::record::due_verdict` meets its contract, by a law for each way out. Assumes nothing.
use mathlib.Core.Path.{◌≡◌, sym, ◌∙◌}
use mathlib.Core.Bool.{true}
use native.Mathlib.Omega.{arith}
use borrow.Author.Rules.{rules}
use Rattle.book.specs.Record.{markets_of}
use Rattle.interval_records.specs.Record.{whole}
use Rattle.interval_records.proofs.Wholes.{whole_is}
use Rattle.interval_records.proofs.Verdicts.{due-40, due-41, due-0}
use Rattle.interval_records.proofs.record.due_verdict.Goals as goal

pub returns-then-not-whole : goal.returns-then-not-whole
returns-then-not-whole c = due-40 _ _ _ _ (sym c.whole.ensures ∙ c.if-not-whole.true)

pub overflow_add-at : goal.overflow_add-at
overflow_add-at c =
    let stands : let a = c.args in whole (markets_of a.services) a.bytes.now a.at ≡ true = sym c.whole.ensures ∙ c.if-not-whole.false in
    let w = whole_is _ _ _ (stands) in search rules

pub get_u16-requires : goal.get_u16-requires
get_u16-requires c =
    let stands : let a = c.args in whole (markets_of a.services) a.bytes.now a.at ≡ true = sym c.whole.ensures ∙ c.if-not-whole.false in
    let w = whole_is _ _ _ (stands) in omega arith

pub returns-then-get_u16-kind : goal.returns-then-get_u16-kind
returns-then-get_u16-kind c =
    let stands : let a = c.args in whole (markets_of a.services) a.bytes.now a.at ≡ true = sym c.whole.ensures ∙ c.if-not-whole.false in
    due-41 _ _ _ _ (stands) (λ e. c.if-get_u16-kind.true (c.get_u16.ensures ∙ e))

pub returns : goal.returns
returns c =
    let stands : let a = c.args in whole (markets_of a.services) a.bytes.now a.at ≡ true = sym c.whole.ensures ∙ c.if-not-whole.false in
    due-0 _ _ _ _ (stands) (sym c.get_u16.ensures ∙ c.if-get_u16-kind.false)
