-- `interval_rewriter::any_order::records_verdict` meets its contract. Assumes nothing.
use borrow.Author.Rules.{rules}
use mathlib.Core.Path.{◌≡◌, ap, ◌∙◌}
use Prim.Native.Nat.{ℕ, ◌+◌}
use Rattle.book.specs.Record.{markets_of, verdict}
use Rattle.interval_records.specs.Layout.{head_length}
use Rattle.interval_rewriter.specs.Working.{stray_verdict}
use Rattle.interval_rewriter.proofs.Verdicts.{stray-own, records-any}
use Rattle.interval_rewriter.proofs.any_order.records_verdict.Goals as goal

pub returns : goal.returns
returns c =
    let a = c.args in
    let stray : ℕ → ℕ → _ = stray_verdict a.regions (markets_of a.services) a.bytes.now (a.at + head_length) in
    c.records_verdict.ensures (stray-own a.regions (markets_of a.services) a.bytes.now a.at)
    (λ k region answer there said. let own : verdict answer ≡ stray k region = search rules in own ∙ ap (stray k) there.2)
    ∙ records-any a.linked a.regions (markets_of a.services) a.bytes.now a.at
