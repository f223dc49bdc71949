-- `records::reading::entry_size_at` meets its contract. Assumes nothing.
use mathlib.Core.Path.{sym, ap, ◌∙◌}
use native.Mathlib.Omega.{arith}
use Rattle.records.specs.Reading.{entry_size}
use Rattle.records.specs.Working.{some_size}
use Rattle.records.proofs.Readings.{sized, entry-short, entry_zero, entry_whole, lengths-small}
use Rattle.records.proofs.reading.entry_size_at.Goals as goal

pub returns-then-bytes-at-lt40 : goal.returns-then-bytes-at-lt40
returns-then-bytes-at-lt40 c = ap some_size (entry-short _ _ c.if-bytes-at-lt40.true)

pub returns-then-get_u8-ne0 : goal.returns-then-get_u8-ne0
returns-then-get_u8-ne0 c =
    ap some_size (entry_zero _ _ c.if-bytes-at-lt40.false (λ e. c.if-get_u8-ne0.true (c.get_u8.ensures ∙ e)))

pub entry_size-requires : goal.entry_size-requires
entry_size-requires c =
    lengths-small _ _ (λ i. omega (arith, c.type_inv.bytes i)) (omega arith) _ c.lengths_at-lengths.ensures

pub returns : goal.returns
returns c =
    let size = entry_whole _ _ c.if-bytes-at-lt40.false (sym c.get_u8.ensures ∙ c.if-get_u8-ne0.false) _ (c.entry_size.ensures ∙ ap entry_size c.lengths_at-lengths.ensures) in
    sized _ _ size (omega (arith, c.entry_size.ensures))
