-- `playing::play_entry` meets its contract. The contents are read, entered and answered. Assumes nothing.
use Rattle.playing.proofs.Parts.{read-asks, enter-asks, book-left, ring-left, table-left, answer-left}
use Rattle.playing.proofs.play_entry.Goals as goal

pub enter_read-entered-requires : goal.enter_read-entered-requires
enter_read-entered-requires c =
    let p = c.requires in
    let q = c.read_entry.ensures in
    let e = c.lengths_at-lengths.ensures in
    let read = read-asks _ _ _ e _ _ _ p.at_in_bounds.1 p.at_in_bounds_2.0 p.at_in_bounds_2.1 p.at_in_bounds_3.0 in
    let r = enter-asks _ _ _ e _ _ _ _ _ _ _ q.numbers_after q.factors_after q.table_after read p.at_in_bounds_3.1 in
    record { lengths_value = r.0; schedule_in_bounds = r.1.0; numbers_value = r.1.1.0; factors_value = r.1.1.1 }

pub returns : goal.returns
returns c =
    let q = c.read_entry.ensures in
    let e = c.lengths_at-lengths.ensures in
    let u = c.enter_read-entered.ensures in record { value = book-left _ _ _ e _ _ c.enter_read-entered.result _ u.table_after; ring_after = ring-left _ _ _ e _ _ _ u.ring_after; numbers_after = q.numbers_after; factors_after = q.factors_after; table_after = table-left _ _ _ e _ _ c.enter_read-entered.result _ u.table_after _ _ q.table_after; answers_after = answer-left _ _ _ e _ _ c.enter_read-entered.result _ u.table_after _ _ _ c.put_entered.ensures }
