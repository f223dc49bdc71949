-- `playing::enter_read` meets its contract. The parts of the record are its entry. Assumes nothing.
use Rattle.playing.proofs.Parts.{parts-left}
use Rattle.playing.proofs.enter_read.Goals as goal

pub returns : goal.returns
returns c =
    let p = c.requires in
    let r =
    parts-left _ _ _ p.lengths_value.0 _ _ p.numbers_value p.factors_value.0 _ _ _ _ c.get_u8-kind.ensures c.get_u32-number.ensures _ p.factors_value.1 c.enter.result
    c.enter.new.ring _ c.enter.ensures in
    record { table_after = r.0; ring_after = r.1 }
