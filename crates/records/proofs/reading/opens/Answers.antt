-- `records::reading::opens` meets its contract. Assumes nothing.
use Rattle.records.proofs.Readings.{opens-short, opens-whole}
use Rattle.records.proofs.reading.opens.Goals as goal

pub returns-then-bytes-lt38 : goal.returns-then-bytes-lt38
returns-then-bytes-lt38 c = opens-short _ c.if-bytes-lt38.true

pub returns : goal.returns
returns c = rw (c.get_u32.ensures, c.get_u16.ensures, c.get_u8.ensures) (opens-whole _ c.if-bytes-lt38.false)
