-- `sheet::text::put_number` meets its contract. Assumes nothing.
use Rattle.amount.specs.Text.{decimal}
use Rattle.sheet.proofs.Puts.{put_byte}
use Rattle.sheet.proofs.text.put_number.Goals as goal

pub returns : goal.returns
returns c =
    let r = c.put_decimal-end.ensures in
    put_byte (decimal c.args.n) c.args.at _ c.args.last c.args.out.now _ c.requires (record { ends = r.value; bytes = r.buffer_after })
