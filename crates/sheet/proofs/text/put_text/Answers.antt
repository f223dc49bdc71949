-- `sheet::text::put_text` meets its contract. Assumes nothing.
use native.Mathlib.Omega.{arith}
use Rattle.sheet.proofs.Puts.{put-copied}
use Rattle.sheet.proofs.text.put_text.Goals as goal

pub returns : goal.returns
returns c = put-copied c.args.text.now c.args.out.now _ c.args.at _ (omega arith) c.copy_from_slice.ensures.after
