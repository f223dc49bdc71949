-- `codec::put_word` meets its contract: the four bytes that are copied are those of z's bits. Assumes nothing.
use mathlib.Core.Path.{◌∙◌}
use mir.Syntax.{w32}
use mir.Val.{SFits}
use mir.Facts.{to_z-of_z}
use borrow.Author.Rules.{rules}
use Rattle.codec.proofs.Turns.{word-copied}
use Rattle.codec.proofs.put_word.Goals as goal

pub returns : goal.returns
returns c =
    let f : SFits w32 c.args.z = search rules in
    word-copied _ _ _ _ c.requires (c.copy_from_slice.ensures.after ∙ simp to_z-of_z at c.to_le_bytes.ensures)
