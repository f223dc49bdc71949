-- `codec::get_word` meets its contract: the sum of the four bytes, each by its worth, is their number. Assumes nothing.
use mathlib.Core.Path.{ap, ◌∙◌}
use mir.Syntax.{w32}
use mir.Val.{SFits, to_z}
use mir.Facts.{to_z-of_z}
use borrow.Author.Rules.{rules}
use Rattle.codec.proofs.Turns.{word_number}
use Rattle.codec.proofs.get_word.Goals as goal

pub returns : goal.returns
returns c =
    let f : SFits w32 c.from_le_bytes.result = search rules in
    to_z-of_z f ∙ c.from_le_bytes.ensures ∙ ap (to_z w32) (word_number _ _ (search rules))
