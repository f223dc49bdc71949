-- `codec::get_u8` meets its contract. Assumes nothing.
use mathlib.Core.Path.{sym}
use Rattle.laws.proofs.Bytes.{number-one}
use borrow.Author.Rules.{rules}
use Rattle.codec.proofs.get_u8.Goals as goal

pub returns : goal.returns
returns c = sym (number-one _ _ (search rules))
