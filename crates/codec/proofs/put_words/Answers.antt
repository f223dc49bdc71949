-- `codec::put_words` meets its contract. The loop's invariant: what is still to go is the same at every turn. Assumes nothing.
use mathlib.Core.Path.{◌∙◌}
use Prim.Native.Nat.{◌+◌}
use native.Mathlib.Omega.{arith}
use lib.IntN.{pos}
use lib.ListN.{get_or}
use mir.Facts.{to_z-of_z}
use Rattle.laws.proofs.Words.{words_step, words-done}
use borrow.Author.Rules.{rules}
use mir.Syntax.{w32}
use mir.Val.{SFits}
use Rattle.codec.proofs.put_words.Goals as goal

pub loop-i-preserved : goal.loop-i-preserved
loop-i-preserved c =
    let l = c.loop-i in
    let a = c.args in
    let f : SFits w32 (get_or a.numbers.now (a.from + l.i) (pos 0)) = search rules in (
      omega arith,
      c.put_word.auto.bytes ∙ c.loop-i.invariant.1,
      rw c.put_word.ensures
          (words_step (λ k. get_or a.numbers.now (a.from + k) (pos 0)) _ _ _ _ _ _ (omega arith) (to_z-of_z f) c.loop-i.invariant.2),
    )

pub returns : goal.returns
returns c = words-done _ _ _ _ _ _ (omega arith) c.loop-i.invariant.2
