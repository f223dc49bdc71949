-- `records::writing::put_entered` meets its contract: the head, the count and the table. Assumes nothing.
use mathlib.Core.Path.{◌≡◌, refl, ◌∙◌}
use Prim.Native.Nat.{ℕ}
use Rattle.std.specs.Prelude.{Result, Ok, Err}
use Rattle.std.specs.Result.{result_unwrap_or}
use Rattle.book.specs.declared.record.Refusal.{Refusal}
use Rattle.book.specs.Record.{verdict}
use Rattle.entries.specs.Entering.{count}
use Rattle.records.proofs.Written.{entry-put}
use Rattle.records.proofs.writing.put_entered.Goals as goal

counted : (a : Result ℕ Refusal) → result_unwrap_or a 0 ≡ count a
counted (Ok n) = refl
counted (Err r) = refl

pub returns : goal.returns
returns c =
    let a = c.args in
    entry-put a.answers.now _ _ _ a.at (verdict a.answer) (count a.answer) a.table.now _ _ refl (c.unwrap_or-count.ensures ∙ counted a.answer)
    c.put_answer.ensures c.put.ensures c.put_words.ensures
