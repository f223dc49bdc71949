-- `records::writing::put_reported` meets its contract: the head and four numbers. Assumes nothing.
use mathlib.Core.Path.{◌≡◌, refl, ap, ◌∙◌}
use mir.Syntax.{w64}
use mir.Val.{of_z, SFits}
use mir.Facts.{to_z-of_z}
use lib.IntN.{pos}
use borrow.Author.Rules.{rules}
use Rattle.std.specs.Prelude.{Result, Ok, Err}
use Rattle.std.specs.Result.{result_unwrap_or}
use Rattle.book.specs.declared.record.Refusal.{Refusal}
use Rattle.book.specs.Record.{verdict}
use Rattle.book_calls.specs.declared.report.Reading.{Reading}
use Rattle.book_calls.specs.Report.{Numbers, numbers}
use lib.Seq.{sets}
use Rattle.records.specs.Writing.{report_record}
use Rattle.records.proofs.Written.{report-put}
use Rattle.records.proofs.writing.put_reported.Goals as goal

abbrev nothing : Reading
nothing = record { sum = pos 0; counted = 0; mark = 0; entries = 0 }

abbrev numbers_as : Result Reading Refusal → Reading → Numbers
numbers_as a v = record { verdict = verdict a; sum = v.sum; counted = v.counted; mark = v.mark; entries = v.entries }

-- the values of an answer, zeros beside a refusal
values-are : (a : Result Reading Refusal) → numbers_as a (result_unwrap_or a nothing) ≡ numbers a
values-are (Ok v) = refl
values-are (Err r) = refl

pub returns : goal.returns
returns c =
    let a = c.args in
    let v = c.unwrap_or-reading.result in
    let said : numbers_as a.answer v ≡ numbers a.answer = ap (numbers_as a.answer) c.unwrap_or-reading.ensures ∙ values-are a.answer in
    let f : SFits w64 v.sum = search rules in
    report-put a.answers.now _ _ _ _ _ a.at (numbers_as a.answer v) _
    (c.bits64.ensures ∙ ap (of_z w64) (to_z-of_z f))
    c.put_answer.ensures c.put.ensures c.put-2.ensures c.put-3.ensures c.put-4.ensures
    ∙ ap (λ (n : Numbers). sets a.answers.now a.at (report_record n)) said
