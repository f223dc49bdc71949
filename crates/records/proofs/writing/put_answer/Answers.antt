-- `records::writing::put_answer` meets its contract: four numbers one after the other. Assumes nothing.
use Rattle.book.specs.Record.{verdict}
use Rattle.records.proofs.Written.{head-put}
use Rattle.records.proofs.writing.put_answer.Goals as goal

pub returns : goal.returns
returns g c =
    head-put c.args.answers.now _ _ _ _ c.args.at c.args.size c.args.kind (verdict c.args.answer) _ _ c.number_in-number.ensures c.place_in-place.ensures
    c.put.ensures c.put-2.ensures c.put-3.ensures c.put-4.ensures
