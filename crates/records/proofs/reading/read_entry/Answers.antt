-- `records::reading::read_entry` meets its contract. The parts of the entry go one after the other. Assumes nothing.
use Rattle.records.proofs.Readings.{signed-read, factors-read, table-read}
use Rattle.records.proofs.reading.read_entry.Goals as goal

pub returns : goal.returns
returns c =
    let e = c.requires.lengths_value.0 in record { numbers_after = signed-read _ _ _ e _ _ _ _ c.get_words.ensures c.get_words-2.ensures c.get_words-3.ensures; factors_after = factors-read _ _ _ e _ _ c.get_words-4.ensures; table_after = table-read _ _ _ e _ _ c.get_words-5.ensures }
