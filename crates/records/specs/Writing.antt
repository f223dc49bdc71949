-- Records of answers, as bytes (docs/RECORDS.md). Assumes nothing.
use Rattle.std.specs.Prelude.{List, ◌++◌, ℕ, ◌+◌, ◌*◌, ℤ, length}
use Rattle.std.specs.Int.{w64}
use Rattle.std.proofs.Common.{of_z}
use Rattle.laws.specs.Bytes.{le, words}
use Rattle.pricing.specs.Verdict.{Verdict}
use Rattle.book_calls.specs.Report.{Numbers}

-- an answer begins with its length, four bytes, the call's kind, two, and number and place, four each, both 0 for an acceptance
unfoldable pub head_of : ℕ → ℕ → Verdict → List ℕ
head_of size kind v = le 4 size ++ (le 2 kind ++ (le 4 v.number ++ le 4 v.place))

-- an answer without values: that of an opening, a setting or a restart
abbrev pub plain_record : ℕ → Verdict → List ℕ
plain_record kind v = head_of 14 kind v

-- of an entry: the count, four bytes, and the table as it then stands, four each
abbrev pub entry_record : Verdict → ℕ → List ℤ → List ℕ
entry_record v count table = head_of (18 + 4 * length table) 65 v ++ (le 4 count ++ words table)

-- of a report: the sum, eight bytes, prices counted, period mark and entries taken, four each
unfoldable pub values_of : Numbers → List ℕ
values_of n = le 8 (of_z w64 n.sum) ++ (le 4 n.counted ++ (le 4 n.mark ++ le 4 n.entries))

abbrev pub report_record : Numbers → List ℕ
report_record n = head_of 34 68 n.verdict ++ values_of n
