-- Words of the functions that read a call's record: a size as an Option. Assumes nothing.
use Rattle.std.specs.Prelude.{List, ℕ, eqb, Option, Some, None}
use Rattle.laws.specs.Base.{pick}
use Rattle.records.specs.declared.reading.Room.{Room}
use Rattle.records.specs.declared.reading.Sizes.{Sizes}
use Rattle.records.specs.Reading.{call_size, answer_size, goes}

-- none where the size is 0
abbrev pub some_size : ℕ → Option ℕ
some_size n = pick (eqb n 0) None (Some n)

-- the length of the record of a call at a place, and that of its answer's; the two where it is played
abbrev pub sizes_at : List ℕ → ℕ → Sizes
sizes_at c at = record { call = call_size c at; answer = answer_size c at }

abbrev pub next_call : Room → List ℕ → ℕ → ℕ → Option Sizes
next_call m c at left = pick (goes m c at left) (Some (sizes_at c at)) None
