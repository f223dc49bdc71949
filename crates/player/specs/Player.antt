-- What the program plays: a list of calls of at most 65,536 bytes, on a book of at most 16,384 places. Assumes nothing.
use Rattle.std.specs.Prelude.{Bool, true, false, List, ℕ, ltb, length}
use Rattle.laws.specs.Base.{pick}
use Rattle.records.specs.Reading.{opens}
use Rattle.replay.specs.Replay.{size_in}
use Rattle.replay.specs.Promise.{Sizes}

-- more than 65,536 bytes, or an opening that asks for more than 16,384 places of a ring: the program says 29
unfoldable pub too_large : List ℕ → Bool
too_large c = pick (ltb 65536 (length c)) true (pick (opens c) (ltb 16384 (size_in c)) false)

-- how long what the program lends is
abbrev pub lent : Sizes
lent = record { answers = 163840; ring = 16384; other = 16384; image = 65684; numbers = 16384; factors = 16384; table = 16384 }
