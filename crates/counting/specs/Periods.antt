-- Step 6: the periods, and the position of the next entry. Assumes nothing.
use Rattle.std.specs.Prelude.{Bool, List, ℕ, ◌+◌, ◌*◌, eqb, ℤ, pos, get_or}
use Rattle.std.specs.Int.Signed.{lt_z}
use Rattle.laws.specs.Base.{pick}
use Rattle.laws.specs.Lists.{tabulate}
use Rattle.book.specs.Validity.{used_place}

-- "position D−1", where D = 6 × H
abbrev pub last_of_day : ℕ → ℕ → Bool
last_of_day halves position = eqb (position + 1) (6 * halves)

-- "a day's position advances by one each and wraps from D−1 to 0"
abbrev pub position_after : ℕ → ℕ → ℕ
position_after halves position = pick (last_of_day halves position) 0 (position + 1)

-- "sum above the threshold, administered from the next interval; otherwise, at position D−1, not administered; otherwise as before"
abbrev pub mark_after : ℤ → Bool → ℤ → ℕ → ℕ
mark_after threshold last sum mark = pick (lt_z threshold sum) 1 (pick last 0 mark)

-- "Every market": marked regions too. `sums` are those after step 5
abbrev pub marks_after : ℕ → ℕ → ℤ → Bool → List ℤ → List ℕ → List ℕ
marks_after regions services threshold last sums marks =
    tabulate 88 (λ k. pick (used_place regions services k) (mark_after threshold last (get_or sums k (pos 0)) (get_or marks k 0)) (get_or marks k 0))
