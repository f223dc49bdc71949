-- What only proofs need: an image whose head stands whole. Assumes nothing.
use Rattle.std.specs.Prelude.{◌≡◌, true, List, ℕ, ◌≤◌, length}
use Rattle.head.specs.Layout.{is_second}

-- with the tail that its kind has
abbrev pub Whole : List ℕ → Type 0
Whole bytes = (148 ≤ length bytes) × (is_second bytes ≡ true → 156 ≤ length bytes)
