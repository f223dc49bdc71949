-- A text put into a buffer. Assumes nothing.
use Rattle.std.specs.Prelude.{◌≡◌, List, ℕ, ◌+◌, length}
use Rattle.amount.specs.Text.{paste}

-- `text` was put at `at` into a buffer that held `before` and holds `after`, and ends at `end`
pub record Put (text : List ℕ) (at end : ℕ) (before after : List ℕ) : Type 0 where
  pub ends : end ≡ at + length text
  pub bytes : after ≡ paste at text before
