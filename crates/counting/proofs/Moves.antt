-- Counts and next places: those of the unmarked regions move. Assumes nothing.
use mathlib.Core.Path.{◌≡◌, sym, ◌∙◌}
use mathlib.Core.Bool.{◌&&◌}
use mathlib.Core.List.{List}
use mathlib.Core.Logic.{⊎_elim}
use Prim.Native.Nat.{ℕ, ◌<◌, ◌≤◌}
use borrow.Author.Tests.{lt-ltb, le-ltb}
use lib.Dec.{eqb, ltb}
use lib.ListN.{length, get_or}
use Rattle.laws.specs.Base.{pick}
use Rattle.laws.specs.Lists.{tabulate}
use Rattle.laws.proofs.Joined.{tabulate-list}
use Rattle.laws.proofs.Lists.{tabulate-same}
use Rattle.laws.proofs.Tests.{lt-or-ge}

module _ (R : ℕ) (marked : List ℕ) (g : ℕ → ℕ) (l : List ℕ) where
  -- region r's number after the entry
  abbrev pub moved : ℕ → ℕ
  moved r = pick (eqb (get_or marked r 0) 0) (g (get_or l r 0)) (get_or l r 0)

  pub moved_all : (after : List ℕ) → length after ≡ 8 → ((r : ℕ) → r < R → get_or after r 0 ≡ moved r)
      → ((r : ℕ) → R ≤ r → get_or after r 0 ≡ get_or l r 0)
      → after ≡ tabulate 8 (λ r. pick (ltb r R && eqb (get_or marked r 0) 0) (g (get_or l r 0)) (get_or l r 0))
  moved_all after n here there =
      sym (tabulate-list 0 after 8 n)
      ∙ tabulate-same 8 _ _
      (λ r p. ⊎_elim (λ (h : r < R). rw (lt-ltb r R h) (here r h)) (λ (h : R ≤ r). rw (le-ltb r R h) (there r h)) (lt-or-ge r R))
