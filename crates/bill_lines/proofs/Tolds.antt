-- What telling a line comes to, and how many lines in front are right, by the way the code takes. Assumes nothing.
use mathlib.Core.Path.{◌≡◌, refl, ap, ◌∙◌}
use mathlib.Core.Bool.{Bool, true, false}
use Prim.Native.Nat.{ℕ, ◌+◌, ◌<◌, ◌≤◌}
use lib.Dec.{leb, ltb, eqb}
use lib.ListN.{length, get_or}
use borrow.Author.Tests.{ltb-true, lt-ltb, le-ltb, lt-leb, le-leb, eq-eqb}
use Rattle.laws.proofs.Tests.{and_left}
use Rattle.laws.specs.Base.{pick}
use Rattle.bill_lines.specs.Lines.{Lines, Shown, right_at, most_energy}
use Rattle.bill_lines.specs.Working.{line_told, leads_to}

module _ (l : Lines) (i : ℕ) (s : Shown) where
  -- there is no such line
  pub told-missing : ltb i (length l.numbers) ≡ false → false ≡ line_told l i s
  unfolding line_told
  told-missing e = rw e refl

  -- it is out of range
  pub told-heavy : ltb i (length l.numbers) ≡ true → leb (get_or l.energy i 0) most_energy ≡ false → false ≡ line_told l i s
  unfolding line_told
  told-heavy e h = rw (e, h) refl

  pub told-right : ltb i (length l.numbers) ≡ true → leb (get_or l.energy i 0) most_energy ≡ true → right_at l i s ≡ line_told l i s
  unfolding line_told
  told-right e h = rw (e, h) refl

  -- a line that was told to be right is there
  pub told-there : line_told l i s ≡ true → i < length l.numbers
  unfolding line_told
  told-there e = ltb-true _ _ (and_left (ltb i (length l.numbers)) _ e)

-- ---- how many of the first lines are right, by the way the code takes: v are the lines as it reads them
module _ (v l : Lines) (is : v ≡ l) (right count : ℕ) (s : Shown) (q : right ≡ count) where
  leads-by : (b : Bool) → b ≡ line_told v count s → pick b (right + 1) right ≡ leads_to l right count s
  leads-by b e = rw (e, eq-eqb right count q) refl ∙ ap (λ (x : Lines). leads_to x right count s) is

  pub leads-missing : length v.numbers ≤ count → right ≡ leads_to l right count s
  leads-missing h = leads-by false (told-missing v count s (le-ltb _ _ h))

  pub leads-heavy : count < length v.numbers → most_energy < get_or v.energy count 0 → right ≡ leads_to l right count s
  leads-heavy h e = leads-by false (told-heavy v count s (lt-ltb _ _ h) (lt-leb _ _ e))

  pub leads-told : count < length v.numbers → get_or v.energy count 0 ≤ most_energy → (b : Bool) → b ≡ right_at v count s
      → pick b (right + 1) right ≡ leads_to l right count s
  leads-told h e b r = leads-by b (r ∙ told-right v count s (lt-ltb _ _ h) (le-leb _ _ e))

-- the same of lines that have been told
module _ (l : Lines) (right count : ℕ) (s : Shown) where
  pub leads-past : eqb right count ≡ false → right ≡ leads_to l right count s
  leads-past e = rw e refl

  pub leads-on : eqb right count ≡ true → line_told l count s ≡ true → right + 1 ≡ leads_to l right count s
  leads-on e t = rw (e, t) refl

  pub leads-stay : eqb right count ≡ true → line_told l count s ≡ false → right ≡ leads_to l right count s
  leads-stay e t = rw (e, t) refl
