-- `book::validity::row_ok` meets its contract: the places that are not asked whether they are used are. Assumes nothing.
use mathlib.Core.Path.{◌≡◌, refl, ◌∙◌}
use mathlib.Core.Bool.{Bool, true, ◌&&◌, ◌||◌}
use mathlib.Core.Logic.{⊎_elim}
use Prim.Native.Nat.{ℕ, ◌+◌, ◌<◌, ◌≤◌}
use native.Mathlib.Omega.{arith}
use borrow.Author.Tests.{leb-true, le-leb, lt-ltb, le-ltb}
use lib.Dec.{leb, ltb}
use lib.IntN.{pos}
use lib.ListN.{get_or}
use Rattle.laws.specs.Lists.{all_below}
use Rattle.laws.proofs.Lists.{all_same}
use Rattle.laws.proofs.Tests.{and_left, and_right, lt-or-ge}
use Rattle.book.specs.Validity.{place_ok}
use Rattle.book.proofs.validity.row_ok.Goals as goal

-- the first `sure` are used
all-asked : (sure services : ℕ) (used : Bool) (t : Bool → ℕ → Bool) → ((m : ℕ) → m < sure → m < 11 → (used && leb m services) ≡ true)
    → all_below 11 (λ m. t (ltb m sure || used && leb m services) m) ≡ all_below 11 (λ m. t (used && leb m services) m)
all-asked sure services used t are =
    all_same 11 (λ m. t (ltb m sure || used && leb m services) m) (λ m. t (used && leb m services) m)
    (λ m l. ⊎_elim (λ (s : m < sure). rw (lt-ltb m sure s, are m s l) refl) (λ (s : sure ≤ m). rw (le-ltb m sure s) refl) (lt-or-ge m sure))

all-used : (used : Bool) (services : ℕ) → (used && leb 10 services) ≡ true → (m : ℕ) → m < 11 → (used && leb m services) ≡ true
all-used used services h m l =
    let u : used ≡ true = and_left used (leb 10 services) h in
    let n : 10 ≤ services = leb-true 10 services (and_right used (leb 10 services) h) in
    let e : leb m services ≡ true = le-leb m services (omega arith) in
    rw (u, e) refl

pub returns-then-used-services : goal.returns-then-used-services
returns-then-used-services c =
    let a = c.args in
    c.row_passes.ensures
    ∙ all-asked 11 a.services a.used (λ u m. place_ok u (get_or a.sums.now (a.from + m) (pos 0)) (get_or a.marks.now (a.from + m) 0))
    (λ m s l. all-used a.used a.services c.if-used-services.true m l)
