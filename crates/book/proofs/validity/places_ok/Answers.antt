-- `book::validity::places_ok` meets its contract: eight rows of eleven places are the 88. Assumes nothing.
use mathlib.Core.Path.{◌≡◌, refl, ◌∙◌}
use mathlib.Core.Bool.{Bool, true, false, ◌&&◌}
use Prim.Native.Nat.{ℕ, ◌+◌, ◌*◌, ◌/◌, ◌%◌, ◌<◌}
use native.Mathlib.Omega.{arith}
use borrow.Author.Rules.{rules}
use borrow.Author.Tests.{tests}
use lib.Dec.{leb, ltb}
use lib.IntN.{pos}
use lib.ListN.{get_or}
use Rattle.std.proofs.lemmas.Iterator.{YieldsList-from_range, cases_from_all}
use Rattle.laws.specs.Lists.{all_below}
use Rattle.laws.proofs.Lists.{all_same}
use Rattle.book.specs.Validity.{place_ok, used_place}
use Rattle.book.proofs.Ranges.{all-of_range, all_below-rows}
use Rattle.book.proofs.validity.places_ok.Goals as goal

pub returns : goal.returns
returns c =
    let a = c.args in
    let place : Bool → ℕ → Bool = λ u k. place_ok u (get_or a.sums.now k (pos 0)) (get_or a.marks.now k 0) in
    let row : ℕ → Bool = λ r. all_below 11 (λ m. place (ltb r a.regions && leb m a.services) (11 * r + m)) in
    let rows : c.all.result ≡ all_below 8 row =
    all-of_range 8 row c.all.result
    (cases_from_all _ _ _ (λ r. row r ≡ true) (λ r. row r ≡ false) c.all.ensures.ran (YieldsList-from_range 0 8 8 refl refl)
    (λ x q k. search (rules, tests)) (λ x q k. search (rules, tests))) in
    let parts : (r m : ℕ) → m < 11 → place (ltb r a.regions && leb m a.services) (11 * r + m) ≡ place (used_place a.regions a.services (11 * r + m)) (11 * r + m) =
    λ r m l. let d : (11 * r + m) / 11 ≡ r = omega arith in let q : (11 * r + m) % 11 ≡ m = omega arith in rw (d, q) refl in
    rows
    ∙ all_same 8 row (λ r. all_below 11 (λ m. place (used_place a.regions a.services (11 * r + m)) (11 * r + m)))
    (λ r _. all_same 11 (λ m. place (ltb r a.regions && leb m a.services) (11 * r + m)) (λ m. place (used_place a.regions a.services (11 * r + m)) (11 * r + m)) (parts r))
    ∙ all_below-rows 8 11 (λ k. place (used_place a.regions a.services k) k)
