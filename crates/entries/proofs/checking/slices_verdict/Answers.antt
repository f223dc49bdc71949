-- `entries::checking::slices_verdict` meets its contract, by a law for each way out. Assumes nothing.
use mathlib.Core.Path.{◌≡◌, refl, sym, ap, ◌∙◌}
use mathlib.Core.List.{List}
use Prim.Native.Nat.{ℕ}
use Rattle.std.proofs.Common.{Option}
use Rattle.entries.specs.Checking.{first_mark}
use Rattle.entries.specs.Working.{found}
use Rattle.entries.proofs.Founds.{found-some, found-none}
use Rattle.entries.proofs.Verdicts.{slices-15, slices-16, slices-17, slices-0}
use Rattle.entries.proofs.checking.slices_verdict.Goals as goal

-- the marks are R
marks : (marked : List ℕ) {n R : ℕ} {o : Option ℕ} → o ≡ found n (first_mark n marked) → n ≡ R → found R (first_mark R marked) ≡ o
marks marked e q = sym (e ∙ ap (λ n. found n (first_mark n marked)) q)

pub returns-in-Some : goal.returns-in-Some
returns-in-Some c =
    let mark = found-some _ _ _ (marks c.entry.inside.marked.now c.first_mark.ensures (rw (← c.entry.view_is) at c.requires.marked_len.0) ∙ c.in-Some.is) in
    rw (← c.entry.view_is) (slices-15 _ _ _ _ _ _ _ _ mark.0 mark.1)

pub returns-in-Some-first_price : goal.returns-in-Some-first_price
returns-in-Some-first_price c =
    let unmarked = found-none _ _ (marks c.entry.inside.marked.now c.first_mark.ensures (rw (← c.entry.view_is) at c.requires.marked_len.0) ∙ c.in_default.is) in
    let price = found-some _ _ _ (sym c.first_price.ensures ∙ c.in-Some-first_price.is) in
    rw (← c.entry.view_is) (slices-16 _ _ _ _ _ _ _ _ refl unmarked _ price.0 price.1)

pub returns-in-Some-first_factor : goal.returns-in-Some-first_factor
returns-in-Some-first_factor c =
    let unmarked = found-none _ _ (marks c.entry.inside.marked.now c.first_mark.ensures (rw (← c.entry.view_is) at c.requires.marked_len.0) ∙ c.in_default.is) in
    let priced = found-none _ _ (sym c.first_price.ensures ∙ c.in_default-first_price.is) in
    let factor = found-some _ _ _ (sym c.first_factor.ensures ∙ c.in-Some-first_factor.is) in
    rw (← c.entry.view_is) (slices-17 _ _ _ _ _ _ _ _ refl unmarked _ refl priced _ factor.0 factor.1)

pub returns : goal.returns
returns c =
    let unmarked = found-none _ _ (marks c.entry.inside.marked.now c.first_mark.ensures (rw (← c.entry.view_is) at c.requires.marked_len.0) ∙ c.in_default.is) in
    let priced = found-none _ _ (sym c.first_price.ensures ∙ c.in_default-first_price.is) in
    let carried = found-none _ _ (sym c.first_factor.ensures ∙ c.in_default-first_factor.is) in
    rw (← c.entry.view_is) (slices-0 _ _ _ _ _ _ _ _ refl unmarked _ refl priced _ refl carried)
