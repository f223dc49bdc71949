-- `image::loading::bad_in` meets its contract. Assumes nothing.
use mathlib.Core.Path.{◌≡◌, sym, ap, ◌∙◌}
use mathlib.Core.Bool.{Bool, true, false, not}
use Prim.Native.Nat.{ℕ}
use borrow.Author.Rules.{rules}
use Rattle.std.proofs.lemmas.Iterator.{first_from_Range}
use Rattle.laws.specs.Bytes.{price_at}
use Rattle.pricing.specs.Holding.{is_energy, in_range}
use Rattle.laws.proofs.Lists.{all-at}
use Rattle.image.proofs.Runs.{found-first}
use Rattle.image.proofs.loading.bad_in.Goals as goal

pub returns-then-all_in : goal.returns-then-all_in
returns-then-all_in c =
    let a = c.args in
    let e = sym (c.all_in.ensures (price_at a.bytes.now a.from) (λ i z h p. search rules)) ∙ c.if-all_in.true in
    found-first _ (λ i. not (in_range (is_energy a.market) (price_at a.bytes.now a.from i))) _ (λ k z h. ap not (all-at _ _ e k h))

pub returns : goal.returns
returns c =
    let a = c.args in
    let t : ℕ → Bool = λ i. not (in_range (is_energy a.market) (price_at a.bytes.now a.from i)) in
    found-first _ t _ (first_from_Range _ _ _ _ (λ i. t i ≡ true) (λ i. t i ≡ false) c.find.ensures.ran (λ x q h. search rules) (λ x q h. search rules))
