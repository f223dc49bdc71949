-- `codec::get_array` meets its contract: as many stores as the array has places are the whole array. Assumes nothing.
use mathlib.Core.Path.{◌∙◌}
use Prim.Native.Nat.{ℕ, ◌+◌, ◌*◌}
use Rattle.laws.specs.Lists.{tabulate}
use Rattle.laws.specs.Bytes.{number_at}
use Rattle.laws.proofs.Bytes.{sets-whole}
use Rattle.laws.proofs.Lists.{length_run}
use borrow.Author.Rules.{rules}
use Rattle.codec.proofs.get_array.Goals as goal

pub returns : goal.returns
returns g c =
    let a = c.args in
    let W = g.T.Word in
    let said = tabulate g.row.N (λ (i : ℕ). W.from_bits (number_at a.bytes.now (a.at + W.WIDTH * i) W.WIDTH)) in
    c.get_words.ensures ∙ sets-whole _ said (length_run _ _ _ ∙ search rules)
