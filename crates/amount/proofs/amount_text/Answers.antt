-- `amount::amount_text` meets its contract. Assumes nothing.
use mathlib.Core.Path.{◌≡◌, sym}
use mathlib.Core.List.{List}
use Prim.Native.Nat.{ℕ}
use lib.Seq.{length-take-le}
use Rattle.amount.specs.Text.{amount_text, count_in, written_in}
use Rattle.laws.proofs.Integers.{signed}
use Rattle.amount.proofs.Texts.{shown-part, count-within}
use Rattle.amount.proofs.amount_text.Goals as goal

pub slice_bounds-result-end : goal.slice_bounds-result-end
slice_bounds-result-end c =
    let text : List ℕ = amount_text c.args.cents in
    let buffer : List ℕ = c.args.buffer.now in
    let count : c.write_amount-n.result ≡ count_in text buffer = simp (signed, c.ranges.cents) at c.write_amount-n.ensures.value in
    let wrote : c.write_amount-n.new.buffer ≡ written_in text buffer = simp (signed, c.ranges.cents) at c.write_amount-n.ensures.buffer_after in
    sym (length-take-le _ _ (simp (count, wrote) (count-within text buffer)))

pub returns : goal.returns
returns c =
    let text : List ℕ = amount_text c.args.cents in
    let buffer : List ℕ = c.args.buffer.now in
    let count : c.write_amount-n.result ≡ count_in text buffer = simp (signed, c.ranges.cents) at c.write_amount-n.ensures.value in
    let wrote : c.write_amount-n.new.buffer ≡ written_in text buffer = simp (signed, c.ranges.cents) at c.write_amount-n.ensures.buffer_after in
    simp (count, wrote) (shown-part text buffer)
