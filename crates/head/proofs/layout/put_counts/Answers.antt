-- `head::layout::put_counts` meets its contract. The loop's invariant: what is still to go is the same at every turn. Assumes nothing.
use mathlib.Core.Path.{◌≡◌, refl, sym, ◌∙◌}
use Prim.Native.Nat.{◌+◌, ◌*◌}
use native.Mathlib.Omega.{arith}
use lib.ListN.{length, get_or, replicate, get_or-replicate}
use lib.Seq.{sets}
use borrow.Author.Rules.{rules}
use Rattle.laws.specs.Bytes.{encode}
use Rattle.laws.proofs.Fields.{fields-step, fields-done}
use Rattle.head.proofs.layout.put_counts.Goals as goal

pub loop-i-preserved : goal.loop-i-preserved
loop-i-preserved c =
    let i = c.loop-i.i in
    let a = c.args in
    let long : length a.counts ≡ 8 = search rules in
    let place : 44 + 2 * (i + 1) ≡ 44 + 2 * i + 2 = omega arith in (
      omega arith,
      c.put.auto.bytes ∙ c.loop-i.invariant.1,
      rw (c.put.ensures, place)
          (fields-step (replicate 8 2) a.counts c.loop-i.buffer (sets a.buffer.now 44 (encode (replicate 8 2) a.counts)) (44 + 2 * i) i 2 (get_or a.counts i 0) (omega arith)
          (omega (arith, long)) (sym (get_or-replicate 8 i 2 0 (omega arith))) refl c.loop-i.invariant.2),
    )

pub returns : goal.returns
returns c = fields-done (replicate 8 2) _ _ _ _ _ (omega arith) c.loop-i.invariant.2
