-- `codec::get_words` meets its contract. The loop's invariant: what is still to go is the same at every turn. Assumes nothing.
use mathlib.Core.Path.{◌≡◌, refl}
use Prim.Native.Nat.{ℕ, ◌+◌, ◌*◌}
use native.Mathlib.Omega.{arith}
use lib.ListN.{length-set}
use lib.Seq.{sets}
use Rattle.laws.specs.Lists.{tabulate}
use Rattle.laws.specs.Bytes.{number_at}
use Rattle.laws.proofs.Lists.{run_none, run_step, run-done}
use Rattle.codec.proofs.get_words.Goals as goal

pub loop-i-init : goal.loop-i-init
loop-i-init g c = (omega arith, refl, run_none _ _ _ _)

pub loop-i-preserved : goal.loop-i-preserved
loop-i-preserved g c =
    let a = c.args in
    let W = g.T.Word in
    let value = λ (i : ℕ). W.from_bits (number_at a.bytes.now (a.at + W.WIDTH * i) W.WIDTH) in
    let read : c.get.result ≡ value c.loop-i.i = rw c.WIDTH.ensures at c.get.ensures in (
      omega arith,
      simp length-set (omega arith),
      run_step value c.loop-i.numbers (sets a.numbers.now a.to (tabulate a.n value)) a.to a.n c.loop-i.i c.get.result (omega arith) read c.loop-i.invariant.2,
    )

pub returns : goal.returns
returns g c = run-done _ _ _ _ _ _ (omega arith) c.loop-i.invariant.2
