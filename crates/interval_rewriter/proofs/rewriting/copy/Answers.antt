-- `interval_rewriter::rewriting::copy` meets its contract. The loop's invariant: what is still to go is the same at every turn. Assumes
-- nothing.
use mathlib.Core.Path.{refl, ◌∙◌, ap}
use mathlib.Core.List.{List}
use Prim.Native.Nat.{ℕ, ◌+◌}
use native.Mathlib.Omega.{arith}
use lib.ListN.{length-set, get_or}
use lib.Seq.{sets}
use Rattle.laws.proofs.Lists.{run_step, run-done}
use Rattle.interval_rewriter.proofs.Rewrites.{part-is}
use Rattle.interval_rewriter.proofs.rewriting.copy.Goals as goal

-- the bytes that are copied, one by one
abbrev byte_at : List ℕ → ℕ → ℕ → ℕ
byte_at bytes from i = get_or bytes (from + i) 0

pub loop-i-preserved : goal.loop-i-preserved
loop-i-preserved c =
    let l = c.loop-i in
    let a = c.args in (
      omega arith,
      simp length-set (omega arith),
      run_step (byte_at a.bytes.now a.from) _ _ _ _ _ _ (omega arith) refl c.loop-i.invariant.2,
    )

pub returns : goal.returns
returns c =
    let a = c.args in
    run-done _ _ _ _ _ _ (omega arith) c.loop-i.invariant.2
    ∙ ap (λ (part : List ℕ). sets a.buffer.now a.to part) (part-is a.bytes.now a.from a.n c.requires.0)
