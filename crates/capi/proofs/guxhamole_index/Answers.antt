-- `capi::guxhamole_index` meets its contract: the dollars are small enough for a signed number. Assumes nothing.
use mathlib.Core.Path.{◌∙◌}
use Prim.Native.Nat.{◌≤◌}
use native.Mathlib.Omega.{arith}
use mir.Syntax.{w64}
use mir.Facts.{to_z_pos}
use Rattle.laws.proofs.Integers.{abs-fits}
use Rattle.pricing.proofs.Indexes.{dollars-most}
use Rattle.capi.specs.Host.{index_answer}
use Rattle.capi.proofs.Answers.{dollars-are, in-dollars, out_of_range}
use Rattle.capi.proofs.guxhamole_index.Goals as goal

pub overflow_cast-result : goal.overflow_cast-result
overflow_cast-result c =
    let small : c.in-Ok.dollars ≤ 4000000000000000 = (let i = c.indexed-answer in
    rw (dollars-are c.indexed-answer.result c.indexed-answer.ensures c.in-Ok.dollars c.in-Ok.is) (dollars-most _ _ _ _)) in
    abs-fits w64 _ (omega (arith, small))

pub returns-in-Ok : goal.returns-in-Ok
unfolding index_answer
returns-in-Ok c =
    let small : c.in-Ok.dollars ≤ 4000000000000000 = (let i = c.indexed-answer in
    rw (dollars-are c.indexed-answer.result c.indexed-answer.ensures c.in-Ok.dollars c.in-Ok.is) (dollars-most _ _ _ _)) in
    let i = c.indexed-answer in
    to_z_pos w64 (omega (arith, small)) ∙ in-dollars c.indexed-answer.result c.indexed-answer.ensures _ c.in-Ok.is

pub returns-in-Err : goal.returns-in-Err
unfolding index_answer
returns-in-Err c =
    let i = c.indexed-answer in out_of_range c.indexed-answer.result c.indexed-answer.ensures _ c.in-Err.is
