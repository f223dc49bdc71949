-- `capi::guxhamole_store` meets its contract: it is the store by kind 1. Assumes nothing.
use mathlib.Core.Bool.{false}
use Rattle.face.proofs.Answers.{stored-by}
use Rattle.capi.proofs.guxhamole_store.Goals as goal

pub returns : goal.returns
returns c =
    let a = c.args in
    stored-by false a.book a.ring.now a.image.now c.from.result c.from.ensures
    c.store_kind_1.ensures
