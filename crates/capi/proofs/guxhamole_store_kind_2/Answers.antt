-- `capi::guxhamole_store_kind_2` meets its contract: it is the store by kind 2. Assumes nothing.
use mathlib.Core.Bool.{true}
use Rattle.face.proofs.Answers.{stored-by}
use Rattle.capi.proofs.guxhamole_store_kind_2.Goals as goal

pub returns : goal.returns
returns c =
    let a = c.args in
    stored-by true a.book a.ring.now a.image.now c.from.result c.from.ensures
    c.store_kind_2.ensures
