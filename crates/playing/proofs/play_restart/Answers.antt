-- `playing::play_restart` meets its contract: one law a way out. Assumes nothing.
use native.Mathlib.Omega.{arith}
use Rattle.playing.proofs.Restarting.{image-fits}
use borrow.Author.Rules.{rules}
use Rattle.playing.proofs.play_restart.Goals as goal

pub play_load-requires : goal.play_load-requires
play_load-requires c =
    let a = c.args in
    let f = image-fits a.book a.ring.now a.image.now _ c.store_kind_1-stored.result c.store_kind_1-stored.ensures c.in-Ok.n c.in-Ok.is in
    (omega (arith, f, c.store_kind_1-stored.auto.buffer), search rules)
