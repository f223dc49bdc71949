-- `interval_entry::take_interval` meets its contract: what it lends is blank. Assumes nothing.
use Prim.Native.Nat.{◌≤◌}
use native.Mathlib.Nat.{mul-le-mul}
use native.Mathlib.Omega.{arith}
use Rattle.book.specs.Record.{markets_of}
use Rattle.book.proofs.Ways.{links-most}
use Rattle.interval_entry.proofs.Ways.{blank-is}
use Rattle.interval_entry.proofs.take_interval.Goals as goal

pub returns : goal.returns
returns c =
    let a = c.args in
    let b = a.book in
    let few : c.link_count-links.result ≤ 9 = omega (arith, c.link_count-links.ensures, links-most b.regions b.from, c.requires.0) in
    let m : markets_of b.services ≤ 11 = omega (arith, c.requires.1) in
    blank-is b a.ring.now a.records.now a.at a.schedule.now a.region _ c.link_count-links.result c.link_count-links.ensures few c.requires.0
    (mul-le-mul c.requires.0 m) c.take_into.ensures
