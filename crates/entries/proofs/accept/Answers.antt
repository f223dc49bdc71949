-- `entries::accept` meets its contract. Assumes nothing.
use Rattle.entries.proofs.Verdicts.{publish-asks, acceptance-is}
use Rattle.entries.proofs.accept.Goals as goal

pub publish-count-requires : goal.publish-count-requires
publish-count-requires c =
    let a = c.args in
    let t = c.terms_of-terms.ensures in
    let p = rw (← c.entry.view_is) at (publish-asks a.book a.ring.now a.entry.now _ t.0 _ t.1 c.requires) in
    record { terms_ok = p.0; links_ok = p.1 }

pub returns : goal.returns
returns c =
    let a = c.args in
    let p = c.publish-count in
    let q = c.book_after-after in
    let t = c.terms_of-terms.ensures.0 in
    rw (← c.entry.view_is)
    (acceptance-is a.book a.ring.now _ _ t p.result q.result q.new.ring p.new.table p.ensures.value p.ensures.table_after q.ensures.value q.ensures.ring_after)
