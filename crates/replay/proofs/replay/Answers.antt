-- `replay::replay` meets its contract: the calls are played on parts of the rings, and what is written is what was promised. Assumes nothing.
use mathlib.Core.Path.{◌≡◌, sym, ◌∙◌}
use mathlib.Core.Bool.{true}
use Prim.Native.Nat.{◌≤◌}
use native.Mathlib.Omega.{arith}
use lib.ListN.{length}
use Rattle.records.specs.Reading.{opens}
use Rattle.replay.specs.Replay.{Lent, mine, spare, lent_of}
use Rattle.replay.proofs.Beginning.{opening-whole, unopened, unwritten, replays, promises, part-is, part-min}
use Rattle.replay.proofs.replay.Goals as goal

pub returns-then-not-opens : goal.returns-then-not-opens
returns-then-not-opens c =
    let lent : Lent = (let a = c.args in lent_of a.answers.now a.ring.now a.other.now a.image.now a.numbers.now a.factors.now a.table.now) in
    let p = promises c.args.calls.now (lent) _ (unopened _ _ (sym c.opens.ensures ∙ c.if-not-opens.true)) in
    record { table_after = p.0; result_value = p.1.0; answers_after = p.1.1.0; upper_bound = p.1.1.1 }

pub returns-then-answers-lt14 : goal.returns-then-answers-lt14
returns-then-answers-lt14 c =
    let lent : Lent = (let a = c.args in lent_of a.answers.now a.ring.now a.other.now a.image.now a.numbers.now a.factors.now a.table.now) in
    let p = promises c.args.calls.now (lent) _ (unwritten _ (lent) c.if-answers-lt14.true) in
    record { table_after = p.0; result_value = p.1.0; answers_after = p.1.1.0; upper_bound = p.1.1.1 }

pub get_u8-requires : goal.get_u8-requires
get_u8-requires c =
    let opened : opens c.args.calls.now ≡ true = sym c.opens.ensures ∙ c.if-not-opens.false in
    let whole : 38 ≤ length c.args.calls.now = opening-whole _ (opened) in
    omega (arith, whole)

pub get_u8-requires-2 : goal.get_u8-requires-2
get_u8-requires-2 c =
    let opened : opens c.args.calls.now ≡ true = sym c.opens.ensures ∙ c.if-not-opens.false in
    let whole : 38 ≤ length c.args.calls.now = opening-whole _ (opened) in
    omega (arith, whole)

pub get_u16-requires : goal.get_u16-requires
get_u16-requires c =
    let opened : opens c.args.calls.now ≡ true = sym c.opens.ensures ∙ c.if-not-opens.false in
    let whole : 38 ≤ length c.args.calls.now = opening-whole _ (opened) in
    omega (arith, whole)

pub play_opening-requires : goal.play_opening-requires
play_opening-requires c =
    let opened : opens c.args.calls.now ≡ true = sym c.opens.ensures ∙ c.if-not-opens.false in
    let whole : 38 ≤ length c.args.calls.now = opening-whole _ (opened) in
    (whole, c.if-answers-lt14.false)

pub returns : goal.returns
returns c =
    let lent : Lent = (let a = c.args in lent_of a.answers.now a.ring.now a.other.now a.image.now a.numbers.now a.factors.now a.table.now) in
    let opened : opens c.args.calls.now ≡ true = sym c.opens.ensures ∙ c.if-not-opens.false in
    let mine-is : c.min-mine.result ≡ mine c.args.calls.now (lent) = (part-is _ _ _ _ _ _ _ c.get_u8.ensures c.get_u8-2.ensures c.get_u16.ensures c.ring_size-size.ensures (part-min _ _ _ c.min-mine.ensures)) in
    let spare-is : c.min-spare.result ≡ spare c.args.calls.now (lent) = (part-is _ _ _ _ _ _ _ c.get_u8.ensures c.get_u8-2.ensures c.get_u16.ensures c.ring_size-size.ensures (part-min _ _ _ c.min-spare.ensures)) in
    let p = promises c.args.calls.now (lent) _
    (replays c.args.calls.now (lent) _ _ _ _ _ _ _ _ _ _ (opened) c.if-answers-lt14.false (mine-is) (spare-is) c.play_opening.ensures) in
    record { table_after = p.0; result_value = p.1.0; answers_after = p.1.1.0; upper_bound = p.1.1.1 }
