-- `entries::book_after` meets its contract. Assumes nothing.
use native.Mathlib.Omega.{arith}
use borrow.Author.Rules.{rules}
use mir.Syntax.{w64}
use mir.Val.{SFits}
use mir.Facts.{to_z-of_z}
use Rattle.book.proofs.Validities.{Valid, valid-is}
use Rattle.entries.proofs.Afters.{after_is}
use Rattle.entries.proofs.book_after.Goals as goal

pub counts_after-counts_then-requires : goal.counts_after-counts_then-requires
counts_after-counts_then-requires c =
    let v : Valid c.args.book = valid-is c.args.book c.requires.0.valid in
    ((v).regions, c.requires.0.marked-size)

pub nexts_after-nexts_then-requires : goal.nexts_after-nexts_then-requires
nexts_after-nexts_then-requires c =
    let v : Valid c.args.book = valid-is c.args.book c.requires.0.valid in
    record { regions_bound = ((v).regions, c.requires.0.marked-size); by_index = (v).next }

pub marks_after-marks_then-requires : goal.marks_after-marks_then-requires
marks_after-marks_then-requires c =
    let v : Valid c.args.book = valid-is c.args.book c.requires.0.valid in
    omega (arith, (v).regions)

pub position_after-requires : goal.position_after-requires
position_after-requires c =
    let v : Valid c.args.book = valid-is c.args.book c.requires.0.valid in
    omega (arith, (v).position, (v).halves)

pub returns : goal.returns
returns c =
    let v : Valid c.args.book = valid-is c.args.book c.requires.0.valid in
    let a = c.args in
    let t = c.take-sums in
    let f : SFits w64 a.book.threshold = search rules in record {
      value = after_is a.book (v) a.ring.now a.prices.now a.marked.now _ _ _ _ _ _
          c.last_of_day-last.ensures
          c.position_after.ensures
          c.counts_after-counts_then.ensures
          c.nexts_after-nexts_then.ensures
          c.take-sums.ensures.value
          (rw (to_z-of_z f) at c.marks_after-marks_then.ensures);
      ring_after = c.take-sums.ensures.ring_after;
    }
