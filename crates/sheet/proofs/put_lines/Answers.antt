-- `sheet::put_lines` meets its contract. The loop's invariant: the lines of the markets below q stand after the header. Assumes nothing.
use borrow.Author.Rules.{rules}
use mathlib.Core.Path.{refl, ◌∙◌}
use mathlib.Core.List.{[]}
use Prim.Native.Nat.{◌+◌, ◌*◌, ◌/◌, ◌%◌, ◌≤◌}
use native.Mathlib.Nat.{mul-le-mul}
use native.Mathlib.Omega.{arith}
use lib.IntN.{pos}
use lib.ListN.{get_or}
use mir.Syntax.{w64}
use mir.Val.{SFits}
use Rattle.laws.proofs.Integers.{signed}
use Rattle.sheet.specs.Sheet.{line}
use Rattle.sheet.proofs.Sheets.{lines_none, lines_next, lines-done}
use Rattle.sheet.proofs.put_lines.Goals as goal

pub loop-q-init : goal.loop-q-init
loop-q-init c =
    let many : c.args.book.regions * (c.args.book.services + 1) ≤ 88 = (let m : c.args.book.services + 1 ≤ 11 = omega (arith, c.requires.1) in mul-le-mul c.requires.0 m) in
    (many, omega (arith, c.put_header-at.ensures.ends), refl, lines_none (line c.args.book) _ _)

pub loop-q-preserved : goal.loop-q-preserved
loop-q-preserved c =
    let l = c.loop-q in
    let e = c.put_line-at in
    let f : SFits w64 (get_or c.args.book.sums (11 * (c.loop-q.q / (c.args.book.services + 1)) + c.loop-q.q % (c.args.book.services + 1)) (pos 0)) = search rules in (
      c.loop-q.invariant.0,
      omega (arith, c.put_line-at.ensures.upper_bound, c.loop-q.invariant.1),
      c.put_line-at.auto.out ∙ c.loop-q.invariant.2,
      lines_next c.args.book c.loop-q.q _ c.loop-q.at _ _ c.loop-q.out _ (omega (arith, c.loop-q.invariant, c.put_header-at.auto.out, c.requires)) c.loop-q.invariant.3 (simp (signed, f) at c.put_line-at.ensures.put),
    )

pub returns : goal.returns
returns c =
    let l = c.loop-q in
    lines-done c.args.book c.loop-q.q _ c.loop-q.at 0 _ c.loop-q.out [] (omega (arith, c.loop-q.invariant, c.put_header-at.auto.out, c.requires)) c.loop-q.invariant.3 c.args.out.now (omega (arith, c.requires)) (omega arith) c.put_header-at.ensures
