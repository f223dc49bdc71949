-- `sheet::sheet` meets its contract: a law for each way out. Assumes nothing.
use mathlib.Core.Path.{sym, ap, ◌∙◌}
use native.Mathlib.Omega.{arith}
use Rattle.sheet.specs.Sheet.{refused_text, lines}
use Rattle.sheet.proofs.Loads.{long, shape}
use Rattle.sheet.proofs.Sheets.{too_long, not-passed, too_large, shown, sheet-put}
use borrow.Author.Rules.{rules}
use Rattle.sheet.proofs.sheet.Goals as goal

pub returns-then-bytes-gt65536 : goal.returns-then-bytes-gt65536
returns-then-bytes-gt65536 c =
    let l = c.args.bytes.now in
    let p = sheet-put l _ (too_long l c.if-bytes-gt65536.true) c.put_refused.ensures in
    record { value = p.0; out_after = p.1.0; upper_bound = p.1.1 }

pub returns-then-number-ne0 : goal.returns-then-number-ne0
returns-then-number-ne0 c =
    let l = c.args.bytes.now in
    let e = c.check-number.ensures in
    let p = sheet-put l _ (not-passed l c.if-bytes-gt65536.false (λ z. c.if-number-ne0.true (e ∙ z)) ∙ ap refused_text (sym e)) c.put_refused-then-number-ne0.ensures in
    record { value = p.0; out_after = p.1.0; upper_bound = p.1.1 }

pub ring_places-size-requires : goal.ring_places-size-requires
ring_places-size-requires c = long c.args.bytes.now (sym c.check-number.ensures ∙ c.if-number-ne0.false)

pub returns-then-size-gt16384 : goal.returns-then-size-gt16384
returns-then-size-gt16384 c =
    let l = c.args.bytes.now in
    let e = sym c.check-number.ensures ∙ c.if-number-ne0.false in
    let p = sheet-put l _ (too_large l c.if-bytes-gt65536.false e (omega (arith, c.ring_places-size.ensures, c.if-size-gt16384.true))) c.put_refused-then-size-gt16384.ensures in
    record { value = p.0; out_after = p.1.0; upper_bound = p.1.1 }

pub put_lines-requires : goal.put_lines-requires
put_lines-requires c =
    let h = shape c.args.bytes.now (sym c.check-number.ensures ∙ c.if-number-ne0.false) _ c.loaded_book-book.ensures in
    (h.0, h.1, search rules)

pub returns : goal.returns
returns c =
    let l = c.args.bytes.now in
    let e = sym c.check-number.ensures ∙ c.if-number-ne0.false in
    let p = sheet-put l _ (shown l c.if-bytes-gt65536.false e (omega (arith, c.ring_places-size.ensures, c.if-size-gt16384.false)) ∙ ap lines (sym c.loaded_book-book.ensures)) c.put_lines.ensures in
    record { value = p.0; out_after = p.1.0; upper_bound = p.1.1 }
