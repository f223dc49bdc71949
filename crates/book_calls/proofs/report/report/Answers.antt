-- `book_calls::report::report` meets its contract. Assumes nothing.
use mathlib.Core.Path.{◌≡◌, refl, sym, ◌∙◌}
use mathlib.Core.Bool.{true}
use Prim.Native.Nat.{◌<◌}
use native.Mathlib.Omega.{arith}
use mir.Syntax.{w64}
use mir.Val.{SFits}
use mir.Facts.{to_z-of_z}
use lib.IntN.{pos}
use lib.ListN.{get_or}
use borrow.Author.Tests.{ltb-true, leb-true}
use lib.Dec.{leb, ltb}
use Rattle.laws.proofs.Tests.{and_left, and_right}
use Rattle.book.specs.Record.{place_of}
use Rattle.book.specs.Validity.{valid}
use Rattle.book_calls.specs.Report.{report_of, report_verdict}
use Rattle.book.proofs.Validities.{valid-is, place-below}
use borrow.Author.Rules.{rules}
use Rattle.book_calls.proofs.report.report.Goals as goal

pub returns-then-not-valid : goal.returns-then-not-valid
unfolding report_of
returns-then-not-valid c = rw (sym c.valid.ensures ∙ c.if-not-valid.true)

pub bounds-book-k : goal.bounds-book-k
bounds-book-k c =
    let ok : valid c.args.book ≡ true = sym c.valid.ensures ∙ c.if-not-valid.false in
    let inside : let a = c.args in (place_of a.region a.market < 88) × (a.region < 8) = (let a = c.args in
    let v = valid-is a.book (ok) in
    let l = ltb-true a.region a.book.regions (and_left (ltb a.region a.book.regions) (leb a.market a.book.services) c.if-region-book.true) in
    let h = leb-true a.market a.book.services (and_right (ltb a.region a.book.regions) (leb a.market a.book.services) c.if-region-book.true) in
    (place-below a.book v a.region a.market l h, omega (arith, v.regions))) in
    (inside).0

pub bounds-book-r : goal.bounds-book-r
bounds-book-r c =
    let ok : valid c.args.book ≡ true = sym c.valid.ensures ∙ c.if-not-valid.false in
    let inside : let a = c.args in (place_of a.region a.market < 88) × (a.region < 8) = (let a = c.args in
    let v = valid-is a.book (ok) in
    let l = ltb-true a.region a.book.regions (and_left (ltb a.region a.book.regions) (leb a.market a.book.services) c.if-region-book.true) in
    let h = leb-true a.market a.book.services (and_right (ltb a.region a.book.regions) (leb a.market a.book.services) c.if-region-book.true) in
    (place-below a.book v a.region a.market l h, omega (arith, v.regions))) in
    (inside).1

pub bounds-book-k-then-region-book : goal.bounds-book-k-then-region-book
bounds-book-k-then-region-book c =
    let ok : valid c.args.book ≡ true = sym c.valid.ensures ∙ c.if-not-valid.false in
    let inside : let a = c.args in (place_of a.region a.market < 88) × (a.region < 8) = (let a = c.args in
    let v = valid-is a.book (ok) in
    let l = ltb-true a.region a.book.regions (and_left (ltb a.region a.book.regions) (leb a.market a.book.services) c.if-region-book.true) in
    let h = leb-true a.market a.book.services (and_right (ltb a.region a.book.regions) (leb a.market a.book.services) c.if-region-book.true) in
    (place-below a.book v a.region a.market l h, omega (arith, v.regions))) in
    (inside).0

pub returns-then-region-book : goal.returns-then-region-book
unfolding report_of report_verdict
returns-then-region-book c =
    let ok : valid c.args.book ≡ true = sym c.valid.ensures ∙ c.if-not-valid.false in
    let a = c.args in
    let f : SFits w64 (get_or a.book.sums (place_of a.region a.market) (pos 0)) = search rules in
    rw (ok, c.if-region-book.true, to_z-of_z f)

pub returns-else-region-book : goal.returns-else-region-book
unfolding report_of report_verdict
returns-else-region-book c =
    let ok : valid c.args.book ≡ true = sym c.valid.ensures ∙ c.if-not-valid.false in
    rw (ok, c.if-region-book.false) refl
