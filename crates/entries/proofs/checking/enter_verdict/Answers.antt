-- `entries::checking::enter_verdict` meets its contract, by a law for each way out. Assumes nothing.
use mathlib.Core.Path.{◌≡◌, sym, ap, ◌∙◌}
use Prim.Native.Nat.{ℕ, ◌+◌, ◌≤◌}
use native.Mathlib.Omega.{arith}
use lib.Dec.{leb}
use lib.ListN.{length}
use Rattle.publishing.specs.Entry.{Entry}
use mathlib.Core.Bool.{Bool, true}
use borrow.Author.Tests.{lt-leb, le-leb}
use Rattle.book.specs.Record.{markets_of}
use Rattle.book.specs.Validity.{valid}
use Rattle.book.proofs.Ways.{links-most}
use Rattle.book.proofs.Validities.{valid-is}
use Rattle.entries.specs.Checking.{lengths_ok}
use Rattle.entries.specs.Entering.{shape_of}
use Rattle.entries.specs.Working.{slices_verdict}
use Rattle.entries.proofs.Accepted.{lengths-are}
use Rattle.entries.proofs.Verdicts.{enter-11, enter-12, enter-13, enter-14, enter-more}
use Rattle.entries.proofs.checking.enter_verdict.Goals as goal

-- a test of the lent kind is one of the entry's
kinds : {e e' : Entry} {t : Bool} → e ≡ e' → leb e.offer.kind 1 ≡ t → leb e'.offer.kind 1 ≡ t
kinds p h = rw p at h

pub returns-then-not-lengths_ok : goal.returns-then-not-lengths_ok
returns-then-not-lengths_ok c =
    let ok : valid c.args.book ≡ true = sym c.valid.ensures ∙ c.if-not-valid.false in
    let a = c.args in
    enter-11 a.book a.ring a.number a.entry.now a.table (ok) (sym c.lengths_ok.ensures ∙ c.if-not-lengths_ok.true)

pub returns-then-book-ge10000000 : goal.returns-then-book-ge10000000
returns-then-book-ge10000000 c =
    let ok : valid c.args.book ≡ true = sym c.valid.ensures ∙ c.if-not-valid.false in
    let fit : lengths_ok (shape_of c.args.book) c.args.ring c.args.entry.now c.args.table ≡ true = sym c.lengths_ok.ensures ∙ c.if-not-lengths_ok.false in
    let a = c.args in
    enter-12 a.book a.ring a.number a.entry.now a.table (ok) (fit) (omega arith)

pub returns-then-number-book : goal.returns-then-number-book
returns-then-number-book c =
    let ok : valid c.args.book ≡ true = sym c.valid.ensures ∙ c.if-not-valid.false in
    let fit : lengths_ok (shape_of c.args.book) c.args.ring c.args.entry.now c.args.table ≡ true = sym c.lengths_ok.ensures ∙ c.if-not-lengths_ok.false in
    let a = c.args in
    enter-13 a.book a.ring a.number a.entry.now a.table (ok) (fit) (omega arith) c.if-number-book.true

pub returns-then-not-entry : goal.returns-then-not-entry
returns-then-not-entry c =
    let ok : valid c.args.book ≡ true = sym c.valid.ensures ∙ c.if-not-valid.false in
    let fit : lengths_ok (shape_of c.args.book) c.args.ring c.args.entry.now c.args.table ≡ true = sym c.lengths_ok.ensures ∙ c.if-not-lengths_ok.false in
    let a = c.args in
    enter-14 a.book a.ring a.number a.entry.now a.table (ok) (fit) (omega arith) c.if-number-book.false (kinds c.entry.view_is (lt-leb _ _ c.if-not-entry.true))

pub slices_verdict-requires : goal.slices_verdict-requires
slices_verdict-requires c =
    let fit : lengths_ok (shape_of c.args.book) c.args.ring c.args.entry.now c.args.table ≡ true = sym c.lengths_ok.ensures ∙ c.if-not-lengths_ok.false in
    let ok : valid c.args.book ≡ true = sym c.valid.ensures ∙ c.if-not-valid.false in
    let a = c.args in
    let q = lengths-are a.book a.ring a.entry.now a.table (fit) in
    let links = ap (λ (e : Entry). length e.factors) c.entry.view_is in
    let most : length c.entry.inside.factors.now ≤ a.book.regions + 1 = rw (links ∙ q.4) (links-most a.book.regions a.book.from) in
    record { regions_bound = ((valid-is a.book (ok)).regions, most, q.1); marked_len = (q.2, sym links) }

pub returns : goal.returns
returns c =
    let fit : lengths_ok (shape_of c.args.book) c.args.ring c.args.entry.now c.args.table ≡ true = sym c.lengths_ok.ensures ∙ c.if-not-lengths_ok.false in
    let ok : valid c.args.book ≡ true = sym c.valid.ensures ∙ c.if-not-valid.false in
    let a = c.args in
    let q = lengths-are a.book a.ring a.entry.now a.table (fit) in
    let links = ap (λ (e : Entry). length e.factors) c.entry.view_is in
    let book = a.book in
    let offer = a.entry.now.offer in
    c.slices_verdict.ensures
    ∙ ap (λ (n : ℕ). slices_verdict n book.regions (markets_of book.services) book.parents offer.prices offer.marked a.entry.now.factors) (links ∙ q.4)
    ∙ enter-more a.book a.ring a.number a.entry.now a.table (ok) (fit) (omega arith) c.if-number-book.false (kinds c.entry.view_is (le-leb _ _ c.if-not-entry.false))
