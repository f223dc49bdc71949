-- `intervals::lent::lent_verdict` meets its contract: one law for each way out. Assumes nothing.
use mathlib.Core.Path.{◌≡◌, refl, sym, ◌∙◌}
use mathlib.Core.Bool.{true, false, ◌&&◌}
use lib.Dec.{eqb}
use Prim.Native.Nat.{ℕ}
use Rattle.pricing.specs.Verdict.{accepted, refused}
use Rattle.book.specs.declared.record.Book.{Book}
use Rattle.book.specs.Record.{table_size, link_count}
use Rattle.book.specs.Validity.{valid}
use Rattle.intervals.specs.Lent.{lengths_ok}
use Rattle.intervals.specs.Working.{lent_verdict}
use Rattle.intervals.proofs.lent.lent_verdict.Goals as goal

module _ (b : Book) (prices marked flows factors : ℕ) where
  lent-10 : valid b ≡ false → refused 10 ≡ lent_verdict b prices marked flows factors
  unfolding lent_verdict
  lent-10 v = rw v refl

  lent-11 : valid b ≡ true → lengths_ok b prices marked flows factors ≡ false → refused 11 ≡ lent_verdict b prices marked flows factors
  unfolding lent_verdict
  lent-11 v l = rw (v, l) refl

  lent-0 : valid b ≡ true → lengths_ok b prices marked flows factors ≡ true → accepted ≡ lent_verdict b prices marked flows factors
  unfolding lent_verdict
  lent-0 v l = rw (v, l) refl

  -- by the number of links that was reckoned
  lengths-by : (links : ℕ) → links ≡ link_count b
      → (eqb prices (table_size b.regions b.services) && eqb marked b.regions && eqb flows links && eqb factors links)
      ≡ lengths_ok b prices marked flows factors
  lengths-by links e = rw e refl

pub returns-then-not-valid : goal.returns-then-not-valid
returns-then-not-valid c =
    let a = c.args in
    let v : valid a.book ≡ false = sym c.valid.ensures ∙ c.if-not-valid.true in
    lent-10 a.book a.prices a.marked a.flows a.factors v

pub returns-then-not-prices-size : goal.returns-then-not-prices-size
returns-then-not-prices-size c =
    let good : valid c.args.book ≡ true = sym c.valid.ensures ∙ c.if-not-valid.false in
    let a = c.args in
    let e = lengths-by a.book a.prices a.marked a.flows a.factors c.link_count-links.result c.link_count-links.ensures in
    lent-11 a.book a.prices a.marked a.flows a.factors (good) (sym e ∙ c.if-not-prices-size.true)

pub returns : goal.returns
returns c =
    let good : valid c.args.book ≡ true = sym c.valid.ensures ∙ c.if-not-valid.false in
    let a = c.args in
    let e = lengths-by a.book a.prices a.marked a.flows a.factors c.link_count-links.result c.link_count-links.ensures in
    lent-0 a.book a.prices a.marked a.flows a.factors (good) (sym e ∙ c.if-not-prices-size.false)
