-- `interval_records::record::whole` meets its contract, by a law for each way out. Assumes nothing.
use mathlib.Core.Path.{◌≡◌, ap, ◌∙◌}
use mathlib.Core.Bool.{◌||◌}
use Prim.Native.Nat.{ℕ}
use native.Mathlib.Omega.{arith}
use lib.Dec.{eqb}
use Rattle.book.specs.Record.{markets_of}
use Rattle.interval_records.specs.Record.{kind_at, known_length}
use Rattle.interval_records.proofs.Verdicts.{whole-missing, whole_by}
use Rattle.interval_records.proofs.record.whole.Goals as goal

pub returns-then-bytes-at : goal.returns-then-bytes-at
returns-then-bytes-at c = whole-missing _ _ _ (omega arith)

pub returns-then-left-lt6 : goal.returns-then-left-lt6
returns-then-left-lt6 c = whole-missing _ _ _ c.if-left-lt6.true

pub returns : goal.returns
returns c =
    let markets = markets_of c.args.services in
    let kind : c.get_u16-kind.result ≡ kind_at c.args.bytes.now c.args.at = c.get_u16-kind.ensures in
    whole_by markets c.args.bytes.now c.args.at c.if-left-lt6.false c.get_u32-size.result c.fits_kind.result c.get_u32-size.ensures
    (c.fits_kind.ensures ∙ ap (λ (k : ℕ). eqb (known_length markets k) 0 || eqb c.get_u32-size.result (known_length markets k)) kind)
