-- `player::too_large` meets its contract: a law for each way out. Assumes nothing.
use mathlib.Core.Path.{◌≡◌, sym, ap, ◌∙◌}
use mathlib.Core.Bool.{true, false}
use mathlib.Core.List.{List}
use Prim.Native.Nat.{ℕ, ◌≤◌, ◌<◌}
use native.Mathlib.Omega.{arith}
use borrow.Author.Tests.{lt-ltb, le-ltb}
use lib.Dec.{ltb}
use lib.ListN.{length}
use Rattle.laws.specs.Bytes.{number_at}
use Rattle.book.specs.Record.{ring_size}
use Rattle.records.specs.Reading.{opens}
use Rattle.replay.specs.Replay.{size_in}
use Rattle.replay.proofs.Beginning.{opening-whole}
use Rattle.player.specs.Player.{too_large}
use Rattle.player.proofs.too_large.Goals as goal

module _ (c : List ℕ) where
  too_long : 65536 < length c → true ≡ too_large c
  unfolding too_large
  too_long l = rw (lt-ltb 65536 (length c) l)

  module _ (l : length c ≤ 65536) where
    unopened : opens c ≡ false → false ≡ too_large c
    unfolding too_large
    unopened t = rw (le-ltb 65536 (length c) l, t)

    by_size : (r s w size : ℕ) → opens c ≡ true → r ≡ number_at c 6 1 → s ≡ number_at c 7 1 → w ≡ number_at c 8 2 → size ≡ ring_size r s w → ltb 16384 size ≡ too_large c
    unfolding too_large
    by_size r s w size t a b d e =
        let z : size ≡ size_in c = e ∙ (λ i. ring_size (a i) (b i) (d i)) in rw (le-ltb 65536 (length c) l, t) (ap (ltb 16384) z)

pub returns-then-bytes-gt65536 : goal.returns-then-bytes-gt65536
returns-then-bytes-gt65536 c = too_long _ c.if-bytes-gt65536.true

pub returns-then-not-opens : goal.returns-then-not-opens
returns-then-not-opens c = unopened _ c.if-bytes-gt65536.false (sym c.opens.ensures ∙ c.if-not-opens.true)

pub get_u8-requires : goal.get_u8-requires
get_u8-requires c =
    let opened : opens c.args.bytes.now ≡ true = sym c.opens.ensures ∙ c.if-not-opens.false in
    omega (arith, opening-whole _ (opened))

pub get_u8-requires-2 : goal.get_u8-requires-2
get_u8-requires-2 c =
    let opened : opens c.args.bytes.now ≡ true = sym c.opens.ensures ∙ c.if-not-opens.false in
    omega (arith, opening-whole _ (opened))

pub get_u16-requires : goal.get_u16-requires
get_u16-requires c =
    let opened : opens c.args.bytes.now ≡ true = sym c.opens.ensures ∙ c.if-not-opens.false in
    omega (arith, opening-whole _ (opened))

pub returns : goal.returns
returns c =
    let opened : opens c.args.bytes.now ≡ true = sym c.opens.ensures ∙ c.if-not-opens.false in
    by_size _ c.if-bytes-gt65536.false _ _ _ _ (opened) c.get_u8.ensures c.get_u8-2.ensures c.get_u16.ensures c.ring_size.ensures
