-- `image::storing::in_order` meets its contract. Assumes nothing.
use mathlib.Core.Path.{◌≡◌, ap, ◌∙◌}
use mathlib.Core.List.{◌++◌}
use Prim.Native.Nat.{ℕ, ◌+◌, ◌-◌}
use native.Mathlib.Omega.{arith}
use lib.ListN.{length, take, drop}
use Rattle.image.proofs.Runs.{Older, older, runs, runs-length}
use Rattle.image.proofs.storing.in_order.Goals as goal

pub returns : goal.returns
returns c =
    let w = c.args.window.now in
    let s = c.args.start in
    let n = c.args.count in
    let m = c.min-older.result in
    let o : Older (length w) s n m = rw c.min-older.ensures (older (length w) s n c.requires.1 c.requires.2) in
    let z : s + m - s ≡ m = omega arith in
    let e = ap (λ (k : ℕ). take k (drop s w) ++ take (n - m) w) z ∙ runs w s n m o in record {
      prices = e;
      lengths = runs-length _ _ _ _ e;
    }
