-- The number that answers a host for each case of the index. Assumes nothing.
use mathlib.Core.Path.{◌≡◌, sym, ap, ◌∙◌}
use Prim.Native.Nat.{ℕ}
use lib.IntN.{pos, negsuc}
use Rattle.std.specs.Prelude.{Result, Ok, Err}
use Rattle.pricing.specs.declared.indexing.OutOfRange.{OutOfRange}
use Rattle.pricing.specs.Indexing.{Outcome, answered}
use Rattle.capi.specs.Host.{dollars_or}

module _ (r : Result ℕ OutOfRange) {o : Outcome} (e : answered r ≡ o) where
  pub dollars-are : (d : ℕ) → r ≡ Ok d → d ≡ o.dollars
  dollars-are d f = ap (λ (a : Result ℕ OutOfRange). (answered a).dollars) (sym f) ∙ ap (λ (x : Outcome). x.dollars) e

  pub in-dollars : (d : ℕ) → r ≡ Ok d → pos d ≡ dollars_or o
  in-dollars d f = ap (λ (a : Result ℕ OutOfRange). dollars_or (answered a)) (sym f) ∙ ap dollars_or e

  pub out_of_range : (x : OutOfRange) → r ≡ Err x → negsuc 29 ≡ dollars_or o
  out_of_range x f = ap (λ (a : Result ℕ OutOfRange). dollars_or (answered a)) (sym f) ∙ ap dollars_or e
