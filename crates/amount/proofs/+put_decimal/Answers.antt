-- `amount::put_decimal`, which calls itself, meets its contract. Assumes nothing.
use Prim.Native.Nat.{ℕ, ◌<◌, ◌≤◌, ◌+◌, ◌/◌, ◌%◌}
use mathlib.Core.Path.{refl, ap₂, ◌∙◌}
use mathlib.Core.List.{List, [], ◌∷◌}
use native.Mathlib.Omega.{arith}
use lib.ListN.{set, length-append}
use Rattle.amount.specs.Text.{decimal}
use Rattle.amount.proofs.Texts.{decimal-small, decimal_step, length-small, length-step, paste-one, paste-next}
use Rattle.amount.proofs.+put_decimal.Goals as goal

pub bounds-buffer-at : goal.bounds-buffer-at
bounds-buffer-at t c = omega (arith, length-small c.args.n (omega arith))

pub put_decimal-end-requires : goal.put_decimal-end-requires
put_decimal-end-requires t c = omega (arith, length-step c.args.n (omega arith))

pub bounds-buffer-end : goal.bounds-buffer-end
bounds-buffer-end t c = omega (arith, length-step c.args.n (omega arith), c.put_decimal-end.auto.buffer)

pub overflow_add-result-else-n-lt10 : goal.overflow_add-result-else-n-lt10
overflow_add-result-else-n-lt10 t c = omega (arith, length-step c.args.n (omega arith))

pub returns-then-n-lt10 : goal.returns-then-n-lt10
returns-then-n-lt10 t c =
    let s = c.args in
    let h : s.n < 10 = omega arith in
    rw (decimal-small s.n h) record { value = refl; buffer_after = paste-one s.at (48 + s.n) s.buffer.now (omega (arith, length-small s.n h)) }

pub returns-else-n-lt10 : goal.returns-else-n-lt10
returns-else-n-lt10 t c =
    let s = c.args in
    let r = c.put_decimal-end.ensures in
    let h : 10 ≤ s.n = omega arith in
    rw (decimal_step s.n h) record {
      value = omega (arith, length-append (decimal (s.n / 10)) ((48 + s.n % 10) ∷ []));
      buffer_after = ap₂ (λ (l : List ℕ) (k : ℕ). set l k (48 + s.n % 10)) r.buffer_after r.value
          ∙ paste-next s.at (decimal (s.n / 10)) (48 + s.n % 10) s.buffer.now (omega (arith, length-step s.n h));
    }
