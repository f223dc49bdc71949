-- Seeds one after the other. Assumes nothing.
use mathlib.Core.Path.{◌≡◌, refl, sym, ap}
use Prim.Native.Nat.{ℕ, zero, suc, ◌+◌}
use native.Mathlib.Omega.{arith}
use Rattle.drawing.specs.Drawing.{next_seed, seed_after}

pub seed-none : (s : ℕ) → seed_after 0 s ≡ s
unfolding seed_after
seed-none s = refl

pub seed-next : (n s : ℕ) → seed_after (n + 1) s ≡ next_seed (seed_after n s)
unfolding seed_after
seed-next n s = let e : n + 1 ≡ suc n = omega arith in rw e refl

-- a draws, and b after them
pub seed-add : (a b s : ℕ) → seed_after (a + b) s ≡ seed_after b (seed_after a s)
seed-add a zero s = let e : a + 0 ≡ a = omega arith in rw e (sym (seed-none (seed_after a s)))
seed-add a (suc b) s =
    let e : a + suc b ≡ a + b + 1 = omega arith in
    let n : suc b ≡ b + 1 = omega arith in
    rw (e, n, seed-next (a + b) s, seed-next b (seed_after a s)) (ap next_seed (seed-add a b s))
