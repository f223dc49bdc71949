-- Period marks: a loop over the places makes each one anew, and writes those that change. Assumes nothing.
use mathlib.Core.Path.{◌≡◌, refl, ap, ◌∙◌}
use mathlib.Core.Bool.{Bool, true, false}
use mathlib.Core.List.{List, ◌++◌}
use Prim.Native.Nat.{ℕ, ◌+◌, ◌<◌}
use native.Mathlib.Numerals.{add-one}
use lib.IntN.{ℤ, pos}
use lib.Signed.{lt_z}
use lib.ListN.{length, get_or, set, drop, length-set}
use lib.Seq.{drop-cons, append_snoc}
use Rattle.laws.specs.Lists.{tabulate}
use Rattle.laws.proofs.Lists.{tabulate-next, tab-step}
use Rattle.counting.specs.Periods.{mark_after}

module _ (threshold : ℤ) (last : Bool) (sums : List ℤ) (marks : List ℕ) where
  -- the mark at place k after the entry
  abbrev pub anew : ℕ → ℕ
  anew k = mark_after threshold last (get_or sums k (pos 0)) (get_or marks k 0)

  -- what a turn at place k leaves
  abbrev pub Turned : ℕ → List ℕ → Type 0
  Turned k after = (length after ≡ 88) × (after ≡ tabulate (k + 1) anew ++ drop (k + 1) marks)

  module _ (k : ℕ) (l after : List ℕ) (n : length l ≡ 88) (i : l ≡ tabulate k anew ++ drop k marks) (h : k < length marks) where
    written : (v : ℕ) → after ≡ set l k v → v ≡ anew k → Turned k after
    written v e x = (ap length e ∙ length-set l k v ∙ n, e ∙ tab-step anew k marks l v i h x)

    pub raised : lt_z threshold (get_or sums k (pos 0)) ≡ true → after ≡ set l k 1 → Turned k after
    raised t e = written 1 e (rw t refl)

    pub released : lt_z threshold (get_or sums k (pos 0)) ≡ false → last ≡ true → after ≡ set l k 0 → Turned k after
    released t d e = written 0 e (rw (t, d) refl)

    pub stayed : lt_z threshold (get_or sums k (pos 0)) ≡ false → last ≡ false → after ≡ l → Turned k after
    stayed t d e =
        let x : get_or marks k 0 ≡ anew k = rw (t, d) refl in
        (ap length e ∙ n, e ∙ rw (i, tabulate-next anew k, add-one, drop-cons marks k 0 h, append_snoc, ← x))
