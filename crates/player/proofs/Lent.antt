-- Of what the program lends only the lengths matter: what it is promised for them. Assumes nothing.
use mathlib.Core.Path.{◌≡◌, sym, ap, ◌∙◌, subst}
use mathlib.Core.List.{List}
use Prim.Native.Nat.{ℕ, ◌≤◌}
use lib.IntN.{ℤ}
use lib.ListN.{length}
use lib.Seq.{sets, length-sets}
use Rattle.replay.specs.Replay as Replay
use Rattle.replay.specs.Replay.{replayed, lent_of, outcome}
use Rattle.replay.specs.Promise.{sizes_of, promised_for, promised}
use Rattle.player.specs.Player.{lent}

module _ (c answers : List ℕ) (ring other : List ℤ) (image : List ℕ) (numbers : List ℤ) (factors : List ℕ) (table : List ℤ)
    (a : 163840 ≡ length answers) (r : 16384 ≡ length ring) (o : 16384 ≡ length other) (m : 65684 ≡ length image)
    (n : 16384 ≡ length numbers) (f : 16384 ≡ length factors) (t : 16384 ≡ length table) where
  abbrev all : Replay.Lent
  all = lent_of answers ring other image numbers factors table

  sizes : sizes_of all ≡ lent
  sizes = λ i. record {
    answers = sym a i;
    ring = sym r i;
    other = sym o i;
    image = sym m i;
    numbers = sym n i;
    factors = sym f i;
    table = sym t i;
  }

  for-lent : promised c all ≡ promised_for c lent
  for-lent = ap (promised_for c) sizes

  pub played : (w : ℕ) (answers' : List ℕ) (ring' other' : List ℤ) (image' : List ℕ) (numbers' : List ℤ) (factors' : List ℕ) (table' : List ℤ)
      → (outcome w answers' ring' other' image' numbers' factors' table' ≡ replayed c all)
      × ((w ≡ length (promised c all)) × ((answers' ≡ sets answers 0 (promised c all)) × (w ≤ length answers)))
      → (w ≡ length (promised_for c lent)) × ((answers' ≡ sets answers 0 (promised_for c lent)) × (w ≤ length answers'))
  played w answers' ring' other' image' numbers' factors' table' h =
      let same : length answers' ≡ length answers = ap length h.1.1.0 ∙ length-sets answers 0 (promised c all) in (
        h.1.0 ∙ ap length for-lent,
        (h.1.1.0 ∙ ap (sets answers 0) for-lent, subst (λ (i : ℕ). w ≤ i) (sym same) h.1.1.1),
      )
