-- Worked cases of a test load, computed: the seeds, the intervals that are made of them, and an entry of one. Assumes nothing.
use mathlib.Core.Path.{◌≡◌, refl}
use mathlib.Core.List.{[], ◌∷◌}
use Prim.Native.Nat.{ℕ}
use lib.IntN.{pos, negsuc}
use lib.ListN.{replicate}
use native.Mathlib.Omega.{arith}
use Rattle.laws.specs.Lists.{run, all_below}
use Rattle.pricing.specs.Verdict.{accepted}
use Rattle.book.specs.declared.record.Book.{Book}
use Rattle.book.specs.Validity.{valid}
use Rattle.publishing.specs.Entry.{entry_of}
use Rattle.entries.specs.Entering.{enter_verdict}
use Rattle.interval_records.specs.Layout.{interval_of}
use Rattle.drawing.specs.Drawing.{seed_after, drawn, energy_of}
use Rattle.synthetic.specs.Synthetic.{made, draws}
use Rattle.synthetic.proofs.Passes.{made-enters}

-- a book of R regions with S services each
abbrev sized : ℕ → ℕ → Book
sized regions services = record {
  regions = regions;
  services = services;
  window = 1;
  halves = 1;
  parents = replicate 8 255;
  from = 255;
  to = 255;
  threshold = pos 90000;
  cap = pos 60000;
  floor = negsuc 59999;
  entries = 0;
  position = 0;
  counts = replicate 8 0;
  nexts = replicate 8 0;
  sums = replicate 88 (pos 0);
  marks = replicate 88 0;
}

-- a region alone: energy, flow, factor
one : made (sized 1 0) 0 0 0 ≡ interval_of 0 0 (pos 13470 ∷ []) (0 ∷ []) (negsuc 752 ∷ []) (11708 ∷ [])
unfolding seed_after run
one = refl

one_last : seed_after (draws (sized 1 0)) 0 ≡ 3519870697
unfolding seed_after
one_last = refl

-- two regions with a service each, number 9, day kind 250: flow and factor in turn, not all flows first
two : made (sized 2 1) 0 9 250
    ≡ interval_of 9 250 (pos 13470 ∷ pos 256 ∷ pos 11708 ∷ pos 1769 ∷ []) (0 ∷ 0 ∷ []) (pos 158 ∷ negsuc 484 ∷ []) (10750 ∷ 11945 ∷ [])
unfolding seed_after run
two = refl

two-last : seed_after (draws (sized 2 1)) 0 ≡ 2748932008
unfolding seed_after
two-last = refl

-- the next of this seed is 0, and 0 < 64
zero-next : seed_after 1 634785765 ≡ 0
unfolding seed_after
zero-next = refl

-- d 63 and d 64
edge : (energy_of (drawn 1479915296 0) ∷ energy_of (drawn 1461063653 0) ∷ []) ≡ (pos 1500000 ∷ negsuc 1935 ∷ [])
unfolding seed_after
edge = refl

-- an entry of it is accepted: a book, a ring, a schedule and a table of which `made-enters` speaks
taken : let v = made (sized 2 1) 0 0 1 in
    enter_verdict (sized 2 1) 4 0 (entry_of 1 v.prices v.marked v.flows v.factors (replicate 8 (pos 0))) 4 ≡ accepted
unfolding valid all_below
taken = made-enters (sized 2 1) 0 0 1 4 4 (replicate 8 (pos 0)) refl refl refl refl (omega arith) refl (omega arith)
