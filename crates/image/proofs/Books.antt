-- A book and the numbers of its head, there and back. Assumes nothing.
use mathlib.Core.Path.{◌≡◌, sym, ap, ap₂, ◌∙◌}
use mathlib.Core.List.{List, [], ◌∷◌, ◌++◌, append_assoc}
use Prim.Native.Nat.{ℕ, ◌+◌, ◌-◌, ◌<◌, ◌≤◌}
use native.Mathlib.Omega.{arith}
use lib.IntN.{ℤ}
use lib.ListN.{length, get_or, take, drop, length-append, length-drop, take-append-drop}
use lib.Seq.{drop-drop, drop_at, take_at, take_all}
use mir.Syntax.{w32, w64}
use mir.Val.{SFits, Fits, of_z, to_z}
use mir.Facts.{to_z-of_z, of_z-to_z}
use Rattle.laws.specs.Lists.{run, tabulate}
use Rattle.laws.proofs.Joined.{take-run}
use Rattle.book.specs.declared.record.Book.{Book}
use Rattle.head.specs.Layout.{firsts, seconds, values, next_of, book_of}
use Rattle.head.proofs.Heads.{seconds-length, value-first, value-second}

-- the book as loading leaves it: "Loading puts the oldest at the window's first place", and these sums
abbrev pub anew_with : Book → List ℤ → Book
anew_with b sums = record {
  regions = b.regions;
  services = b.services;
  window = b.window;
  halves = b.halves;
  parents = b.parents;
  from = b.from;
  to = b.to;
  threshold = b.threshold;
  cap = b.cap;
  floor = b.floor;
  entries = b.entries;
  position = b.position;
  counts = b.counts;
  nexts = tabulate 8 (λ r. next_of b.window (get_or b.counts r 0));
  sums = sums;
  marks = b.marks;
}

-- ---- the book of a book's numbers
module _ (n kind : ℕ) (b : Book) (p : length b.parents ≡ 8) (c : length b.counts ≡ 8) (m : length b.marks ≡ 88) where
  first : (j : ℕ) → j < 7 → get_or (values n kind b) j 0 ≡ get_or (n ∷ kind ∷ b.regions ∷ b.services ∷ b.window ∷ b.halves ∷ 0 ∷ []) j 0
  unfolding firsts
  first j h = value-first n kind b j h

  second : (j : ℕ) → 15 ≤ j → j < 21 → get_or (values n kind b) j 0 ≡ get_or (b.entries ∷ b.position ∷ 0 ∷ of_z w64 b.threshold ∷ of_z w32 b.cap ∷ of_z w32 b.floor ∷ []) (j - 15) 0
  unfolding seconds
  second j h l = value-second n kind b p c j h l

  parents-are : take 8 (drop 7 (values n kind b)) ≡ b.parents
  unfolding values firsts
  parents-are = take_at b.parents (seconds b ++ (b.counts ++ b.marks)) 8 p

  counts-are : take 8 (drop 21 (values n kind b)) ≡ b.counts
  unfolding values firsts
  counts-are =
      ap (λ (x : List ℕ). take 8 (drop 14 x)) (sym (append_assoc b.parents (seconds b) (b.counts ++ b.marks)))
      ∙ ap (take 8) (drop_at (b.parents ++ seconds b) (b.counts ++ b.marks) 14 (length-append b.parents (seconds b) ∙ omega (arith, seconds-length n kind b)))
      ∙ take_at b.counts b.marks 8 c

  marks-are : take 88 (drop 29 (values n kind b)) ≡ b.marks
  unfolding values firsts
  marks-are =
      ap (λ (x : List ℕ). take 88 (drop 22 x)) (ap (λ (x : List ℕ). b.parents ++ x) (sym (append_assoc (seconds b) b.counts b.marks)) ∙ sym (append_assoc b.parents (seconds b ++ b.counts) b.marks))
      ∙ ap (take 88) (drop_at (b.parents ++ (seconds b ++ b.counts)) b.marks 22 (simp length-append (omega (arith, seconds-length n kind b))))
      ∙ take_all 88 b.marks (omega arith)

  pub book-values : (s : List ℤ) → SFits w64 b.threshold → SFits w32 b.cap → SFits w32 b.floor → book_of (values n kind b) b.from b.to s ≡ anew_with b s
  unfolding book_of
  book-values s t k f =
      rw (
        first 2 (omega arith),
        first 3 (omega arith),
        first 4 (omega arith),
        first 5 (omega arith),
        second 15 (omega arith) (omega arith),
        second 16 (omega arith) (omega arith),
        second 18 (omega arith) (omega arith),
        second 19 (omega arith) (omega arith),
        second 20 (omega arith) (omega arith),
        parents-are,
        counts-are,
        marks-are,
        to_z-of_z t,
        to_z-of_z k,
        to_z-of_z f,
      )

-- ---- the numbers of a book that was read
cut : (l : List ℕ) (a b : ℕ) → take b (drop a l) ++ drop (a + b) l ≡ drop a l
cut l a b = ap (λ (x : List ℕ). take b (drop a l) ++ x) (sym (drop-drop b a l)) ∙ take-append-drop b (drop a l)

module _ (vs : List ℕ) (k : length vs ≡ 117) where
  in_parts : run 7 0 (λ i. get_or vs i 0) ++ (take 8 (drop 7 vs) ++ (run 6 15 (λ i. get_or vs i 0) ++ (take 8 (drop 21 vs) ++ take 88 (drop 29 vs)))) ≡ vs
  in_parts =
      rw (← take-run 0 vs 7 0 (omega arith), ← take-run 0 vs 6 15 (omega arith), take_all 88 (drop 29 vs) (simp length-drop (omega arith)))
      (ap (λ (x : List ℕ). take 7 vs ++ (take 8 (drop 7 vs) ++ (take 6 (drop 15 vs) ++ x))) (cut vs 21 8)
      ∙ ap (λ (x : List ℕ). take 7 vs ++ (take 8 (drop 7 vs) ++ x)) (cut vs 15 6)
      ∙ ap (λ (x : List ℕ). take 7 vs ++ x) (cut vs 7 8)
      ∙ take-append-drop 7 vs)

  abbrev v : ℕ → ℕ
  v i = get_or vs i 0

  firsts-are : (n kind : ℕ) → n ≡ v 0 → v 1 ≡ kind → v 6 ≡ 0 → n ∷ kind ∷ v 2 ∷ v 3 ∷ v 4 ∷ v 5 ∷ 0 ∷ [] ≡ run 7 0 (λ i. get_or vs i 0)
  unfolding run
  firsts-are n kind e one z =
      ap (λ (x : ℕ). x ∷ kind ∷ v 2 ∷ v 3 ∷ v 4 ∷ v 5 ∷ 0 ∷ []) e ∙ ap (λ (x : ℕ). v 0 ∷ x ∷ v 2 ∷ v 3 ∷ v 4 ∷ v 5 ∷ 0 ∷ []) (sym one)
      ∙ ap (λ (x : ℕ). v 0 ∷ v 1 ∷ v 2 ∷ v 3 ∷ v 4 ∷ v 5 ∷ x ∷ []) (sym z)

  seconds-are : v 17 ≡ 0 → Fits w64 (v 18) → Fits w32 (v 19) → Fits w32 (v 20)
      → v 15 ∷ v 16 ∷ 0 ∷ of_z w64 (to_z w64 (v 18)) ∷ of_z w32 (to_z w32 (v 19)) ∷ of_z w32 (to_z w32 (v 20)) ∷ [] ≡ run 6 15 (λ i. get_or vs i 0)
  unfolding run
  seconds-are y t c f = rw (of_z-to_z t, of_z-to_z c, of_z-to_z f) (ap (λ (x : ℕ). v 15 ∷ v 16 ∷ x ∷ v 18 ∷ v 19 ∷ v 20 ∷ []) (sym y))

  pub values-book : (n kind from to : ℕ) (s : List ℤ) → n ≡ v 0 → v 1 ≡ kind → v 6 ≡ 0 → v 17 ≡ 0 → Fits w64 (v 18) → Fits w32 (v 19) → Fits w32 (v 20) → values n kind (book_of vs from to s) ≡ vs
  unfolding values firsts seconds book_of
  values-book n kind from to s e one z y t c f =
      ap₂ (λ (p q : List ℕ). p ++ (take 8 (drop 7 vs) ++ (q ++ (take 8 (drop 21 vs) ++ take 88 (drop 29 vs))))) (firsts-are n kind e one z) (seconds-are y t c f) ∙ in_parts
