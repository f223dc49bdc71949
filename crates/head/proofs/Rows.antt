-- An image's head read field by field is the book that its numbers say. Assumes nothing.
use mathlib.Core.Path.{◌≡◌, refl, ap, ap₂, ◌∙◌}
use mathlib.Core.List.{List, [], ◌∷◌, ◌++◌}
use Prim.Native.Nat.{ℕ, zero, suc, ◌+◌, ◌*◌}
use native.Mathlib.Omega.{arith}
use lib.IntN.{ℤ, pos}
use lib.ListN.{get_or, take, drop, replicate}
use lib.Seq.{drop-drop}
use mir.Syntax.{w32, w64}
use mir.Val.{to_z}
use Rattle.laws.specs.Lists.{run, tabulate}
use Rattle.laws.specs.Bytes.{number_at, decode, size_of}
use Rattle.laws.proofs.Fields.{decode-drop}
use Rattle.book.specs.declared.record.Book.{Book}
use Rattle.head.specs.Layout.{widths, next_of, book_of, from_in, to_in, head_from}
use Rattle.head.proofs.Heads.{field_at}

-- n fields of one width
decode-run : (ws l : List ℕ) (w a n i : ℕ) → take n (decode (replicate n w ++ ws) (drop (a + w * i) l)) ≡ run n i (λ k. number_at l (a + w * k) w)
unfolding decode run number_at
decode-run ws l w a zero i = refl
decode-run ws l w a (suc n) i =
    let e : a + w * i + w ≡ a + w * suc i = omega arith in
    ap₂ ◌∷◌ refl (rw (drop-drop, e) (decode-run ws l w a n (suc i)))

module _ (l : List ℕ) where
  abbrev after-parents : List ℕ
  after-parents = (4 ∷ 2 ∷ 2 ∷ 8 ∷ 4 ∷ 4 ∷ []) ++ (replicate 8 2 ++ replicate 88 1)

  parents-are : take 8 (drop 7 (decode widths l)) ≡ tabulate 8 (λ i. number_at l (12 + 1 * i) 1)
  unfolding widths size_of
  parents-are = ap (take 8) (decode-drop widths l 7) ∙ decode-run after-parents l 1 12 8 0

  counts-are : take 8 (drop 21 (decode widths l)) ≡ tabulate 8 (λ i. number_at l (44 + 2 * i) 2)
  unfolding widths size_of
  counts-are = ap (take 8) (decode-drop widths l 21) ∙ decode-run (replicate 88 1) l 2 44 8 0

  marks-are : take 88 (drop 29 (decode widths l)) ≡ tabulate 88 (λ i. number_at l (60 + 1 * i) 1)
  unfolding widths size_of
  marks-are = ap (take 88) (decode-drop widths l 29) ∙ decode-run [] l 1 60 88 0

  pub head-is : (rg sv w h e p fr to : ℕ) (ps cs ns ms : List ℕ) (t c f : ℤ) → rg ≡ number_at l 6 1 → sv ≡ number_at l 7 1 → w ≡ number_at l 8 2 → h ≡ number_at l 10 1
      → ps ≡ tabulate 8 (λ i. number_at l (12 + 1 * i) 1) → fr ≡ from_in l → to ≡ to_in l → t ≡ to_z w64 (number_at l 28 8) → c ≡ to_z w32 (number_at l 36 4) → f ≡ to_z w32 (number_at l 40 4)
      → e ≡ number_at l 20 4 → p ≡ number_at l 24 2 → cs ≡ tabulate 8 (λ i. number_at l (44 + 2 * i) 2) → ns ≡ tabulate 8 (λ i. next_of w (get_or cs i 0)) → ms ≡ tabulate 88 (λ i. number_at l (60 + 1 * i) 1)
      → ◌≡◌ {A = Book} (record {
        regions = rg;
        services = sv;
        window = w;
        halves = h;
        parents = ps;
        from = fr;
        to = to;
        threshold = t;
        cap = c;
        floor = f;
        entries = e;
        position = p;
        counts = cs;
        nexts = ns;
        sums = replicate 88 (pos 0);
        marks = ms;
      }) (head_from l)
  unfolding book_of widths size_of
  head-is rg sv w h e p fr to ps cs ns ms t c f erg esv ew eh eps efr eto et ec ef ee ep ecs ens ems =
      rw (
        ens,
        erg,
        esv,
        ew,
        eh,
        eps,
        efr,
        eto,
        et,
        ec,
        ef,
        ee,
        ep,
        ecs,
        ems,
        parents-are,
        counts-are,
        marks-are,
        field_at l 2 6 1 (omega arith) refl refl,
        field_at l 3 7 1 (omega arith) refl refl,
        field_at l 4 8 2 (omega arith) refl refl,
        field_at l 5 10 1 (omega arith) refl refl,
        field_at l 18 28 8 (omega arith) refl refl,
        field_at l 19 36 4 (omega arith) refl refl,
        field_at l 20 40 4 (omega arith) refl refl,
        field_at l 15 20 4 (omega arith) refl refl,
        field_at l 16 24 2 (omega arith) refl refl,
      )
