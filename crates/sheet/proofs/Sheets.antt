-- Laws of the lines of a sheet, one after the other, and of the markets that they are of. Assumes nothing.
use mathlib.Core.Path.{◌≡◌, sym, ap, ◌∙◌}
use mathlib.Core.List.{List, ◌++◌, append_assoc, append-nil}
use Prim.Native.Nat.{ℕ, zero, suc, ◌+◌, ◌*◌, ◌/◌, ◌%◌, ◌≤◌, ◌<◌}
use native.Mathlib.Nat.{mod-lt, div-lt_iff_lt-mul}
use native.Mathlib.Numerals.{add-one}
use native.Mathlib.Omega.{arith}
use borrow.Author.Tests.{lt-ltb, le-ltb, eq-eqb, ne_eqb}
use lib.IntN.{pos}
use lib.ListN.{length, get_or, drop, length-append}
use Rattle.laws.proofs.Lists.{flat-place}
use Rattle.laws.specs.Lists.{joined}
use Rattle.amount.specs.Text.{paste}
use Rattle.book.specs.declared.record.Book.{Book}
use Rattle.head.specs.Counted.{market_count}
use Rattle.head.specs.Layout.{head_from}
use Rattle.image.specs.Loading.{ring_of, checked, book_from}
use Rattle.sheet.specs.Put.{Put}
use Rattle.sheet.specs.Sheet.{header, line_of, line, lines, refused_text, sheet_of}
use Rattle.sheet.proofs.Puts.{put-none, put_then}

joined_snoc : (f : ℕ → List ℕ) (n i : ℕ) → joined (suc n) i f ≡ joined n i f ++ f (i + n)
unfolding joined
joined_snoc f zero i = append-nil (f i) ∙ ap f (omega arith)
joined_snoc f (suc n) i =
    ap (λ (l : List ℕ). f i ++ l) (joined_snoc f n (suc i))
    ∙ sym (append_assoc (f i) (joined n (suc i) f) (f (suc i + n)))
    ∙ ap (λ (k : ℕ). (f i ++ joined n (suc i) f) ++ f k) (omega arith)

-- one more
pub joined-next : (f : ℕ → List ℕ) (n : ℕ) → joined (n + 1) 0 f ≡ joined n 0 f ++ f n
joined-next f n = ap (λ (k : ℕ). joined k 0 f) (add-one n) ∙ joined_snoc f n 0 ∙ ap (λ (k : ℕ). joined n 0 f ++ f k) (omega arith)

-- before the first, and one more
pub lines_none : (f : ℕ → List ℕ) (at : ℕ) (b : List ℕ) → Put (joined 0 0 f) at at b b
unfolding joined
lines_none f at b = put-none at b

-- market q's line after those below it, and the header before them all
module _ (b : Book) (q at r s : ℕ) (k l m : List ℕ) (h : r ≤ length k) (p : Put (joined q 0 (line b)) at r k l) where
  pub lines_next : let M = b.services + 1 in
      Put (line_of (q / M) (q % M) (get_or b.counts (q / M) 0) (get_or b.sums (11 * (q / M) + q % M) (pos 0)) (get_or b.marks (11 * (q / M) + q % M) 0)) r s l m
      → Put (joined (q + 1) 0 (line b)) at s k m
  unfolding line
  lines_next e = rw (joined-next (line b) q) (put_then (omega (arith, p.ends)) p e)

  pub lines-done : (j : List ℕ) → 39 ≤ length j → q ≡ market_count b → Put header 0 at j k → Put (lines b) 0 r j l
  unfolding lines
  lines-done j g e o = rw (← e) (put_then g o p)

-- the region, the market and the place of market q of a book
pub market-of : (q R M : ℕ) → q < R * M → R ≤ 8 → 0 < M → M ≤ 11 → (q / M < 8) × (q % M < 11) × (11 * (q / M) + q % M < 88)
market-of q R M h r p m = (omega (arith, (div-lt_iff_lt-mul p).1 h), omega (arith, mod-lt q p), flat-place q R M h r p m)

-- the ways of a sheet, in order
module _ (l : List ℕ) where
  pub too_long : 65536 < length l → sheet_of l ≡ refused_text 29
  unfolding sheet_of
  too_long h = rw (lt-ltb 65536 (length l) h)

  module _ (h : length l ≤ 65536) where
    pub not-passed : (checked l ≡ 0 → ⊥) → sheet_of l ≡ refused_text (checked l)
    unfolding sheet_of
    not-passed n = rw (le-ltb 65536 (length l) h, ne_eqb (checked l) 0 n)

    module _ (e : checked l ≡ 0) where
      pub too_large : 16384 < ring_of (head_from l) → sheet_of l ≡ refused_text 29
      unfolding sheet_of
      too_large g = rw (le-ltb 65536 (length l) h, eq-eqb (checked l) 0 e, lt-ltb 16384 (ring_of (head_from l)) g)

      pub shown : ring_of (head_from l) ≤ 16384 → sheet_of l ≡ lines (book_from l)
      unfolding sheet_of
      shown g = rw (le-ltb 65536 (length l) h, eq-eqb (checked l) 0 e, le-ltb 16384 (ring_of (head_from l)) g)

-- a sheet that was put at the front, within what it was put into
pub sheet-put : (l t : List ℕ) {r : ℕ} {b m : List ℕ} → sheet_of l ≡ t → Put t 0 r b m → (r ≡ length (sheet_of l)) × ((m ≡ paste 0 (sheet_of l) b) × (r ≤ length m))
unfolding paste
sheet-put l t {b = b} {m = m} e p =
    let n : length m ≡ length t + length (drop (0 + length t) b) = rw p.bytes (length-append t (drop (0 + length t) b)) in
    rw e (omega (arith, p.ends), (p.bytes, omega (arith, p.ends)))
