-- What an image that passes the check says: its ring's size, the shape of its book, and what loading it gives. Assumes nothing.
use mathlib.Core.Path.{◌≡◌, refl, ap, ◌∙◌}
use mathlib.Core.List.{List}
use Prim.Native.Nat.{ℕ, ◌≤◌}
use native.Mathlib.Omega.{arith}
use borrow.Author.Tests.{eq-eqb}
use lib.IntN.{ℤ}
use lib.ListN.{length}
use Rattle.laws.specs.Bytes.{number_at, size_of}
use Rattle.book.specs.declared.record.Book.{Book}
use Rattle.book.specs.Record.{ring_size}
use Rattle.book.specs.declared.record.Reply.{Reply}
use Rattle.head.specs.Layout.{widths, book_of, is_second, head_from}
use Rattle.image.specs.Loading.{ring_of, load_verdict, checked, book_from, Outcome, outcome, loaded}
use Rattle.head.proofs.Heads.{field_at}
use Rattle.head.proofs.Tails.{head-within}
use Rattle.image.proofs.Verdicts.{LoadOk, load_ok, ok-loaded}

-- R, S and W of the head are bytes 6, 7 and 8 to 9
pub ring-is : (l : List ℕ) → ring_of (head_from l) ≡ ring_size (number_at l 6 1) (number_at l 7 1) (number_at l 8 2)
unfolding book_of widths size_of
ring-is l = rw (field_at l 2 6 1 (omega arith) refl refl, field_at l 3 7 1 (omega arith) refl refl, field_at l 4 8 2 (omega arith) refl refl)

module _ (l : List ℕ) (e : checked l ≡ 0) where
  ok : LoadOk l (ring_of (head_from l))
  unfolding checked
  ok = load_ok l (ring_of (head_from l)) (eq-eqb (load_verdict l (ring_of (head_from l))).number 0 e)

  pub long : 148 ≤ length l
  long = omega (arith, ok.head.long, head-within (is_second l))

  pub shape : (b : Book) → b ≡ book_from l → (b.regions ≤ 8) × (b.services ≤ 10)
  unfolding book_from book_of
  shape b e = rw e (ok.head.book.regions, ok.head.book.services)

  -- loaded into a ring of its size
  pub book-is : (r : Reply Unit) (before after : List ℤ) → length before ≡ ring_of (head_from l) → outcome r after ≡ loaded l before → r.book ≡ book_from l
  book-is r before after h f =
      let g : LoadOk l (length before) = rw h ok in
      ap (λ (o : Outcome). o.book) (f ∙ ok-loaded l before g)
