-- The fields of a head: where each of a book's numbers stands among the numbers of the head. Assumes nothing.
use mathlib.Core.Path.{◌≡◌, refl, ap, ◌∙◌}
use mathlib.Core.List.{List, [], ◌∷◌, ◌++◌}
use Prim.Native.Nat.{ℕ, ◌-◌, ◌<◌, ◌≤◌}
use native.Mathlib.Omega.{arith}
use lib.ListN.{length, get_or, take, replicate, length-append, get_or-replicate}
use mir.Syntax.{w32, w64}
use mir.Val.{of_z}
use Rattle.laws.specs.Bytes.{number_at, decode, size_of}
use Rattle.laws.proofs.Fields.{decode-at}
use Rattle.laws.proofs.Joined.{at_left, at_right}
use Rattle.book.specs.declared.record.Book.{Book}
use Rattle.head.specs.Layout.{widths, firsts, seconds, values}

pub widths-length : length widths ≡ 117
unfolding widths
widths-length = refl

pub widths-size : size_of widths ≡ 148
unfolding widths size_of
widths-size = refl

-- field j of bytes, by its place and width
pub field_at : (l : List ℕ) (j at w : ℕ) → j < 117 → size_of (take j widths) ≡ at → get_or widths j 0 ≡ w → get_or (decode widths l) j 0 ≡ number_at l at w
unfolding widths
field_at l j at w h p q = decode-at widths l j h ∙ rw (p, q)

-- ---- five lists one after the other, as the numbers of a head are
module _ (f p s c m : List ℕ) (ef : length f ≡ 7) (ep : length p ≡ 8) (es : length s ≡ 6) (ec : length c ≡ 8) where
  abbrev whole : List ℕ
  whole = f ++ (p ++ (s ++ (c ++ m)))

  pub parts-length : length m ≡ 88 → length whole ≡ 117
  parts-length em = simp length-append (omega arith)

  pub first-at : (j : ℕ) → j < 7 → get_or whole j 0 ≡ get_or f j 0
  first-at j h = at_left f _ 7 j 0 ef h

  past : (j : ℕ) → 7 ≤ j → get_or whole j 0 ≡ get_or (p ++ (s ++ (c ++ m))) (j - 7) 0
  past j h = at_right f _ 7 j 0 ef h

  pub parent-at : (j : ℕ) → 7 ≤ j → j < 15 → get_or whole j 0 ≡ get_or p (j - 7) 0
  parent-at j h l = past j h ∙ at_left p _ 8 (j - 7) 0 ep (omega arith)

  past₂ : (j : ℕ) → 15 ≤ j → get_or whole j 0 ≡ get_or (s ++ (c ++ m)) (j - 15) 0
  past₂ j h = past j (omega arith) ∙ at_right p _ 8 (j - 7) 0 ep (omega arith) ∙ ap (λ (k : ℕ). get_or (s ++ (c ++ m)) k 0) (omega arith)

  pub second_at : (j : ℕ) → 15 ≤ j → j < 21 → get_or whole j 0 ≡ get_or s (j - 15) 0
  second_at j h l = past₂ j h ∙ at_left s _ 6 (j - 15) 0 es (omega arith)

  past₃ : (j : ℕ) → 21 ≤ j → get_or whole j 0 ≡ get_or (c ++ m) (j - 21) 0
  past₃ j h = past₂ j (omega arith) ∙ at_right s _ 6 (j - 15) 0 es (omega arith) ∙ ap (λ (k : ℕ). get_or (c ++ m) k 0) (omega arith)

  pub count_at : (j : ℕ) → 21 ≤ j → j < 29 → get_or whole j 0 ≡ get_or c (j - 21) 0
  count_at j h l = past₃ j h ∙ at_left c _ 8 (j - 21) 0 ec (omega arith)

  pub mark-at : (j : ℕ) → 29 ≤ j → get_or whole j 0 ≡ get_or m (j - 29) 0
  mark-at j h = past₃ j (omega arith) ∙ at_right c _ 8 (j - 21) 0 ec (omega arith) ∙ ap (λ (k : ℕ). get_or m k 0) (omega arith)

-- ---- the numbers of a book of n bytes
module _ (n kind : ℕ) (b : Book) where
  pub firsts-length : length (firsts n kind b) ≡ 7
  unfolding firsts
  firsts-length = refl

  pub seconds-length : length (seconds b) ≡ 6
  unfolding seconds
  seconds-length = refl

  pub value-first : (j : ℕ) → j < 7 → get_or (values n kind b) j 0 ≡ get_or (firsts n kind b) j 0
  unfolding values
  value-first j h = at_left (firsts n kind b) _ 7 j 0 firsts-length h

module _ (n kind : ℕ) (b : Book) (p : length b.parents ≡ 8) (c : length b.counts ≡ 8) where
  pub values_length : length b.marks ≡ 88 → length (values n kind b) ≡ 117
  unfolding values
  values_length = parts-length (firsts n kind b) b.parents (seconds b) b.counts b.marks (firsts-length n kind b) p (seconds-length n kind b) c

  pub value-second : (j : ℕ) → 15 ≤ j → j < 21 → get_or (values n kind b) j 0 ≡ get_or (seconds b) (j - 15) 0
  unfolding values
  value-second = second_at (firsts n kind b) b.parents (seconds b) b.counts b.marks (firsts-length n kind b) p (seconds-length n kind b) c

-- the six between parents and counts
pub seconds-are : (b : Book) (x y z : ℕ) → x ≡ of_z w64 b.threshold → y ≡ of_z w32 b.cap → z ≡ of_z w32 b.floor → b.entries ∷ b.position ∷ 0 ∷ x ∷ y ∷ z ∷ [] ≡ seconds b
unfolding seconds
seconds-are b x y z p q r = rw (p, q, r)

-- five lists that are the numbers of a head
pub values-are : (n kind : ℕ) (b : Book) (f s : List ℕ) → f ≡ firsts n kind b → s ≡ seconds b → f ++ (b.parents ++ (s ++ (b.counts ++ b.marks))) ≡ values n kind b
unfolding values
values-are n kind b f s p q = rw (p, q)

-- ---- the widths, in the same five parts
module _ (j : ℕ) where
  abbrev first_widths : List ℕ
  first_widths = 4 ∷ 2 ∷ 1 ∷ 1 ∷ 2 ∷ 1 ∷ 1 ∷ []

  abbrev second_widths : List ℕ
  second_widths = 4 ∷ 2 ∷ 2 ∷ 8 ∷ 4 ∷ 4 ∷ []

  pub first_width : j < 7 → get_or widths j 0 ≡ get_or first_widths j 0
  unfolding widths
  first_width h = first-at first_widths (replicate 8 1) second_widths (replicate 8 2) (replicate 88 1) refl refl refl refl j h

  pub parent-width : 7 ≤ j → j < 15 → get_or widths j 0 ≡ 1
  unfolding widths
  parent-width h l = parent-at first_widths (replicate 8 1) second_widths (replicate 8 2) (replicate 88 1) refl refl refl refl j h l ∙ get_or-replicate 8 (j - 7) 1 0 (omega arith)

  pub second-width : 15 ≤ j → j < 21 → get_or widths j 0 ≡ get_or second_widths (j - 15) 0
  unfolding widths
  second-width h l = second_at first_widths (replicate 8 1) second_widths (replicate 8 2) (replicate 88 1) refl refl refl refl j h l

  pub count-width : 21 ≤ j → j < 29 → get_or widths j 0 ≡ 2
  unfolding widths
  count-width h l = count_at first_widths (replicate 8 1) second_widths (replicate 8 2) (replicate 88 1) refl refl refl refl j h l ∙ get_or-replicate 8 (j - 21) 2 0 (omega arith)

  pub mark-width : 29 ≤ j → j < 117 → get_or widths j 0 ≡ 1
  unfolding widths
  mark-width h l = mark-at first_widths (replicate 8 1) second_widths (replicate 8 2) (replicate 88 1) refl refl refl refl j h ∙ get_or-replicate 88 (j - 29) 1 0 (omega arith)
