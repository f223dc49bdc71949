-- The head of an image, put field by field: its five parts one after the other. Assumes nothing.
use mathlib.Core.Path.{◌≡◌, refl, sym, ap, ap₂, ◌∙◌}
use mathlib.Core.List.{List, [], ◌∷◌, ◌++◌, append_assoc}
use Prim.Native.Nat.{ℕ, zero, suc, ◌<◌, ◌%◌}
use native.Mathlib.Omega.{arith}
use lib.ListN.{length, get_or, replicate, length-append}
use lib.Seq.{sets}
use mir.Syntax.{w32, w64}
use mir.Val.{of_z}
use Rattle.laws.specs.Bytes.{le, encode, size_of}
use Rattle.laws.proofs.Fields.{length-encode, part_then}
use Rattle.book.specs.declared.record.Book.{Book}
use Rattle.head.specs.Layout.{widths, firsts, seconds, values}
use Rattle.head.proofs.Heads.{firsts-length, seconds-length}

-- ---- fields in two parts, and fields of one byte
encode_append : (ws us vs xs : List ℕ) → length ws ≡ length vs → encode (ws ++ us) (vs ++ xs) ≡ encode ws vs ++ encode us xs
unfolding encode
encode_append [] us [] xs e = refl
encode_append [] us (v ∷ vs) xs e = absurd (omega arith)
encode_append (w ∷ ws) us [] xs e = absurd (omega arith)
encode_append (w ∷ ws) us (v ∷ vs) xs e =
    ap (λ (r : List ℕ). le w v ++ r) (encode_append ws us vs xs (omega arith)) ∙ sym (append_assoc (le w v) (encode ws vs) (encode us xs))

encode-bytes : (n : ℕ) (l : List ℕ) → length l ≡ n → ((i : ℕ) → get_or l i 0 < 256) → encode (replicate n 1) l ≡ l
unfolding encode le
encode-bytes zero [] e b = refl
encode-bytes zero (x ∷ xs) e b = absurd (omega arith)
encode-bytes (suc n) [] e b = absurd (omega arith)
encode-bytes (suc n) (x ∷ xs) e b =
    let m : x % 256 ≡ x = omega (arith, b 0) in
    ap₂ ◌∷◌ m (encode-bytes n xs (omega arith) (λ i. b (suc i)))

-- ---- the fields before the parents, and those between the parents and the counts, one put each
abbrev first_widths : List ℕ
first_widths = 4 ∷ 2 ∷ 1 ∷ 1 ∷ 2 ∷ 1 ∷ 1 ∷ []

abbrev second_widths : List ℕ
second_widths = 4 ∷ 2 ∷ 2 ∷ 8 ∷ 4 ∷ 4 ∷ []

pub firsts-puts : (n kind : ℕ) (b : Book) (d d₁ d₂ d₃ d₄ d₅ d₆ d₇ : List ℕ) (k : ℕ) → k ≡ kind → d₁ ≡ sets d 0 (le 4 n) → d₂ ≡ sets d₁ 4 (le 2 k) → d₃ ≡ sets d₂ 6 (le 1 b.regions)
    → d₄ ≡ sets d₃ 7 (le 1 b.services) → d₅ ≡ sets d₄ 8 (le 2 b.window) → d₆ ≡ sets d₅ 10 (le 1 b.halves) → d₇ ≡ sets d₆ 11 (le 1 0) → d₇ ≡ sets d 0 (encode first_widths (firsts n kind b))
unfolding encode firsts le
firsts-puts n kind b d d₁ d₂ d₃ d₄ d₅ d₆ d₇ k e e₁ e₂ e₃ e₄ e₅ e₆ e₇ = rw (e₇, e₆, e₅, e₄, e₃, e₂, e₁, e) refl

pub seconds-puts : (b : Book) (d d₁ d₂ d₃ d₄ d₅ d₆ : List ℕ) (x y z : ℕ) → x ≡ of_z w64 b.threshold → y ≡ of_z w32 b.cap → z ≡ of_z w32 b.floor → d₁ ≡ sets d 20 (le 4 b.entries)
    → d₂ ≡ sets d₁ 24 (le 2 b.position) → d₃ ≡ sets d₂ 26 (le 2 0) → d₄ ≡ sets d₃ 28 (le 8 x) → d₅ ≡ sets d₄ 36 (le 4 y) → d₆ ≡ sets d₅ 40 (le 4 z)
    → d₆ ≡ sets d 20 (encode second_widths (seconds b))
unfolding encode seconds le
seconds-puts b d d₁ d₂ d₃ d₄ d₅ d₆ x y z p q r e₁ e₂ e₃ e₄ e₅ e₆ = rw (e₆, e₅, e₄, e₃, e₂, e₁, p, q, r) refl

-- ---- the five parts
module _ (n kind : ℕ) (b : Book) (p : length b.parents ≡ 8) (c : length b.counts ≡ 8) (m : length b.marks ≡ 88)
    (pb : (i : ℕ) → get_or b.parents i 0 < 256) (mb : (i : ℕ) → get_or b.marks i 0 < 256) where
  abbrev first : List ℕ
  first = encode first_widths (firsts n kind b)

  abbrev middle : List ℕ
  middle = encode second_widths (seconds b)

  abbrev counts : List ℕ
  counts = encode (replicate 8 2) b.counts

  parts : encode widths (values n kind b) ≡ first ++ (b.parents ++ (middle ++ (counts ++ b.marks)))
  unfolding widths values
  parts =
      encode_append first_widths (replicate 8 1 ++ (second_widths ++ (replicate 8 2 ++ replicate 88 1))) (firsts n kind b) (b.parents ++ (seconds b ++ (b.counts ++ b.marks))) (sym (firsts-length n kind b))
      ∙ ap (λ (r : List ℕ). first ++ r) (encode_append (replicate 8 1) (second_widths ++ (replicate 8 2 ++ replicate 88 1)) b.parents (seconds b ++ (b.counts ++ b.marks)) (sym p)
      ∙ ap₂ ◌++◌ (encode-bytes 8 b.parents p pb) (encode_append second_widths (replicate 8 2 ++ replicate 88 1) (seconds b) (b.counts ++ b.marks) (sym (seconds-length n kind b))
      ∙ ap (λ (r : List ℕ). middle ++ r) (encode_append (replicate 8 2) (replicate 88 1) b.counts b.marks (sym c)
      ∙ ap (λ (r : List ℕ). counts ++ r) (encode-bytes 88 b.marks m mb))))

  first-length : length first ≡ 12
  unfolding encode firsts le
  first-length = refl

  middle-length : length middle ≡ 24
  unfolding encode seconds le
  middle-length = refl

  counts-length : length counts ≡ 16
  unfolding size_of
  counts-length = length-encode (replicate 8 2) b.counts (sym c)

  pub head-puts : (d d₁ d₂ d₃ d₄ d₅ : List ℕ) → d₁ ≡ sets d 0 first → d₂ ≡ sets d₁ 12 b.parents → d₃ ≡ sets d₂ 20 middle → d₄ ≡ sets d₃ 44 counts
      → d₅ ≡ sets d₄ 60 b.marks → d₅ ≡ sets d 0 (encode widths (values n kind b))
  head-puts d d₁ d₂ d₃ d₄ d₅ e₁ e₂ e₃ e₄ e₅ =
      let l₂ : length (first ++ b.parents) ≡ 20 = simp length-append (omega (arith, first-length)) in
      let l₃ : length ((first ++ b.parents) ++ middle) ≡ 44 = simp length-append (omega (arith, first-length, middle-length)) in
      let l₄ : length (((first ++ b.parents) ++ middle) ++ counts) ≡ 60 = simp length-append (omega (arith, first-length, middle-length, counts-length)) in
      let f₂ = part_then d d₁ d₂ first b.parents 0 12 (omega (arith, first-length)) e₁ e₂ in
      let f₃ = part_then d d₂ d₃ (first ++ b.parents) middle 0 20 (omega (arith, l₂)) f₂ e₃ in
      let f₄ = part_then d d₃ d₄ ((first ++ b.parents) ++ middle) counts 0 44 (omega (arith, l₃)) f₃ e₄ in
      let f₅ = part_then d d₄ d₅ (((first ++ b.parents) ++ middle) ++ counts) b.marks 0 60 (omega (arith, l₄)) f₄ e₅ in
      let flat : first ++ (b.parents ++ (middle ++ (counts ++ b.marks))) ≡ (((first ++ b.parents) ++ middle) ++ counts) ++ b.marks = simp append_assoc in
      f₅ ∙ ap (λ (r : List ℕ). sets d 0 r) (sym (parts ∙ flat))

  pub head-long : length (encode widths (values n kind b)) ≡ 148
  head-long = ap length parts ∙ simp length-append (omega (arith, first-length, middle-length, counts-length))
