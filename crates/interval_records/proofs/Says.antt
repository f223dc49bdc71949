-- What the bytes of one record say, and the bytes that say it. Assumes nothing.
use mathlib.Core.Path.{◌≡◌, refl, sym, ap, ◌∙◌}
use mathlib.Core.List.{List, [], ◌∷◌, ◌++◌, append_assoc}
use Prim.Native.Nat.{ℕ, ◌+◌, ◌*◌, ◌^◌, ◌<◌, ◌≤◌}
use native.Mathlib.Omega.{arith}
use lib.IntN.{ℤ, pos}
use lib.ListN.{length, get_or, take, drop, length-append}
use lib.Seq.{drop-drop, take-add}
use mir.Syntax.{w32}
use mir.Val.{SFits, of_z, to_z}
use mir.Facts.{Fits-of_z}
use Rattle.laws.specs.Lists.{tabulate}
use Rattle.laws.specs.Bytes.{le, number_at, encode, size_of, words, price_at}
use Rattle.laws.proofs.Bytes.{number-append-left, number-append-right, le-number_at}
use Rattle.laws.proofs.Fields.{Fit, none, more, length-encode, decode-encode, decode-at}
use Rattle.laws.proofs.Lists.{length_run, get_or-tabulate, tabulate-same}
use Rattle.laws.proofs.Words.{length-words, price-back, words_back}
use Rattle.interval_records.specs.Layout.{Interval, head_widths, region_widths, link_widths, head_length, region_length, link_length, row_of, head_record, region_record, link_record}

-- what the types of an interval's numbers say: each fits its field
pub record Fits (v : Interval) : Type 0 where
  pub number : v.number < 256 ^ 4
  pub kind : v.kind < 256
  pub marked : (r : ℕ) → get_or v.marked r 0 < 256
  pub factors : (r : ℕ) → get_or v.factors r 0 < 256 ^ 4
  pub flows : (r : ℕ) → SFits w32 (get_or v.flows r (pos 0))
  pub prices : (q : ℕ) → SFits w32 (get_or v.prices q (pos 0))

abbrev pub Bytes : List ℕ → Type 0
Bytes l = (i : ℕ) → get_or l i 0 < 256

-- ---- a field of a record that stands behind others
module _ (pre : List ℕ) {ws vs : List ℕ} (rest : List ℕ) (f : Fit ws vs) where
  pub field_in : (j : ℕ) → j < length ws → number_at (pre ++ (encode ws vs ++ rest)) (length pre + size_of (take j ws)) (get_or ws j 0) ≡ get_or vs j 0
  field_in j h =
      number-append-right pre (encode ws vs ++ rest) (length pre) (size_of (take j ws)) (get_or ws j 0) refl
      ∙ sym (decode-at ws (encode ws vs ++ rest) j h) ∙ ap (λ (l : List ℕ). get_or l j 0) (decode-encode rest f)

-- ---- the head
pub record HeadSays (regions : ℕ) (bytes : List ℕ) (at : ℕ) (v : Interval) : Type 0 where
  pub length : number_at bytes at 4 ≡ 12
  pub kind : number_at bytes (at + 4) 2 ≡ 16
  pub number : number_at bytes (at + 6) 4 ≡ v.number
  pub day : number_at bytes (at + 10) 1 ≡ v.kind
  pub total : number_at bytes (at + 11) 1 ≡ regions

-- ---- a region's record
pub record RegionSays (markets : ℕ) (bytes : List ℕ) (p : ℕ) (v : Interval) (r : ℕ) : Type 0 where
  pub length : number_at bytes p 4 ≡ region_length markets
  pub kind : number_at bytes (p + 4) 2 ≡ 17
  pub region : number_at bytes (p + 6) 1 ≡ r
  pub mark : number_at bytes (p + 7) 1 ≡ get_or v.marked r 0
  pub flow : number_at bytes (p + 8) 4 ≡ of_z w32 (get_or v.flows r (pos 0))
  pub factor : number_at bytes (p + 12) 4 ≡ get_or v.factors r 0
  pub price : (m : ℕ) → m < markets → to_z w32 (number_at bytes (p + 16 + 4 * m) 4) ≡ get_or v.prices (r * markets + m) (pos 0)

-- ---- the additional link's record: the last place of flows and factors
pub record LinkSays (regions : ℕ) (bytes : List ℕ) (p : ℕ) (v : Interval) : Type 0 where
  pub length : number_at bytes p 4 ≡ link_length
  pub kind : number_at bytes (p + 4) 2 ≡ 18
  pub flow : number_at bytes (p + 6) 4 ≡ of_z w32 (get_or v.flows regions (pos 0))
  pub factor : number_at bytes (p + 10) 4 ≡ get_or v.factors regions 0

-- 1. the bytes of a head say it
module _ (regions : ℕ) (v : Interval) (h : regions < 256) (f : Fits v) where
  head-fit : Fit head_widths (head_length ∷ 16 ∷ v.number ∷ v.kind ∷ regions ∷ [])
  unfolding head_widths
  head-fit =
      let a : head_length < 256 ^ 4 = omega arith in
      let b : 16 < 256 ^ 2 = omega arith in
      let c : v.kind < 256 ^ 1 = omega (arith, f.kind) in
      let d : regions < 256 ^ 1 = omega arith in
      more a (more b (more f.number (more c (more d none))))

  pub head-says : (pre rest : List ℕ) → HeadSays regions (pre ++ (head_record regions v ++ rest)) (length pre) v
  unfolding head_record head_widths size_of
  head-says pre rest =
      let g = field_in pre rest head-fit in
      let z : length pre + 0 ≡ length pre = omega arith in
      record {
        length = rw z at (g 0 (omega arith));
        kind = g 1 (omega arith);
        number = g 2 (omega arith);
        day = g 3 (omega arith);
        total = g 4 (omega arith);
      }

-- 1. the bytes of a region's record say it
module _ (markets : ℕ) (v : Interval) (m : markets ≤ 11) (f : Fits v) (r : ℕ) (h : r < 8) where
  region-fit : Fit region_widths (region_length markets ∷ 17 ∷ r ∷ get_or v.marked r 0 ∷ of_z w32 (get_or v.flows r (pos 0)) ∷ get_or v.factors r 0 ∷ [])
  unfolding region_widths
  region-fit =
      let a : region_length markets < 256 ^ 4 = omega arith in
      let b : 17 < 256 ^ 2 = omega arith in
      let c : r < 256 ^ 1 = omega arith in
      let d : get_or v.marked r 0 < 256 ^ 1 = omega (arith, f.marked r) in
      let e : of_z w32 (get_or v.flows r (pos 0)) < 256 ^ 4 = omega (arith, (Fits-of_z (f.flows r)).fits) in
      more a (more b (more c (more d (more e (more (f.factors r) none)))))

  abbrev values : List ℕ
  values = region_length markets ∷ 17 ∷ r ∷ get_or v.marked r 0 ∷ of_z w32 (get_or v.flows r (pos 0)) ∷ get_or v.factors r 0 ∷ []

  at_field : (pre rest : List ℕ) → let l = pre ++ (encode region_widths values ++ rest) in let n = length pre in
      (number_at l n 4 ≡ region_length markets) × (number_at l (n + 4) 2 ≡ 17) × (number_at l (n + 6) 1 ≡ r) × (number_at l (n + 7) 1 ≡ get_or v.marked r 0)
      × (number_at l (n + 8) 4 ≡ of_z w32 (get_or v.flows r (pos 0))) × (number_at l (n + 12) 4 ≡ get_or v.factors r 0)
  unfolding region_widths size_of
  at_field pre rest =
      let g = field_in pre rest region-fit in
      let z : length pre + 0 ≡ length pre = omega arith in
      (rw z at (g 0 (omega arith)), g 1 (omega arith), g 2 (omega arith), g 3 (omega arith), g 4 (omega arith), g 5 (omega arith))

  abbrev row : List ℤ
  row = row_of markets v.prices r

  fields-length : length (encode region_widths values) ≡ 16
  unfolding region_widths size_of
  fields-length = length-encode region_widths values refl

  -- a price behind the fields, whatever stands behind the prices
  price-in : (pre rest : List ℕ) (i : ℕ) → i < markets
      → to_z w32 (number_at (pre ++ (encode region_widths values ++ (words row ++ rest))) (length pre + 16 + 4 * i) 4) ≡ get_or v.prices (r * markets + i) (pos 0)
  price-in pre rest i l =
      let fs = encode region_widths values in
      let n : length (pre ++ fs) ≡ length pre + 16 = length-append pre fs ∙ omega (arith, fields-length) in
      let w : length row ≡ markets = length_run (λ k. get_or v.prices (r * markets + k) (pos 0)) markets 0 in
      let g : get_or row i (pos 0) ≡ get_or v.prices (r * markets + i) (pos 0) = get_or-tabulate (λ k. get_or v.prices (r * markets + k) (pos 0)) markets i (pos 0) l in
      let t : (pre ++ (fs ++ (words row ++ rest))) ≡ ((pre ++ fs) ++ words row) ++ rest = sym (append_assoc (pre ++ fs) (words row) rest ∙ append_assoc pre fs (words row ++ rest)) in
      let k : length (pre ++ fs) + 4 * i + 4 ≤ length ((pre ++ fs) ++ words row) = omega (arith, length-append (pre ++ fs) (words row), length-words row) in
      rw (t, ← n, number-append-left ((pre ++ fs) ++ words row) rest (length (pre ++ fs) + 4 * i) 4 k)
      (price-back row (pre ++ fs) i (rw g (f.prices (r * markets + i))) (omega arith) ∙ g)

  pub region-says : (pre rest : List ℕ) → RegionSays markets (pre ++ (region_record markets v r ++ rest)) (length pre) v r
  unfolding region_record
  region-says pre rest = rw (append_assoc (encode region_widths values) (words row) rest) (says pre rest)
    where
      says : (pre rest : List ℕ) → RegionSays markets (pre ++ (encode region_widths values ++ (words row ++ rest))) (length pre) v r
      says pre rest =
          let g = at_field pre (words row ++ rest) in
          record {
            length = g.0;
            kind = g.1;
            region = g.2;
            mark = g.3;
            flow = g.4;
            factor = g.5;
            price = price-in pre rest;
          }

-- 1. the bytes of the additional link's record say it
module _ (R : ℕ) (v : Interval) (f : Fits v) where
  link-fit : Fit link_widths (link_length ∷ 18 ∷ of_z w32 (get_or v.flows R (pos 0)) ∷ get_or v.factors R 0 ∷ [])
  unfolding link_widths
  link-fit =
      let a : link_length < 256 ^ 4 = omega arith in
      let b : 18 < 256 ^ 2 = omega arith in
      let c : of_z w32 (get_or v.flows R (pos 0)) < 256 ^ 4 = omega (arith, (Fits-of_z (f.flows R)).fits) in
      more a (more b (more c (more (f.factors R) none)))

  pub link-says : (pre rest : List ℕ) → LinkSays R (pre ++ (link_record R v ++ rest)) (length pre) v
  unfolding link_record link_widths size_of
  link-says pre rest =
      let g = field_in pre rest link-fit in
      let z : length pre + 0 ≡ length pre = omega arith in
      record { length = rw z at (g 0 (omega arith)); kind = g 1 (omega arith); flow = g 2 (omega arith); factor = g 3 (omega arith) }

-- ---- 4. the bytes that say it
-- a field, and what stands behind it
pub field-then : (l : List ℕ) (p w n q x : ℕ) (rest : List ℕ) → Bytes l → p + w ≤ length l → q ≡ p + w → number_at l p w ≡ x → rest ≡ take n (drop q l) → le w x ++ rest ≡ take (w + n) (drop p l)
field-then l p w n q x rest b h e a r =
    rw (← a, r, e, le-number_at l p w b h, take-add w n (drop p l), drop-drop w p l)

module _ (bytes : List ℕ) (b : Bytes bytes) (at : ℕ) where
  pub head_bytes : (regions : ℕ) (v : Interval) → at + 12 ≤ length bytes → HeadSays regions bytes at v → head_record regions v ≡ take 12 (drop at bytes)
  unfolding head_record head_widths encode
  head_bytes regions v h s =
      field-then bytes at 4 8 (at + 4) 12 _ b (omega arith) refl s.length
      (field-then bytes (at + 4) 2 6 (at + 6) 16 _ b (omega arith) (omega arith) s.kind
      (field-then bytes (at + 6) 4 2 (at + 10) v.number _ b (omega arith) (omega arith) s.number
      (field-then bytes (at + 10) 1 1 (at + 11) v.kind _ b (omega arith) (omega arith) s.day
      (field-then bytes (at + 11) 1 0 (at + 12) regions _ b (omega arith) (omega arith) s.total refl))))

  pub link-bytes : (regions : ℕ) (v : Interval) → at + link_length ≤ length bytes → LinkSays regions bytes at v → link_record regions v ≡ take link_length (drop at bytes)
  unfolding link_record link_widths encode
  link-bytes regions v h s =
      field-then bytes at 4 10 (at + 4) link_length _ b (omega arith) refl s.length
      (field-then bytes (at + 4) 2 8 (at + 6) 18 _ b (omega arith) (omega arith) s.kind
      (field-then bytes (at + 6) 4 4 (at + 10) _ _ b (omega arith) (omega arith) s.flow
      (field-then bytes (at + 10) 4 0 (at + 14) _ _ b (omega arith) (omega arith) s.factor refl)))

  fields-are : (markets : ℕ) (v : Interval) (r : ℕ) → at + region_length markets ≤ length bytes → RegionSays markets bytes at v r
      → encode region_widths (region_length markets ∷ 17 ∷ r ∷ get_or v.marked r 0 ∷ of_z w32 (get_or v.flows r (pos 0)) ∷ get_or v.factors r 0 ∷ []) ≡ take 16 (drop at bytes)
  unfolding region_widths encode
  fields-are markets v r h s =
      field-then bytes at 4 12 (at + 4) _ _ b (omega arith) refl s.length
      (field-then bytes (at + 4) 2 10 (at + 6) 17 _ b (omega arith) (omega arith) s.kind
      (field-then bytes (at + 6) 1 9 (at + 7) r _ b (omega arith) (omega arith) s.region
      (field-then bytes (at + 7) 1 8 (at + 8) _ _ b (omega arith) (omega arith) s.mark
      (field-then bytes (at + 8) 4 4 (at + 12) _ _ b (omega arith) (omega arith) s.flow
      (field-then bytes (at + 12) 4 0 (at + 16) _ _ b (omega arith) (omega arith) s.factor refl)))))

  row_is : (markets : ℕ) (v : Interval) (r : ℕ) → RegionSays markets bytes at v r → row_of markets v.prices r ≡ tabulate markets (price_at bytes (at + 16))
  row_is markets v r s = tabulate-same markets _ _ (λ k h. sym (s.price k h))

  pub region-bytes : (markets : ℕ) (v : Interval) (r : ℕ) → at + region_length markets ≤ length bytes → RegionSays markets bytes at v r → region_record markets v r ≡ take (region_length markets) (drop at bytes)
  unfolding region_record
  region-bytes markets v r h s =
      rw (fields-are markets v r h s, row_is markets v r s, words_back bytes b markets (at + 16) 0 (omega arith), take-add 16 (4 * markets) (drop at bytes), drop-drop 16 at bytes, zero)
    where
      zero : at + 16 + 4 * 0 ≡ at + 16
      zero = omega arith

pub region-length : (markets : ℕ) (v : Interval) (r : ℕ) → length (region_record markets v r) ≡ region_length markets
unfolding region_record region_widths size_of
region-length markets v r =
    let fs = encode region_widths (region_length markets ∷ 17 ∷ r ∷ get_or v.marked r 0 ∷ of_z w32 (get_or v.flows r (pos 0)) ∷ get_or v.factors r 0 ∷ []) in
    let e : length fs ≡ 16 = length-encode region_widths _ refl in
    length-append fs (words (row_of markets v.prices r)) ∙ omega (arith, length-words (row_of markets v.prices r), length_run (λ m. get_or v.prices (r * markets + m) (pos 0)) markets 0)

pub link-length : (R : ℕ) (v : Interval) → length (link_record R v) ≡ link_length
unfolding link_record link_widths size_of
link-length R v = length-encode link_widths _ refl
