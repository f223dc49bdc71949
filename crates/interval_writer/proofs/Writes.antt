-- The writer of interval records, in plain numbers and lists: its fields put one behind the other, the loop over regions, what its
-- tests say, and the outcome by the way the call takes. Assumes nothing.
use mathlib.Core.Path.{◌≡◌, refl, sym, ap, ◌∙◌}
use mathlib.Core.Bool.{Bool, true, false}
use mathlib.Core.List.{List, [], ◌∷◌, ◌++◌}
use Prim.Native.Nat.{ℕ, suc, ◌+◌, ◌*◌, ◌-◌, ◌<◌, ◌≤◌}
use native.Mathlib.Nat.{suc-mul}
use native.Mathlib.Omega.{arith}
use borrow.Author.Tests.{lt-ltb, le-ltb, ltb-false}
use lib.Dec.{ltb}
use lib.IntN.{ℤ, pos}
use lib.ListN.{length, get_or, drop}
use lib.Seq.{sets}
use mir.Syntax.{w32}
use mir.Val.{of_z}
use Rattle.laws.specs.Base.{pick}
use Rattle.laws.specs.Lists.{joined}
use Rattle.laws.specs.Bytes.{le, encode, size_of, words}
use Rattle.laws.proofs.Bytes.{length-le, sets-append, sets-front}
use Rattle.laws.proofs.Fields.{part_then, length-encode}
use Rattle.laws.proofs.Tests.{by-test, true-is}
use Rattle.pricing.specs.Verdict.{accepted, refused}
use Rattle.book.specs.declared.record.Book.{Book}
use Rattle.book.specs.declared.record.Refusal.{Refusal}
use Rattle.std.specs.Prelude.{Result, Ok, Err}
use Rattle.book.specs.Record.{markets_of, has_link, verdict, is_accepted}
use Rattle.book.specs.Validity.{valid}
use Rattle.book.proofs.Ways.{refusal_is}
use Rattle.interval_records.specs.Layout.{Interval, head_widths, head_length, region_widths, region_length, link_widths, link_length, row_of}
use Rattle.interval_records.specs.Layout.{length_for, head_record, region_record, link_record, interval_bytes}
use Rattle.intervals.specs.Lent.{lengths_ok, slices_ok}
use Rattle.intervals.specs.Working.{lent_verdict}
use Rattle.interval_records.proofs.Says.{region-length}
use Rattle.intervals.proofs.Intervals.{bytes-length, joined_length}
use Rattle.interval_writer.specs.Writing.{write_lengths, write_verdict, outcome, write_interval}

-- ---- fields put one behind the other
put_last : (l m : List ℕ) (at w x : ℕ) → m ≡ sets l at (le w x) → m ≡ sets l at (encode (w ∷ []) (x ∷ []))
unfolding encode
put_last l m at w x e = part_then l m m (le w x) [] at (at + length (le w x)) refl e refl

put_then : (l m n : List ℕ) (at p w x : ℕ) (ws vs : List ℕ) → p ≡ at + w → m ≡ sets l at (le w x) → n ≡ sets m p (encode ws vs)
    → n ≡ sets l at (encode (w ∷ ws) (x ∷ vs))
unfolding encode
put_then l m n at p w x ws vs e = part_then l m n (le w x) (encode ws vs) at p (omega (arith, length-le w x))

-- the head
module _ (l k m n o p : List ℕ) (number kind regions : ℕ) where
  pub head_puts : k ≡ sets l 0 (le 4 12) → m ≡ sets k 4 (le 2 16) → n ≡ sets m 6 (le 4 number) → o ≡ sets n 10 (le 1 kind)
      → p ≡ sets o 11 (le 1 regions)
      → p ≡ sets l 0 (encode head_widths (head_length ∷ 16 ∷ number ∷ kind ∷ regions ∷ []))
  unfolding head_widths
  head_puts a b c d e =
      put_then l k p 0 4 4 12 _ _ refl a
      (put_then k m p 4 6 2 16 _ _ refl b
      (put_then m n p 6 10 4 number _ _ refl c
      (put_then n o p 10 11 1 kind _ _ refl d
      (put_last o p 11 1 regions e))))

-- the record of a region
module _ (l i j k m n o p : List ℕ) (at size region mark flow factor : ℕ) (row : List ℤ) where
  pub region-puts : i ≡ sets l at (le 4 size) → j ≡ sets i (at + 4) (le 2 17) → k ≡ sets j (at + 6) (le 1 region)
      → m ≡ sets k (at + 7) (le 1 mark)
      → n ≡ sets m (at + 8) (le 4 flow) → o ≡ sets n (at + 12) (le 4 factor) → p ≡ sets o (at + 16) (words row)
      → p ≡ sets l at (encode region_widths (size ∷ 17 ∷ region ∷ mark ∷ flow ∷ factor ∷ []) ++ words row)
  unfolding region_widths size_of
  region-puts a b c d e f =
      let vs = size ∷ 17 ∷ region ∷ mark ∷ flow ∷ factor ∷ [] in
      let z : length (encode region_widths vs) ≡ 16 = length-encode region_widths vs refl in
      part_then l o p (encode region_widths vs) (words row) at (at + 16) (omega (arith, z))
      (put_then l i o at (at + 4) 4 size _ _ refl a
      (put_then i j o (at + 4) (at + 6) 2 17 _ _ (omega arith) b
      (put_then j k o (at + 6) (at + 7) 1 region _ _ (omega arith) c
      (put_then k m o (at + 7) (at + 8) 1 mark _ _ (omega arith) d
      (put_then m n o (at + 8) (at + 12) 4 flow _ _ (omega arith) e
      (put_last n o (at + 12) 4 factor f))))))

-- the record of the additional link
module _ (l k m n o : List ℕ) (at flow factor : ℕ) where
  pub link-puts : k ≡ sets l at (le 4 14) → m ≡ sets k (at + 4) (le 2 18) → n ≡ sets m (at + 6) (le 4 flow) → o ≡ sets n (at + 10) (le 4 factor)
      → o ≡ sets l at (encode link_widths (link_length ∷ 18 ∷ flow ∷ factor ∷ []))
  unfolding link_widths
  link-puts a b c d =
      put_then l k o at (at + 4) 4 14 _ _ refl a
      (put_then k m o (at + 4) (at + 6) 2 18 _ _ (omega arith) b
      (put_then m n o (at + 6) (at + 10) 4 flow _ _ (omega arith) c
      (put_last n o (at + 10) 4 factor d)))

module _ (linked : Bool) (R : ℕ) (v : Interval) (l m : List ℕ) (at : ℕ) where
  pub last-put : linked ≡ true → (flow : ℤ) (p : ℕ) → p ≡ at → flow ≡ get_or v.flows R (pos 0)
      → m ≡ sets l p (encode link_widths (link_length ∷ 18 ∷ of_z w32 flow ∷ get_or v.factors R 0 ∷ []))
      → m ≡ sets l at (pick linked (link_record R v) [])
  unfolding link_record
  last-put t flow p q e f = rw t (rw (q, e) at f)

  pub last_none : linked ≡ false → m ≡ l → m ≡ sets l at (pick linked (link_record R v) [])
  last_none t e = rw t e

-- of an interval's numbers, with the flow that was read
pub record-put : (M r : ℕ) (v : Interval) (flow : ℤ) (l m : List ℕ) (at : ℕ) → flow ≡ get_or v.flows r (pos 0)
    → m ≡ sets l at
    (encode region_widths (region_length M ∷ 17 ∷ r ∷ get_or v.marked r 0 ∷ of_z w32 flow ∷ get_or v.factors r 0 ∷ [])
    ++ words (row_of M v.prices r))
    → m ≡ sets l at (region_record M v r)
unfolding region_record
record-put M r v flow l m at e f = rw e at f

-- ---- the loop over regions: what is still to go is the same at every turn
module _ (f : ℕ → List ℕ) (size first : ℕ) where
  pub regions-none : (l : List ℕ) (R : ℕ) → sets l (first + 0 * size) (joined (R - 0) 0 f) ≡ sets l first (joined R 0 f)
  regions-none l R = let a : first + 0 * size ≡ first = omega arith in let b : R - 0 ≡ R = omega arith in rw (a, b) refl

  pub regions-step : (l r : List ℕ) (R q : ℕ) → q < R → length (f q) ≡ size → sets l (first + q * size) (joined (R - q) q f) ≡ r
      → sets (sets l (first + q * size) (f q)) (first + (q + 1) * size) (joined (R - (q + 1)) (q + 1) f) ≡ r
  unfolding joined
  regions-step l r R q h k e =
      let m : R - q ≡ suc (R - (q + 1)) = omega arith in
      let j : q + 1 ≡ suc q = omega arith in
      let a : first + (q + 1) * size ≡ first + q * size + length (f q) = rw (j, k) (omega (arith, suc-mul q size)) in
      rw (a, ← sets-append l (first + q * size) (f q) (joined (R - (q + 1)) (q + 1) f), j) (rw (m, j) at e)

  pub regions-done : (l r : List ℕ) (at R q : ℕ) → R ≤ q → sets l at (joined (R - q) q f) ≡ r → l ≡ r
  unfolding joined
  regions-done l r at R q h e = let z : R - q ≡ 0 = omega arith in rw z at e

-- ---- what the tests of an accepted write say
pub record Writes (b : Book) (v : Interval) (room : ℕ) : Type 0 where
  pub book : valid b ≡ true
  pub slices : slices_ok b v ≡ true
  pub long : length_for b ≤ room

pub accepted-writes : (b : Book) (v : Interval) (room : ℕ) → is_accepted (write_verdict b v room) ≡ true → Writes b v room
unfolding write_lengths
accepted-writes b v room e =
    by-test (valid b)
    (λ a. by-test (slices_ok b v)
    (λ s. by-test (ltb room (length_for b))
    (λ r. absurd (true-is (rw (a, s, r) at e)))
    (λ r. record { book = a; slices = s; long = ltb-false _ _ r }))
    (λ s. absurd (true-is (rw (a, s) at e))))
    (λ a. absurd (true-is (rw a at e)))

-- ---- the verdict: what both calls refuse first, then the room
lengths-by : (b : Book) (prices marked flows factors room : ℕ) → let lent = lent_verdict b prices marked flows factors in
    write_lengths b prices marked flows factors room ≡ pick (is_accepted lent) (pick (ltb room (length_for b)) (refused 23) accepted) lent
unfolding write_lengths lent_verdict
lengths-by b prices marked flows factors room =
    by-test (valid b)
    (λ a. by-test (lengths_ok b prices marked flows factors) (λ l. rw (a, l) refl) (λ l. rw (a, l) refl))
    (λ a. rw a refl)

module _ (b : Book) (prices marked flows factors room : ℕ) (a : Result Unit Refusal) (h : verdict a ≡ lent_verdict b prices marked flows factors) where
  pub write-lent : (r : Refusal) → a ≡ Err r → verdict a ≡ write_lengths b prices marked flows factors room
  write-lent r q =
      let z : is_accepted (lent_verdict b prices marked flows factors) ≡ false = rw (← h, q) (refusal_is r) in
      rw (lengths-by b prices marked flows factors room, z) h

  is-lent : a ≡ Ok tt → is_accepted (lent_verdict b prices marked flows factors) ≡ true
  is-lent q = rw (← h, q) refl

  pub write-23 : a ≡ Ok tt → room < length_for b → refused 23 ≡ write_lengths b prices marked flows factors room
  write-23 q l = rw (lengths-by b prices marked flows factors room, is-lent q, lt-ltb room (length_for b) l) refl

  pub write-0 : a ≡ Ok tt → length_for b ≤ room → accepted ≡ write_lengths b prices marked flows factors room
  write-0 q l = rw (lengths-by b prices marked flows factors room, is-lent q, le-ltb room (length_for b) l) refl

-- ---- the call, by the answer of its tests
-- the head, then the regions, then the additional link
interval-puts : (linked : Bool) (R M : ℕ) (v : Interval) (buffer head others all : List ℕ)
    → head ≡ sets buffer 0 (encode head_widths (head_length ∷ 16 ∷ v.number ∷ v.kind ∷ R ∷ []))
    → others ≡ sets head head_length (joined R 0 (region_record M v))
    → all ≡ sets others (head_length + R * region_length M) (pick linked (link_record R v) [])
    → all ≡ sets buffer 0 (interval_bytes linked R M v)
unfolding interval_bytes head_record head_widths size_of
interval-puts linked R M v buffer head others all e f g =
    let vs = head_length ∷ 16 ∷ v.number ∷ v.kind ∷ R ∷ [] in
    let z : length (encode head_widths vs) ≡ 12 = length-encode head_widths vs refl in
    let rows = joined R 0 (region_record M v) in
    let y : length rows ≡ R * region_length M = joined_length (region_record M v) (region_length M) R 0 (region-length M v) in
    let last = pick linked (link_record R v) [] in
    part_then buffer head all (encode head_widths vs) (rows ++ last) 0 12 (omega (arith, z)) e
    (part_then head others all rows last 12 (12 + R * region_length M) (omega (arith, y)) f g)

module _ (b : Book) (v : Interval) (buffer : List ℕ) (a : Result Unit Refusal) (h : verdict a ≡ write_verdict b v (length buffer)) where
  pub written-refused : (r : Refusal) → a ≡ Err r
      → outcome (record { book = b; answer = Err r }) buffer ≡ write_interval b v buffer
  unfolding write_interval
  written-refused r q =
      let p : verdict {T = Unit} (Err r) ≡ write_verdict b v (length buffer) = ap verdict (sym q) ∙ h in
      let z : is_accepted (write_verdict b v (length buffer)) ≡ false = rw (← p) (refusal_is r) in
      rw (z, p) refl

  is-accepted : a ≡ Ok tt → is_accepted (write_verdict b v (length buffer)) ≡ true
  is-accepted q = rw (← h, q) refl

  pub write-asks : a ≡ Ok tt → Writes b v (length buffer)
  write-asks q = accepted-writes b v (length buffer) (is-accepted q)

  pub written-accepted : a ≡ Ok tt → let R = b.regions in let M = markets_of b.services in
      (n : ℕ) (head others all : List ℕ) → n ≡ length_for b
      → head ≡ sets buffer 0 (encode head_widths (head_length ∷ 16 ∷ v.number ∷ v.kind ∷ R ∷ []))
      → others ≡ sets head head_length (joined R 0 (region_record M v))
      → all ≡ sets others (head_length + R * region_length M) (pick (has_link b) (link_record R v) [])
      → outcome (record { book = b; answer = Ok n }) all ≡ write_interval b v buffer
  unfolding write_interval
  written-accepted q n head others all l e f g =
      let bytes = interval_bytes (has_link b) b.regions (markets_of b.services) v in
      let k : length bytes ≡ length_for b = bytes-length (has_link b) b.regions (markets_of b.services) v in
      let s : all ≡ bytes ++ drop (length_for b) buffer =
      interval-puts (has_link b) b.regions (markets_of b.services) v buffer head others all e f g
      ∙ sets-front buffer bytes (omega (arith, k, (write-asks q).long))
      ∙ ap (λ (i : ℕ). bytes ++ drop i buffer) k in
      rw (is-accepted q, l, s) refl
