-- The parts of an entry's record: what is read of them is the record's entry, and what the entry leaves. Assumes nothing.
use mathlib.Core.Path.{◌≡◌, refl, sym, ap, ◌∙◌, subst}
use mathlib.Core.List.{List, ◌++◌, append_assoc}
use Prim.Native.Nat.{ℕ, ◌+◌, ◌-◌, ◌*◌, ◌≤◌}
use native.Mathlib.Omega.{arith}
use lib.IntN.{ℤ}
use lib.ListN.{length, take, drop, length-append, take-append-drop}
use lib.Seq.{sets, length-sets, length-take-le, take_at, drop_at, drop-drop}
use Rattle.laws.specs.Bytes.{number_at, price_at}
use Rattle.laws.proofs.Lists.{length_run}
use Rattle.laws.proofs.Bytes.{take-sets, drop-sets}
use Rattle.book.specs.declared.record.Book.{Book}
use Rattle.publishing.specs.Entry.{Entry, entry_of}
use Rattle.book.specs.declared.record.Reply.{Reply}
use Rattle.entries.specs.Entering.{Outcome, outcome, entered}
use Rattle.records.specs.declared.reading.Lengths.{Lengths}
use Rattle.records.specs.Reading.{lengths_at, entry_size, bytes_at, prices_from, marks_from, flows_from, factors_from, schedule_from, table_from, prices_at, marks_at, flows_at, factors_at, schedule_at, table_at, signed_at, entry_at, entry_number}
use Rattle.playing.specs.Playing.{entered_at, entered_record}

-- ---- three lists that stand first in a list, one after the other
module _ {A : Type 0} (p f s l : List A) (a b d : ℕ) (x : length p ≡ a) (y : length f ≡ b) (z : length s ≡ d) (e : take (a + b + d) l ≡ p ++ (f ++ s)) where
  whole : l ≡ p ++ (f ++ (s ++ drop (a + b + d) l))
  whole =
      sym (take-append-drop (a + b + d) l)
      ∙ ap (λ (t : List A). t ++ drop (a + b + d) l) e
      ∙ append_assoc p (f ++ s) (drop (a + b + d) l)
      ∙ ap (λ (t : List A). p ++ t) (append_assoc f s (drop (a + b + d) l))

  past_first : drop a l ≡ f ++ (s ++ drop (a + b + d) l)
  past_first = ap (drop a) whole ∙ drop_at p (f ++ (s ++ drop (a + b + d) l)) a x

  past-second : drop (a + b) l ≡ s ++ drop (a + b + d) l
  past-second = sym (drop-drop b a l) ∙ ap (drop b) past_first ∙ drop_at f (s ++ drop (a + b + d) l) b y

  pub first_part : take a l ≡ p
  first_part = ap (take a) whole ∙ take_at p (f ++ (s ++ drop (a + b + d) l)) a x

  pub second-part : take (a + b - a) (drop a l) ≡ f
  second-part = let k : a + b - a ≡ b = omega arith in rw k (ap (take b) past_first ∙ take_at f (s ++ drop (a + b + d) l) b y)

  pub third-part : take (a + b + d - (a + b)) (drop (a + b) l) ≡ s
  third-part = let k : a + b + d - (a + b) ≡ d = omega arith in rw k (ap (take d) past-second ∙ take_at s (drop (a + b + d) l) d z)

pub front_long : {A : Type 0} (a b d : ℕ) (l : List A) → a + b + d ≤ length l → a ≡ length (take a l)
front_long a b d l h = sym (length-take-le a l (omega arith))

module _ (c : List ℕ) (at : ℕ) (l : Lengths) (e : l ≡ lengths_at c at) where
  -- ---- how long the parts are
  prices-long : length (prices_at c at) ≡ l.prices
  prices-long = length_run (price_at c (at + prices_from)) (lengths_at c at).prices 0 ∙ sym (ap (λ (k : Lengths). k.prices) e)

  flows_long : length (flows_at c at) ≡ l.flows
  flows_long = length_run (price_at c (at + flows_from (lengths_at c at))) (lengths_at c at).flows 0 ∙ sym (ap (λ (k : Lengths). k.flows) e)

  schedule-long : length (schedule_at c at) ≡ l.schedule
  schedule-long = length_run (price_at c (at + schedule_from (lengths_at c at))) (lengths_at c at).schedule 0 ∙ sym (ap (λ (k : Lengths). k.schedule) e)

  factors-long : length (factors_at c at) ≡ l.factors
  factors-long = length_run (λ i. number_at c (at + factors_from (lengths_at c at) + 4 * i) 4) (lengths_at c at).factors 0 ∙ sym (ap (λ (k : Lengths). k.factors) e)

  table-long : length (table_at c at) ≡ l.table
  table-long = length_run (price_at c (at + table_from (lengths_at c at))) (lengths_at c at).table 0 ∙ sym (ap (λ (k : Lengths). k.table) e)

  signed-long : length (signed_at c at) ≡ l.prices + l.flows + l.schedule
  signed-long =
      omega (arith, length-append (prices_at c at) (flows_at c at ++ schedule_at c at), length-append (flows_at c at) (schedule_at c at), prices-long, flows_long, schedule-long)

  -- ---- what the reading of a record's contents asks
  pub read-asks : (n x t : ℕ) → at + entry_size (lengths_at c at) ≤ length c → (lengths_at c at).prices + (lengths_at c at).flows + (lengths_at c at).schedule ≤ n
      → (lengths_at c at).factors ≤ x → (lengths_at c at).table ≤ t
      → ((l ≡ lengths_at c at) × (at + entry_size l ≤ length c)) × ((l.prices + l.flows + l.schedule ≤ n) × (l.factors ≤ x) × (l.table ≤ t))
  read-asks n x t r h f k =
      subst (λ (m : Lengths). ((m ≡ lengths_at c at) × (at + entry_size m ≤ length c)) × ((m.prices + m.flows + m.schedule ≤ n) × (m.factors ≤ x) × (m.table ≤ t)))
      (sym e) ((refl, r), (h, f, k))

  -- ---- what the lists hold once the record's contents are read into them
  pub table-room : (t m : List ℤ) → (lengths_at c at).table ≤ length t → m ≡ sets t 0 (table_at c at) → l.table ≤ length m
  table-room t m h q = rw (q, length-sets) (subst (λ (k : Lengths). k.table ≤ length t) (sym e) h)

  pub table-front : (t m : List ℤ) → (lengths_at c at).table ≤ length t → m ≡ sets t 0 (table_at c at) → l.table ≡ length (take l.table m)
  table-front t m h q = sym (length-take-le l.table m (table-room t m h q))

  table-first : (t m : List ℤ) → l.table ≤ length t → m ≡ sets t 0 (table_at c at) → take l.table m ≡ table_at c at
  table-first t m h q = ap (take l.table) q ∙ take-sets t (table_at c at) 0 l.table table-long (omega arith)

  signed-first : (n m : List ℤ) → l.prices + l.flows + l.schedule ≤ length n → m ≡ sets n 0 (signed_at c at) → take (l.prices + l.flows + l.schedule) m ≡ signed_at c at
  signed-first n m h q =
      ap (take (l.prices + l.flows + l.schedule)) q ∙ take-sets n (signed_at c at) 0 (l.prices + l.flows + l.schedule) signed-long (omega arith)

  factors-first : (x m : List ℕ) → l.factors ≤ length x → m ≡ sets x 0 (factors_at c at) → take l.factors m ≡ factors_at c at
  factors-first x m h q = ap (take l.factors) q ∙ take-sets x (factors_at c at) 0 l.factors factors-long (omega arith)

  -- what the entry then asks
  pub enter-asks : (n n' : List ℤ) (x x' : List ℕ) (t t' : List ℤ) (ring : ℕ)
      → n' ≡ sets n 0 (signed_at c at) → x' ≡ sets x 0 (factors_at c at) → t' ≡ sets t 0 (table_at c at)
      → ((l ≡ lengths_at c at) × (at + entry_size l ≤ length c)) × ((l.prices + l.flows + l.schedule ≤ length n) × (l.factors ≤ length x) × (l.table ≤ length t))
      → (lengths_at c at).ring ≤ ring
      → ((l ≡ lengths_at c at) × (at + entry_size l ≤ length c) × (l.ring ≤ ring))
      × (((l.prices + l.flows + l.schedule ≤ length n') × (l.factors ≤ length x'))
      × ((take (l.prices + l.flows + l.schedule) n' ≡ signed_at c at)
      × ((take l.factors x' ≡ factors_at c at) × (take l.table t' ≡ table_at c at))))
  enter-asks n n' x x' t t' ring p q u a h =
      let i : length n' ≡ length n = ap length p ∙ length-sets n 0 (signed_at c at) in
      let j : length x' ≡ length x = ap length q ∙ length-sets x 0 (factors_at c at) in
      let g : l.ring ≤ ring = subst (λ (k : Lengths). k.ring ≤ ring) (sym e) h in
      let v = a.1.0 in
      let w = a.1.1 in (
        (e, a.0.1, g),
        ((omega (arith, v), omega (arith, w)), (signed-first n n' v p, (factors-first x x' w q, table-first t t' a.1.2 u))),
      )

  -- the answer has its room
  pub put-asks : (out room : ℕ) (m m' : List ℤ) → length m' ≡ length (take l.table m) → l.table ≡ length (take l.table m)
      → out + (18 + 4 * (lengths_at c at).table) ≤ room → out + (18 + 4 * length m') ≤ room
  put-asks out room m m' k f h = rw (k ∙ sym f, e) h

  -- ---- the entry that is made of the parts
  abbrev parts : ℕ → List ℤ → List ℕ → Entry
  parts kind numbers factors =
      entry_of kind (take l.prices numbers) (take (at + marks_from l + l.marks - (at + marks_from l)) (drop (at + marks_from l) c))
      (take (l.prices + l.flows - l.prices) (drop l.prices numbers)) (take l.factors factors)
      (take (l.prices + l.flows + l.schedule - (l.prices + l.flows)) (drop (l.prices + l.flows) numbers))

  marks-read : take (at + marks_from l + l.marks - (at + marks_from l)) (drop (at + marks_from l) c) ≡ marks_at c at
  marks-read =
      let k : at + marks_from l + l.marks - (at + marks_from l) ≡ l.marks = omega arith in
      rw k (ap (λ (k : Lengths). bytes_at c (at + marks_from k) k.marks) e)

  module _ (numbers : List ℤ) (factors : List ℕ) (n : take (l.prices + l.flows + l.schedule) numbers ≡ signed_at c at) (x : take l.factors factors ≡ factors_at c at) where
    parts-entry : (kind : ℕ) → kind ≡ number_at c (at + 10) 1 → parts kind numbers factors ≡ entry_at c at
    parts-entry kind k =
        let p = first_part (prices_at c at) (flows_at c at) (schedule_at c at) numbers l.prices l.flows l.schedule prices-long flows_long schedule-long n in
        let f = second-part (prices_at c at) (flows_at c at) (schedule_at c at) numbers l.prices l.flows l.schedule prices-long flows_long schedule-long n in
        let s = third-part (prices_at c at) (flows_at c at) (schedule_at c at) numbers l.prices l.flows l.schedule prices-long flows_long schedule-long n in
        λ i. entry_of (k i) (p i) (marks-read i) (f i) (x i) (s i)

    -- the outcome on the parts is the outcome of the record
    module _ (b : Book) (ring : List ℤ) (kind number : ℕ) (k : kind ≡ number_at c (at + 10) 1) (m : number ≡ entry_number c at) (table : List ℤ) (t : table ≡ table_at c at)
        (r : Reply ℕ) (ring' table' : List ℤ) (o : outcome r ring' table' ≡ entered b (take l.ring ring) number (parts kind numbers factors) table) where
      parts-entered : outcome r ring' table' ≡ entered_at c at b ring
      parts-entered = o ∙ (λ i. entered b (take (e i).ring ring) (m i) (parts-entry kind k i) (t i))

      pub parts-left : (outcome r (entered_at c at b ring).ring table' ≡ entered_at c at b ring) × (ring' ++ drop l.ring ring ≡ (entered_at c at b ring).ring ++ drop l.ring ring)
      parts-left = (
        sym (ap (λ (q : Outcome). outcome r q.ring table') parts-entered) ∙ parts-entered,
        ap (λ (q : Outcome). q.ring ++ drop l.ring ring) parts-entered,
      )

  -- ---- what the entry leaves
  module _ (b : Book) (ring : List ℤ) where
    pub ring-left : (ring' : List ℤ) → ring' ≡ (entered_at c at b ring).ring ++ drop l.ring ring → ring' ≡ (entered_at c at b ring).ring ++ drop (lengths_at c at).ring ring
    ring-left ring' q = q ∙ ap (λ (k : Lengths). (entered_at c at b ring).ring ++ drop k.ring ring) e

    module _ (r : Reply ℕ) (table : List ℤ) (o : outcome r (entered_at c at b ring).ring table ≡ entered_at c at b ring) where
      pub book-left : r.book ≡ (entered_at c at b ring).book
      book-left = ap (λ (q : Outcome). q.book) o

      pub table-left : (t m : List ℤ) → m ≡ sets t 0 (table_at c at) → table ++ drop l.table m ≡ (entered_at c at b ring).table ++ drop (lengths_at c at).table t
      table-left t m q =
          ap (λ (u : Outcome). u.table ++ drop l.table m) o
          ∙ ap (λ (u : List ℤ). (entered_at c at b ring).table ++ u)
          (ap (drop l.table) q ∙ drop-sets t (table_at c at) 0 l.table (omega (arith, table-long)) ∙ ap (λ (k : Lengths). drop k.table t) e)

      pub answer-left : (a a' : List ℕ) (out : ℕ) → a' ≡ sets a out (entered_record (outcome r (entered_at c at b ring).ring table)) → a' ≡ sets a out (entered_record (entered_at c at b ring))
      answer-left a a' out q = q ∙ ap (λ (u : Outcome). sets a out (entered_record u)) o
