-- What an interval that is read and entered comes to, by the way the code takes. Assumes nothing.
use mathlib.Core.Path.{◌≡◌, refl, sym, ap, ◌∙◌}
use mathlib.Core.Bool.{false}
use mathlib.Core.List.{List, ◌∷◌}
use Prim.Native.Nat.{ℕ, zero, suc, ◌*◌, ◌≤◌, ◌<◌}
use native.Mathlib.Nat.{mul-le-mul_right, suc-mul}
use native.Mathlib.Omega.{arith}
use lib.IntN.{ℤ, pos}
use lib.ListN.{length, get_or, take, replicate, length-replicate}
use Rattle.book.specs.declared.record.Book.{Book}
use Rattle.book.specs.declared.record.Refusal.{Refusal}
use Rattle.book.specs.Record.{markets_of, table_size, link_count, verdict, is_accepted}
use Rattle.book.proofs.Ways.{refusal_is}
use Rattle.publishing.specs.Entry.{Entry, entry_of}
use Rattle.book.specs.declared.record.Reply.{Reply}
use Rattle.std.specs.Prelude.{Ok, Err}
use Rattle.entries.specs.Entering as Entering
use Rattle.entries.proofs.Unmoved.{unmoved}
use Rattle.interval_records.specs.Layout.{Interval, interval_of}
use Rattle.intervals.specs.declared.reading.Found.{Found}
use Rattle.intervals.specs.Reading as Reading
use Rattle.interval_entry.specs.Taking.{Outcome, entered_from, outcome_of, taken_into, taken, outcome}

module _ (lent : Interval) (table : List ℤ) (b : Book) (ring : List ℤ) (records : List ℕ) (at : ℕ) (schedule : List ℤ) (region : ℕ) where
  abbrev all : Outcome
  all = taken_into lent table b ring records at schedule region

  -- the reader's outcome, with what its slices hold then
  module _ (t : Reply Found) (prices : List ℤ) (marked : List ℕ) (flows : List ℤ) (factors : List ℕ)
      (h : Reading.outcome t prices marked flows factors ≡ Reading.read_interval b records at lent) where
    abbrev after : Reading.Outcome → Outcome
    after r = outcome_of b ring region r (entered_from b ring schedule table r.interval)

    whole : after (Reading.outcome t prices marked flows factors) ≡ all
    unfolding taken_into
    whole = ap after h

    -- refused by the reader
    pub taken-unread : (r : Refusal) → t.answer ≡ Err r → outcome (record { book = b; answer = Err r }) ring ≡ all
    taken-unread r f = go (refusal_is r) ∙ whole
      where
        go : is_accepted (verdict {T = Found} (Err r)) ≡ false
            → outcome (record { book = b; answer = Err r }) ring ≡ after (Reading.outcome t prices marked flows factors)
        go z = rw (f, z) refl

    -- read: the entry's outcome, with what ring and table hold then
    module _ (found : Found) (f : t.answer ≡ Ok found) (e : Reply ℕ) (ring' table' : List ℤ)
        (g : Entering.outcome e ring' table' ≡ Entering.entered b ring found.number (entry_of found.kind prices marked flows factors schedule) table) where
      abbrev entry : Entry
      entry = entry_of found.kind prices marked flows factors schedule

      abbrev read : Reading.Outcome
      read = record { verdict = verdict (Ok found); next = found.next; book = t.book; interval = interval_of found.number found.kind prices marked flows factors }

      is_read : Reading.outcome t prices marked flows factors ≡ read
      is_read = rw f refl

      entered-whole : outcome_of b ring region read (Entering.outcome e ring' table') ≡ all
      entered-whole = ap (outcome_of b ring region read) g ∙ ap after (sym is_read) ∙ whole

      -- refused by the entry
      pub taken-unentered : (r : Refusal) → e.answer ≡ Err r → outcome (record { book = e.book; answer = Err r }) ring' ≡ all
      taken-unentered r p =
          let z : is_accepted (verdict {T = ℕ} (Err r)) ≡ false = refusal_is r in
          let v : is_accepted (Entering.outcome e ring' table').verdict ≡ false = rw p z in
          let u = unmoved b ring found.number entry table (ap (λ (o : Entering.Outcome). is_accepted o.verdict) (sym g) ∙ v) in
          let k : e.book ≡ b = ap (λ (o : Entering.Outcome). o.book) g ∙ u.0 in
          let l : ring' ≡ ring = ap (λ (o : Entering.Outcome). o.ring) g ∙ u.1 in
          let s : outcome (record { book = b; answer = Err r }) ring ≡ outcome_of b ring region read (Entering.outcome e ring' table') = rw (p, z) refl in
          (λ i. outcome (record { book = k i; answer = Err r }) (l i)) ∙ s ∙ entered-whole

      -- entered
      pub taken-gone : (n : ℕ) (price : ℤ) → e.answer ≡ Ok n → price ≡ get_or table' (region * markets_of b.services) (pos 0)
          → outcome (record { book = e.book; answer = Ok (record { next = found.next; number = found.number; price = price }) }) ring' ≡ all
      taken-gone n price p q =
          let s : outcome (record { book = e.book; answer = Ok (record { next = found.next; number = found.number; price = price }) }) ring' ≡ outcome_of b ring region read (Entering.outcome e ring' table') = rw (p, q) refl in
          s ∙ entered-whole

-- ---- the room of its own: a part of blank numbers is blank
pub front : {A : Type 0} (a : A) (n m : ℕ) → n ≤ m → take n (replicate m a) ≡ replicate n a
front a zero m h = refl
front a (suc n) zero h = absurd (omega arith)
front a (suc n) (suc m) h = ap (λ (l : List _). a ∷ l) (front a n m (omega arith))

pub front_long : {A : Type 0} (a : A) (n m : ℕ) → n ≤ m → n ≡ length (take n (replicate m a))
front_long a n m h = sym (length-replicate n a) ∙ ap length (sym (front a n m h))

-- the place of a region's energy is one of R × M
pub energy-in : (r R M : ℕ) → r < R → 1 ≤ M → r * M < R * M
energy-in r R M h m = omega (arith, mul-le-mul_right M h, suc-mul r M)

-- what is lent for an interval is blank
pub blank-is : (b : Book) (ring : List ℤ) (records : List ℕ) (at : ℕ) (schedule : List ℤ) (region : ℕ) (o : Outcome) (links : ℕ) → links ≡ link_count b → links ≤ 9 → b.regions ≤ 8
    → table_size b.regions b.services ≤ 88
    → (let n = table_size b.regions b.services in
    let lent = interval_of 0 0 (take n (replicate 88 (pos 0))) (take b.regions (replicate 8 0)) (take links (replicate 9 (pos 0))) (take links (replicate 9 0)) in
    o ≡ taken_into lent (take n (replicate 88 (pos 0))) b ring records at schedule region)
    → o ≡ taken b ring records at schedule region
blank-is b ring records at schedule region o links q j h k e =
    let R = b.regions in
    let n = table_size b.regions b.services in
    let p = front (pos 0) n 88 k in
    let m = front {A = ℕ} 0 R 8 h in
    let f = front (pos 0) links 9 j ∙ ap (λ (i : ℕ). replicate i (pos 0)) q in
    let x = front {A = ℕ} 0 links 9 j ∙ ap (λ (i : ℕ). replicate {A = ℕ} i 0) q in
    e ∙ (λ i. taken_into (interval_of 0 0 (p i) (m i) (f i) (x i)) (p i) b ring records at schedule region)
