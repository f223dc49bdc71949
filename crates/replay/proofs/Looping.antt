-- The loop over the calls: what is had at its head, what a call that is played makes of it, and what is had in the end. Assumes nothing.
use mathlib.Core.Path.{◌≡◌, refl, sym, ap, ◌∙◌}
use mathlib.Core.Bool.{Bool, true, false}
use mathlib.Core.List.{List, [], ◌++◌, append-nil}
use Prim.Native.Nat.{ℕ, zero, suc, ◌+◌, ◌-◌, ◌≤◌}
use native.Mathlib.Omega.{arith}
use borrow.Author.Tests.{eqb-true}
use lib.Dec.{eqb}
use lib.IntN.{ℤ}
use lib.ListN.{length}
use Rattle.laws.specs.Base.{pick}
use Rattle.book.specs.declared.record.Book.{Book}
use Rattle.records.specs.declared.reading.Room.{Room}
use Rattle.std.specs.Prelude.{Option, Some, None}
use Rattle.records.specs.declared.reading.Sizes.{Sizes}
use Rattle.records.specs.Reading.{kind_at, call_size, answer_size, goes}
use Rattle.records.specs.Working.{next_call}
use Rattle.records.proofs.Readings.{next-some, next-none}
use Rattle.playing.specs.Playing.{State, state_of, room_of, playable, step, swaps}
use Rattle.replay.specs.Replay.{runs, turn, turns, Outcome, left, finished, outcome}
use Rattle.playing.proofs.Goes.{goes-whole, goes-room, entry_whole}

-- ---- runs and turns, by one call and in the end
module _ (c : List ℕ) (s : State) where
  pub runs-next : (n : ℕ) → playable c s ≡ true → runs (suc n) c s ≡ runs n c (step c s)
  unfolding runs
  runs-next n t = rw t

  turns_next : (n : ℕ) (x : Bool) → playable c s ≡ true → turns (suc n) c s x ≡ turns n c (step c s) (turn x (swaps c s))
  unfolding turns
  turns_next n x t = rw t

  pub runs-stop : (n : ℕ) → playable c s ≡ false → runs n c s ≡ s
  unfolding runs
  runs-stop zero t = refl
  runs-stop (suc n) t = rw t

  turns-stop : (n : ℕ) (x : Bool) → playable c s ≡ false → turns n c s x ≡ x
  unfolding turns
  turns-stop zero x t = refl
  turns-stop (suc n) x t = rw t

-- ---- a call that is played: it stands whole, and its answer has room
pub record Fit (c : List ℕ) (at out n : ℕ) : Type 0 where
  pub head : 6 ≤ length c - at
  pub forty : eqb (kind_at c at) 65 ≡ true → at + 40 ≤ length c
  pub some : 1 ≤ call_size c at
  pub inside : at + call_size c at ≤ length c
  pub room : out + answer_size c at ≤ n

fit : (m : Room) (c : List ℕ) (at out n : ℕ) → at ≤ length c → out ≤ n → goes m c at (n - out) ≡ true → Fit c at out n
fit m c at out n a o t =
    let w = goes-whole m c at (n - out) t in record {
      head = w.head;
      forty = λ k. omega (arith, (entry_whole c at w (eqb-true _ _ k)).0);
      some = omega (arith, w.some);
      inside = omega (arith, w.inside, w.size, w.head);
      room = omega (arith, goes-room m c at (n - out) t);
    }

-- the code's test is the definition's
pub room_by : (t : Bool) (a b : List ℤ) (p : ℕ) → p ≡ pick t (length a) (length b) → p ≡ length (pick t a b)
room_by true a b p e = e
room_by false a b p e = e

module _ (c : List ℕ) (s : State) (p : ℕ) (r : Option Sizes) (e : p ≡ length s.ring)
    (g : r ≡ next_call (record { ring = p; numbers = length s.numbers; factors = length s.factors; table = length s.table }) c s.at (length s.answers - s.out)) where
  next-is : r ≡ next_call (room_of s) c s.at (length s.answers - s.out)
  next-is =
      g ∙ ap (λ (i : ℕ). next_call (record { ring = i; numbers = length s.numbers; factors = length s.factors; table = length s.table }) c s.at (length s.answers - s.out)) e

  pub plays : (k : Sizes) → r ≡ Some k → (playable c s ≡ true) × (k.call ≡ call_size c s.at) × (k.answer ≡ answer_size c s.at)
  plays k h = next-some c s.at (room_of s) (length s.answers - s.out) k (sym next-is ∙ h)

  pub stops : r ≡ None → playable c s ≡ false
  stops h = next-none c s.at (room_of s) (length s.answers - s.out) (sym next-is ∙ h)

-- ---- what is had at the loop's head: so many calls from here come to all calls from the start
pub record Held (c : List ℕ) (s₀ : State) (t : Bool) (s : State) : Type 0 where
  pub fuel : ℕ
  pub enough : length c ≤ s.at + fuel
  pub at : s.at ≤ length c
  pub out : s.out ≤ length s.answers
  pub all : runs fuel c s ≡ runs (length c) c s₀
  pub sides : turns fuel c s t ≡ turns (length c) c s₀ false

pub start : (c : List ℕ) (s : State) → s.at ≤ length c → s.out ≤ length s.answers → Held c s false s
start c s a o = record { fuel = length c; enough = omega arith; at = a; out = o; all = refl; sides = refl }

pub fits_in : {c : List ℕ} {s₀ s : State} {t : Bool} → Held c s₀ t s → playable c s ≡ true → Fit c s.at s.out (length s.answers)
fits_in {c} {s₀} {s} {t} h p = fit (room_of s) c s.at s.out (length s.answers) h.at h.out p

step-held : (c : List ℕ) (s₀ s s' : State) (t : Bool) (n : ℕ) → playable c s ≡ true → s' ≡ step c s
    → length c ≤ s.at + n → runs n c s ≡ runs (length c) c s₀ → turns n c s t ≡ turns (length c) c s₀ false
    → Fit c s.at s.out (length s.answers) → s'.at ≡ s.at + call_size c s.at → s'.out ≡ s.out + answer_size c s.at
    → length s'.answers ≡ length s.answers → Held c s₀ (turn t (swaps c s)) s'
step-held c s₀ s s' t zero p e l r d f a o k = absurd (omega (arith, f.some, f.inside))
step-held c s₀ s s' t (suc n) p e l r d f a o k = record {
  fuel = n;
  enough = omega (arith, f.some);
  at = omega (arith, f.inside);
  out = omega (arith, f.room);
  all = ap (runs n c) e ∙ sym (runs-next c s n p) ∙ r;
  sides = ap (λ (x : State). turns n c x (turn t (swaps c s))) e ∙ sym (turns_next c s n t p) ∙ d;
}

module _ {c : List ℕ} {s₀ s : State} {t : Bool} (h : Held c s₀ t s) where
  moved : (x : Bool) (s' : State) → x ≡ swaps c s → Held c s₀ (turn t (swaps c s)) s' → Held c s₀ (turn t x) s'
  moved x s' e k = rw e k

  pub again : (x : Bool) (b : Book) (ring other : List ℤ) (image : List ℕ) (numbers : List ℤ) (factors : List ℕ) (table : List ℤ) (answers : List ℕ) (size answer : ℕ)
      → playable c s ≡ true → size ≡ call_size c s.at → answer ≡ answer_size c s.at → x ≡ swaps c s
      → state_of (turn t x) b ring other image numbers factors table (s.at + call_size c s.at) (s.out + answer_size c s.at) answers ≡ step c s
      → length answers ≡ length s.answers
      → Held c s₀ (turn t x) (state_of (turn t x) b ring other image numbers factors table (s.at + size) (s.out + answer) answers)
  again x b ring other image numbers factors table answers size answer p e f g d k =
      let s' = state_of (turn t x) b ring other image numbers factors table (s.at + size) (s.out + answer) answers in
      let q : s' ≡ step c s = (λ i. state_of (turn t x) b ring other image numbers factors table (s.at + e i) (s.out + f i) answers) ∙ d in
      moved x s' g
      (step-held c s₀ s s' t h.fuel p q h.enough h.all h.sides (fits_in h p) (ap (λ (i : ℕ). s.at + i) e) (ap (λ (i : ℕ). s.out + i) f) k)

  pub done : (ring other : List ℤ) → playable c s ≡ false → left s t ring other ≡ finished c s₀ ring other
  done ring other p =
      let x : s ≡ runs (length c) c s₀ = sym (runs-stop c s h.fuel p) ∙ h.all in
      let y : t ≡ turns (length c) c s₀ false = sym (turns-stop c s h.fuel t p) ∙ h.sides in
      λ i. left (x i) (y i) ring other

-- ---- a state and what is left of it
pub leaves : (t : Bool) (b : Book) (ring other : List ℤ) (image : List ℕ) (numbers : List ℤ) (factors : List ℕ) (table : List ℤ) (at out : ℕ) (answers : List ℕ)
    → outcome out answers ring other image numbers factors table ≡ left (state_of t b ring other image numbers factors table at out answers) t [] []
leaves true b ring other image numbers factors table at out answers = λ i. outcome out answers (sym (append-nil ring) i) (sym (append-nil other) i) image numbers factors table
leaves false b ring other image numbers factors table at out answers = λ i. outcome out answers (sym (append-nil ring) i) (sym (append-nil other) i) image numbers factors table

-- what was left out of the rings, behind them
pub behind : (s : State) (t : Bool) (written : ℕ) (answers : List ℕ) (ring other : List ℤ) (image : List ℕ) (numbers : List ℤ) (factors : List ℕ) (table : List ℤ) (k l : List ℤ)
    → outcome written answers ring other image numbers factors table ≡ left s t [] []
    → outcome written answers (ring ++ k) (other ++ l) image numbers factors table ≡ left s t k l
behind s t written answers ring other image numbers factors table k l e =
    let r : ring ≡ pick t s.other s.ring = ap (λ (o : Outcome). o.lent.ring) e ∙ append-nil _ in
    let o : other ≡ pick t s.ring s.other = ap (λ (o : Outcome). o.lent.other) e ∙ append-nil _ in
    λ i. record {
      written = (e i).written;
      lent = record {
        answers = (e i).lent.answers;
        ring = r i ++ k;
        other = o i ++ l;
        image = (e i).lent.image;
        numbers = (e i).lent.numbers;
        factors = (e i).lent.factors;
        table = (e i).lent.table;
      };
    }
