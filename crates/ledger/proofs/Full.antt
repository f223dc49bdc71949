-- Refusal 12 over a list of calls: 10,000,000 entries are accepted, and one more is refused by 12. Too many to compute, so by a
-- law over any number of them. Assumes nothing.
use mathlib.Core.Path.{◌≡◌, refl, sym, ap, ap₂, ◌∙◌, subst}
use mathlib.Core.List.{List, [], ◌∷◌, ◌++◌}
use Prim.Native.Nat.{ℕ, zero, suc, ◌+◌, ◌≤◌, ◌<◌}
use native.Mathlib.Nat.{le_refl}
use native.Mathlib.Numerals.{add-one}
use native.Mathlib.Omega.{arith}
use borrow.Author.Tests.{le-leb, lt-leb, eq-eqb}
use lib.IntN.{pos, negsuc}
use Rattle.laws.specs.Lists.{run, all_below, first_below}
use Rattle.pricing.specs.Verdict.{refused}
use Rattle.book.specs.declared.record.Settings.{Settings}
use Rattle.book_calls.specs.Opening as Opening
use Rattle.book_calls.specs.Setting.{threshold_verdict}
use Rattle.publishing.specs.Entry.{Entry, entry_of}
use Rattle.entries.specs.Checking.{entry_verdict}
use Rattle.ledger.specs.Calls.{Call, entry, Answer, entered, Step, answers, after}
use Rattle.ledger.specs.Ledger as Ledger
use Rattle.ledger.specs.Ledger.{Ledger, Item, interval, entries_of, taken, kept}
use Rattle.ledger.specs.Book as Book
use Rattle.ledger.specs.Demand.{opens, held, settings_of}
use Rattle.ledger.proofs.Histories.{taken-entry}
use Rattle.ledger.proofs.Corollaries.{from-opening}

-- R 1, S 0, W 1, H 1, no parents
abbrev pub settings : Settings
settings = settings_of 1 0 1 1 0 (λ r. 255) 255 255 (pos 90000) (pos 60000) (negsuc 59999)

-- an entry whose region is marked, lent a table that holds something
abbrev marked : Entry
marked = entry_of 0 (pos 0 ∷ []) (1 ∷ []) (pos 0 ∷ []) (0 ∷ []) (pos 0 ∷ pos 0 ∷ [])

abbrev pub call : ℕ → Call
call number = entry (pos 0 ∷ []) number marked (pos 9 ∷ [])

abbrev holding : List Item → Ledger
holding h = record { settings = settings; items = h }

module _ (h : List Item) where
  -- with room for it the next entry is taken
  next-taken : taken (holding h) < 10000000 → (Ledger.play (holding h) (call (taken (holding h)))).state ≡ kept (holding h) (interval marked)
  unfolding Ledger.play entry_verdict first_below run
  next-taken l = rw (lt-leb 10000000 (taken (holding h)) l, eq-eqb (taken (holding h)) (taken (holding h)) refl)

  full-refused : (n : ℕ) → 10000000 ≤ taken (holding h) → (Ledger.play (holding h) (call n)).answer ≡ entered (refused 12) 0 (pos 9 ∷ [])
  unfolding Ledger.play entry_verdict
  full-refused n l = rw (le-leb 10000000 (taken (holding h)) l)

-- what a ledger has become: still of these settings, with so many entries
record Took (n : ℕ) (p : Ledger) : Type 0 where
  items : List Item
  is : p ≡ holding items
  many : taken (holding items) ≡ n

-- n entries, numbered from those that were taken
taking : (n : ℕ) (h : List Item) → taken (holding h) + n ≤ 10000000 → Took (taken (holding h) + n) (after Ledger.play (holding h) (run n (taken (holding h)) call))
unfolding run after
taking zero h l = record { items = h; is = refl; many = omega arith }
taking (suc n) h l =
    let e : (Ledger.play (holding h) (call (taken (holding h)))).state ≡ kept (holding h) (interval marked) = next-taken h (omega arith) in
    let k : taken (kept (holding h) (interval marked)) ≡ suc (taken (holding h)) = taken-entry (holding h) marked ∙ add-one (taken (holding h)) in
    let r = taking n (h ++ interval marked ∷ []) (omega (arith, k)) in
    record { items = r.items; is = ap₂ (λ (p : Ledger) (first : ℕ). after Ledger.play p (run n first call)) e (sym k) ∙ r.is; many = r.many ∙ omega (arith, k) }

-- 10,000,000 entries are accepted, and the next is refused by 12, whatever its number
all-taken : Took 10000000 (after Ledger.play (Ledger.begin settings) (run 10000000 0 call))
unfolding entries_of
all-taken = taking 10000000 [] (le_refl 10000000)

full-p : (n : ℕ) → (Ledger.play (after Ledger.play (Ledger.begin settings) (run 10000000 0 call)) (call n)).answer ≡ entered (refused 12) 0 (pos 9 ∷ [])
full-p n =
    subst (λ (p : Ledger). (Ledger.play p (call n)).answer ≡ entered (refused 12) 0 (pos 9 ∷ [])) (sym all-taken.is)
    (full-refused all-taken.items n (omega (arith, all-taken.many)))

pub full-taken : taken (after Ledger.play (Ledger.begin settings) (run 10000000 0 call)) ≡ 10000000
full-taken = ap taken all-taken.is ∙ all-taken.many

answers-append : {S : Type 0} (play : S → Call → Step S) (L M : List Call) (s : S) → answers play s (L ++ M) ≡ answers play s L ++ answers play (after play s L) M
unfolding answers after
answers-append play [] M s = refl
answers-append play (c ∷ L) M s = ap (λ (l : List Answer). (play s c).answer ∷ l) (answers-append play L M (play s c).state)

opening-accepted : (Opening.opened settings (pos 77 ∷ [])).verdict.number ≡ 0
unfolding Opening.opened Opening.open_verdict threshold_verdict run all_below
opening-accepted = refl

one_answer : (p : Ledger) (c : Call) → answers Ledger.play p (c ∷ []) ≡ (Ledger.play p c).answer ∷ []
unfolding answers
one_answer p c = refl

-- so it is with the book
pub full : (n : ℕ) → answers Book.play (held (opens settings (pos 77 ∷ []))) (run 10000000 0 call ++ call n ∷ [])
    ≡ answers Ledger.play (Ledger.begin settings) (run 10000000 0 call) ++ entered (refused 12) 0 (pos 9 ∷ []) ∷ []
full n =
    let L = run 10000000 0 call in
    (from-opening 1 0 1 1 0 (λ r. 255) 255 255 (pos 90000) (pos 60000) (negsuc 59999) (pos 77 ∷ []) (L ++ call n ∷ []) opening-accepted).during
    ∙ answers-append Ledger.play L (call n ∷ []) (Ledger.begin settings)
    ∙ ap (λ (l : List Answer). answers Ledger.play (Ledger.begin settings) L ++ l)
    (one_answer (after Ledger.play (Ledger.begin settings) L) (call n) ∙ ap (λ (a : Answer). a ∷ []) (full-p n))
