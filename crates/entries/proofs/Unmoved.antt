-- What an entry's outcome says of its verdict: a refused entry leaves book, ring and table, and an accepted one is what steps 1
-- to 6 leave. Assumes nothing.
use mathlib.Core.Path.{◌≡◌, refl, sym}
use mathlib.Core.Bool.{true, false}
use mathlib.Core.List.{List}
use Prim.Native.Nat.{ℕ}
use lib.IntN.{ℤ}
use lib.ListN.{length}
use Rattle.laws.proofs.Tests.{by-test, never}
use Rattle.pricing.specs.Verdict.{Verdict}
use Rattle.book.specs.declared.record.Book.{Book}
use Rattle.book.specs.Record.{is_accepted}
use Rattle.publishing.specs.Entry.{Entry}
use Rattle.entries.specs.Entering.{enter_verdict, entered}
use Rattle.entries.specs.Working.{Accepts, acceptance}
use Rattle.entries.proofs.Accepted.{accepted-entry, accepted-is}

module _ (b : Book) (ring : List ℤ) (n : ℕ) (e : Entry) (table : List ℤ) where
  abbrev said : Verdict
  said = enter_verdict b (length ring) n e (length table)

  -- the outcome's verdict is that of the tests
  pub verdict-is : (entered b ring n e table).verdict ≡ enter_verdict b (length ring) n e (length table)
  unfolding entered
  verdict-is = by-test (is_accepted said) (λ h. rw h (sym (accepted-is b (length ring) n e (length table) h))) (λ h. rw h)

  -- refused: nothing was written, and the count is zero
  pub unmoved : is_accepted (entered b ring n e table).verdict ≡ false
      → ((entered b ring n e table).book ≡ b) × ((entered b ring n e table).ring ≡ ring) × ((entered b ring n e table).table ≡ table) × ((entered b ring n e table).count ≡ 0)
  unfolding entered
  unmoved r = by-test (is_accepted said) (λ h. never (is_accepted said) h (rw verdict-is at r)) (λ h. rw h (refl, refl, refl, refl))

  -- accepted: the facts of rule 10 and of the tests, and all that the call leaves
  pub entered-is : is_accepted (entered b ring n e table).verdict ≡ true → Accepts b (length ring) n e (length table) × (entered b ring n e table ≡ acceptance b ring e)
  unfolding entered
  entered-is a = let h : is_accepted said ≡ true = rw verdict-is at a in (accepted-entry b (length ring) n e (length table) h, rw h)
