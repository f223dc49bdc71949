-- What the refusals come to, by the way the code takes: one law for each way out. Assumes nothing.
use mathlib.Core.Path.{◌≡◌, refl, sym, ap, ◌∙◌}
use mathlib.Core.Bool.{true, false}
use mathlib.Core.List.{List}
use Prim.Native.Nat.{ℕ, ◌*◌, ◌≤◌, ◌<◌}
use borrow.Author.Tests.{lt-ltb, le-ltb, le-leb, lt-leb, eq-eqb, ne_eqb}
use lib.Dec.{leb}
use lib.IntN.{ℤ}
use lib.ListN.{length}
use Rattle.pricing.specs.Verdict.{accepted, refused, refused_at}
use Rattle.book.specs.declared.record.Book.{Book}
use Rattle.book.specs.declared.record.Refusal.{Refusal}
use Rattle.std.specs.Prelude.{Result, Ok, Err}
use Rattle.book.specs.Record.{markets_of, link_count, verdict, is_accepted}
use Rattle.book.specs.Validity.{valid}
use Rattle.book.proofs.Ways.{refusal_is}
use Rattle.publishing.specs.declared.Terms.{Terms}
use Rattle.publishing.specs.Entry.{Entry, TermsOk, OfferOk, LinksOk}
use Rattle.publishing.specs.Published.{table_of, count_of}
use Rattle.entries.specs.Checking.{lengths_ok, first_mark, first_price, first_factor, entry_verdict}
use Rattle.counting.specs.Windows.{ring_after}
use Rattle.entries.specs.Entering.{shape_of, terms_of, book_after, enter_verdict, outcome, entered}
use Rattle.entries.specs.Working.{slices_verdict, Accepts, acceptance}
use Rattle.book.proofs.Validities.{valid-is}
use Rattle.entries.proofs.Accepted.{accepted-entry, terms-ok, offer-ok, links-ok}

-- ---- 15 to 17: `mark`, `price` and `factor` are the first bad places that were found
module _ (L R M : ℕ) (parents : List ℕ) (prices : List ℤ) (marked factors : List ℕ) (mark : ℕ) (e : mark ≡ first_mark R marked) where
  pub slices-15 : mark < R → refused_at 15 mark ≡ slices_verdict L R M parents prices marked factors
  unfolding slices_verdict
  slices-15 l = rw (← e, lt-ltb mark R l)

  module _ (l : R ≤ mark) (price : ℕ) (p : price ≡ first_price R M prices marked) where
    pub slices-16 : price < R * M → refused_at 16 price ≡ slices_verdict L R M parents prices marked factors
    unfolding slices_verdict
    slices-16 h = rw (← e, le-ltb mark R l, ← p, lt-ltb price (R * M) h)

    module _ (h : R * M ≤ price) (factor : ℕ) (f : factor ≡ first_factor L R parents factors) where
      pub slices-17 : factor < L → refused_at 17 factor ≡ slices_verdict L R M parents prices marked factors
      unfolding slices_verdict
      slices-17 k = rw (← e, le-ltb mark R l, ← p, le-ltb price (R * M) h, ← f, lt-ltb factor L k)

      pub slices-0 : L ≤ factor → accepted ≡ slices_verdict L R M parents prices marked factors
      unfolding slices_verdict
      slices-0 k = rw (← e, le-ltb mark R l, ← p, le-ltb price (R * M) h, ← f, le-ltb factor L k)

-- ---- 10 to 14, each after those before it
module _ (b : Book) (ring n : ℕ) (e : Entry) (table : ℕ) where
  pub enter-10 : valid b ≡ false → refused 10 ≡ enter_verdict b ring n e table
  enter-10 v = rw v

  module _ (v : valid b ≡ true) where
    pub enter-11 : lengths_ok (shape_of b) ring e table ≡ false → refused 11 ≡ enter_verdict b ring n e table
    unfolding entry_verdict
    enter-11 l = rw (v, l)

    module _ (l : lengths_ok (shape_of b) ring e table ≡ true) where
      pub enter-12 : 10000000 ≤ b.entries → refused 12 ≡ enter_verdict b ring n e table
      unfolding entry_verdict
      enter-12 t = rw (v, l, le-leb 10000000 b.entries t)

      module _ (t : b.entries < 10000000) where
        pub enter-13 : (n ≡ b.entries → ⊥) → refused 13 ≡ enter_verdict b ring n e table
        unfolding entry_verdict
        enter-13 k = rw (v, l, lt-leb 10000000 b.entries t, ne_eqb n b.entries k)

        module _ (k : n ≡ b.entries) where
          pub enter-14 : leb e.offer.kind 1 ≡ false → refused 14 ≡ enter_verdict b ring n e table
          unfolding entry_verdict
          enter-14 d = rw (v, l, lt-leb 10000000 b.entries t, eq-eqb n b.entries k, d)

          pub enter-more : leb e.offer.kind 1 ≡ true → slices_verdict (link_count b) b.regions (markets_of b.services) b.parents e.offer.prices e.offer.marked e.factors ≡ enter_verdict b ring n e table
          unfolding entry_verdict slices_verdict
          enter-more d = rw (v, l, lt-leb 10000000 b.entries t, eq-eqb n b.entries k, d)

-- ---- the call, by the answer of its tests
module _ (b : Book) (ring : List ℤ) (n : ℕ) (e : Entry) (table : List ℤ) (a : Result Unit Refusal) (h : verdict a ≡ enter_verdict b (length ring) n e (length table)) where
  pub entered-refused : (r : Refusal) → a ≡ Err r → outcome (record { book = b; answer = Err r }) ring table ≡ entered b ring n e table
  unfolding entered
  entered-refused r q =
      let p : verdict {T = Unit} (Err r) ≡ enter_verdict b (length ring) n e (length table) = ap verdict (sym q) ∙ h in
      let z : is_accepted (enter_verdict b (length ring) n e (length table)) ≡ false = rw (← p) (refusal_is r) in
      rw (z, p)

  is-accepted : a ≡ Ok tt → is_accepted (enter_verdict b (length ring) n e (length table)) ≡ true
  is-accepted q = rw (← h, q) refl

  -- the next number is how many entries were taken
  pub entry-accepted : a ≡ Ok tt → Accepts b (length ring) b.entries e (length table)
  entry-accepted q = let f = accepted-entry b (length ring) n e (length table) (is-accepted q) in rw f.number at f

  pub entered-accepted : a ≡ Ok tt → acceptance b ring e ≡ entered b ring n e table
  unfolding entered
  entered-accepted q = rw (is-accepted q)

-- ---- what publishing asks and answers, with the terms that the code made
module _ (b : Book) (ring : List ℤ) (e : Entry) (t : Terms) (q : t ≡ terms_of b) where
  pub publish-asks : (table : ℕ) → length b.parents ≡ 8 → Accepts b (length ring) b.entries e table → (TermsOk t × OfferOk t e.offer) × (LinksOk t e.flows e.factors × (table ≡ t.regions * t.markets))
  publish-asks table p a =
      rw q (
        (terms-ok b (valid-is b a.valid), offer-ok b (length ring) b.entries e table a),
        (links-ok b (length ring) b.entries e table a p, a.table-size),
      )

  pub acceptance-is : (n : ℕ) (after : Book) (ring' table' : List ℤ) → n ≡ count_of t b.marks e → table' ≡ table_of t b.marks e → after ≡ book_after b ring e → ring' ≡ ring_after b ring e.offer
      → outcome (record { book = after; answer = Ok n }) ring' table' ≡ acceptance b ring e
  acceptance-is n after ring' table' x y z w = rw (x, y, z, w, q)
