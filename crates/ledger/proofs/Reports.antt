-- A report of a book that agrees with a ledger is the ledger's. Assumes nothing.
use mathlib.Core.Path.{◌≡◌, sym, ap, ap₂, ◌∙◌}
use mathlib.Core.Bool.{true, ◌&&◌}
use mathlib.Core.List.{List}
use Prim.Native.Nat.{ℕ, ◌<◌}
use native.Mathlib.Omega.{arith}
use borrow.Author.Tests.{ltb-true, leb-true}
use lib.Dec.{leb, ltb}
use lib.IntN.{pos}
use lib.ListN.{length, get_or}
use Rattle.laws.specs.Base.{pick}
use Rattle.laws.specs.Lists.{total}
use Rattle.laws.proofs.Tests.{and_left, and_right, by-test}
use Rattle.laws.proofs.Lists.{get_or-tabulate}
use Rattle.pricing.specs.Verdict.{accepted}
use Rattle.book.specs.Record.{markets_of, place_of, is_accepted}
use Rattle.book_calls.specs.Report as Report
use Rattle.book_calls.specs.Report.{Numbers, report_verdict, nothing}
use Rattle.ledger.specs.Ledger as Ledger
use Rattle.ledger.specs.Ledger.{Ledger, taken, last_prices, administered_at}
use Rattle.ledger.specs.Book.{Held}
use Rattle.ledger.proofs.Sounds.{Sound}
use Rattle.ledger.proofs.Steps.{order-length, place-below, place-used, place-region, place-market}
use Rattle.ledger.proofs.Ranges.{prices-is}
use Rattle.ledger.proofs.Keeping.{kept-sound}
use Rattle.ledger.proofs.Agrees.{Agree}

module _ (s : Held) (p : Ledger) (a : Agree s p) where
  module _ (r m : ℕ) (h : r < s.book.regions) (l : m < markets_of s.book.services) where
    sum_agrees : get_or s.book.sums (place_of r m) (pos 0) ≡ total (last_prices p r m (taken p))
    sum_agrees = (prices-is s.book s.ring a.holds.prices).totals r m h l ∙ ap total (a.windows r m h l)

    count-agrees : get_or s.book.counts r 0 ≡ length (last_prices p r m (taken p))
    count-agrees = sym (order-length s.book s.ring r m l) ∙ ap length (a.windows r m h l)

    pub mark-agrees : get_or s.book.marks (place_of r m) 0 ≡ pick (administered_at p r m (taken p)) 1 0
    mark-agrees =
        let o : Sound s.book s.ring = kept-sound s.book s.ring a.holds in
        let R = s.book.regions in
        let S = s.book.services in
        ap (λ (x : List ℕ). get_or x (place_of r m) 0) a.marks
        ∙ get_or-tabulate _ 88 (place_of r m) 0 (place-below R S r m o.regions o.services h l)
        ∙ rw (a.regions, a.services, place-used R S r m o.regions o.services h l, place-region R S r m o.regions o.services h l, place-market R S r m o.regions o.services h l)

  -- the figures of a market, on either side
  abbrev booked : ℕ → ℕ → Numbers
  booked r m = record {
    verdict = accepted;
    sum = get_or s.book.sums (place_of r m) (pos 0);
    counted = get_or s.book.counts r 0;
    mark = get_or s.book.marks (place_of r m) 0;
    entries = s.book.entries;
  }

  abbrev ledgered : ℕ → ℕ → Numbers
  ledgered r m = record {
    verdict = accepted;
    sum = total (last_prices p r m (taken p));
    counted = length (last_prices p r m (taken p));
    mark = pick (administered_at p r m (taken p)) 1 0;
    entries = taken p;
  }

  figures : (r m : ℕ) → (ltb r s.book.regions && leb m s.book.services) ≡ true → booked r m ≡ ledgered r m
  figures r m e =
      let h : r < s.book.regions = ltb-true r s.book.regions (and_left (ltb r s.book.regions) (leb m s.book.services) e) in
      let l : m < markets_of s.book.services = omega (arith, leb-true m s.book.services (and_right (ltb r s.book.regions) (leb m s.book.services) e)) in
      λ i. record { verdict = accepted; sum = sum_agrees r m h l i; counted = count-agrees r m h l i; mark = mark-agrees r m h l i; entries = a.entries i }

  pub report-agrees : (r m : ℕ) → Report.report_of s.book r m ≡ Ledger.report_of p r m
  unfolding Report.report_of Ledger.report_of report_verdict
  report-agrees r m =
      rw a.holds.accepted
      (by-test (ltb r s.book.regions && leb m s.book.services) (λ e. rw e (figures r m e)) (λ e. rw e)
      ∙ ap₂ (λ (R S : ℕ). pick (is_accepted (report_verdict R S r m)) (ledgered r m) (nothing (report_verdict R S r m))) (sym a.regions) (sym a.services))
