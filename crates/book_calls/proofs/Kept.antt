-- A book that an accepted call hands back is accepted by rule 10, a refused call hands back the lent book, and a setting moves
-- no report. Assumes nothing.
use mathlib.Core.Path.{◌≡◌, refl, sym, ap, ◌∙◌}
use mathlib.Core.Bool.{Bool, true, false, ◌&&◌}
use mathlib.Core.List.{List}
use mathlib.Core.Logic.{inr}
use Prim.Native.Nat.{ℕ, ◌<◌}
use native.Mathlib.Omega.{arith}
use borrow.Author.Tests.{eqb-true}
use lib.IntN.{ℤ, pos}
use lib.ListN.{length, replicate, get_or, get_or-replicate}
use Rattle.laws.proofs.Tests.{and_left, and_right, by-test, never}
use Rattle.pricing.specs.Verdict.{Verdict, accepted, refused}
use Rattle.pricing.specs.Holding.{limits_ok}
use Rattle.book.specs.declared.record.Book.{Book}
use Rattle.book.specs.declared.record.Settings.{Settings}
use Rattle.book.specs.Record.{closed, ring_size, is_accepted}
use Rattle.book.specs.Validity.{parent_ok, shape_ok, parents_ok, ends_ok, threshold_ok, valid}
use Rattle.book_calls.specs.Opening.{settings_ok, open_verdict, fresh, opened}
use Rattle.book_calls.specs.Setting.{in_hundreds, threshold_verdict, limits_verdict, with_settings, Outcome, changed, set_threshold, set_limits}
use Rattle.book_calls.specs.Report.{report_of, reported}
use Rattle.laws.proofs.Lists.{all-at}
use Rattle.book.proofs.Validities.{parts, shape_is, parent_is, Valid, is-valid}
use Rattle.book_calls.proofs.Ways.{ring_ok, open-tests, open-0, threshold-tests, threshold-0}
use Rattle.book.proofs.Passes.{passes-not, passes-verdict}

-- ---- rule 10 and the closed book
pub closed-invalid : valid closed ≡ false
unfolding valid
closed-invalid = refl

-- ---- thresholds that are taken
pub threshold-is : (threshold : ℤ) → is_accepted (threshold_verdict threshold) ≡ true → (threshold_ok threshold ≡ true) × (in_hundreds threshold ≡ true)
threshold-is threshold e =
    let p = passes-not (threshold_ok threshold) (refused 18) _ refl (sym (ap is_accepted (threshold-tests threshold)) ∙ e) in
    (p.0, (passes-not (in_hundreds threshold) (refused 44) accepted refl p.1).0)

pub threshold-accepted : (threshold : ℤ) → is_accepted (threshold_verdict threshold) ≡ true → threshold_verdict threshold ≡ accepted
threshold-accepted threshold e = let p = threshold-is threshold e in sym (threshold-0 threshold p.0 p.1)

-- ---- opening
zero-at : (r : ℕ) → r < 8 → ◌≡◌ {A = ℕ} (get_or (replicate 8 0) r 0) 0
zero-at r h = get_or-replicate 8 r 0 0 h

module _ (s : Settings) (n : ℕ) (e : is_accepted (open_verdict s n) ≡ true) where
  passed : (settings_ok s ≡ true) × (ring_ok s n ≡ true) × (is_accepted (threshold_verdict s.threshold) ≡ true) × (limits_ok s.cap s.floor ≡ true)
  passed =
      let p = passes-not (settings_ok s) (refused 20) _ refl (sym (ap is_accepted (open-tests s n)) ∙ e) in
      let q = passes-not (ring_ok s n) (refused 11) _ refl p.1 in
      let t = passes-verdict (threshold_verdict s.threshold) _ q.1 in
      let u = passes-not (limits_ok s.cap s.floor) (refused 19) _ refl t.1 in
      (p.0, q.0, t.0, u.0)

  open-accepted : open_verdict s n ≡ accepted
  open-accepted = sym (open-0 s n passed.0 passed.1 passed.2 passed.3)

  pub accepts : (settings_ok s ≡ true) × (n ≡ ring_size s.regions s.services s.window) × (threshold_ok s.threshold ≡ true)
      × (limits_ok s.cap s.floor ≡ true)
  accepts = (passed.0, eqb-true _ _ passed.1, (threshold-is s.threshold passed.2).0, passed.3)

  abbrev shapes : Bool
  shapes = shape_ok s.regions s.services s.window s.halves s.first

  abbrev parented : Bool
  parented = parents_ok s.regions s.parents

  shape : shapes ≡ true
  shape = and_left shapes parented (and_left (shapes && parented) (ends_ok s.regions s.parents s.from s.to) accepts.0)

  parents : parented ≡ true
  parents = and_right shapes parented (and_left (shapes && parented) (ends_ok s.regions s.parents s.from s.to) accepts.0)

  ends : ends_ok s.regions s.parents s.from s.to ≡ true
  ends = and_right (shapes && parented) (ends_ok s.regions s.parents s.from s.to) accepts.0

  pub fresh-is : Valid (fresh s)
  fresh-is =
      let h = shape_is s.regions s.services s.window s.halves s.first shape in
      record {
        some-regions = h.0;
        regions = h.1;
        services = h.2;
        some-window = h.3;
        window = h.4;
        some-halves = h.5;
        halves = h.6;
        position = h.7;
        parent = λ r l. parent_is s.regions r (get_or s.parents r 0) (all-at 8 (λ q. parent_ok s.regions q (get_or s.parents q 0)) parents r l);
        ends = ends;
        threshold = accepts.2;
        limits = accepts.3;
        entries = omega arith;
        count = λ r l. rw (zero-at r (omega arith)) (omega arith);
        taken = λ r l. rw (zero-at r (omega arith)) (omega arith);
        next = λ r l. rw (zero-at r (omega arith)) (omega arith);
        next-is = λ r l. inr refl;
        no-count = λ r l p. zero-at r p;
        no-next = λ r l p. zero-at r p;
        sum = λ k p x y. rw (get_or-replicate 88 k (pos 0) (pos 0) p) (omega arith);
        mark = λ k p x y. rw (get_or-replicate {A = ℕ} 88 k 0 0 p) (omega arith);
        no-sum = λ k p x. get_or-replicate 88 k (pos 0) (pos 0) p;
        no-mark = λ k p x. get_or-replicate {A = ℕ} 88 k 0 0 p;
      }

module _ (s : Settings) (ring : List ℤ) where
  -- an opening answers its verdict
  pub opened-verdict : (opened s ring).verdict ≡ open_verdict s (length ring)
  unfolding opened
  opened-verdict =
      by-test (is_accepted (open_verdict s (length ring))) (λ t. rw t (sym (open-accepted s (length ring) t))) (λ t. rw t)

  -- one that is accepted
  pub opened-is : is_accepted (opened s ring).verdict ≡ true → (is_accepted (open_verdict s (length ring)) ≡ true) × ((opened s ring).book ≡ fresh s) × ((opened s ring).ring ≡ replicate (length ring) (pos 0))
  unfolding opened
  opened-is e = by-test (is_accepted (open_verdict s (length ring))) (λ h. (h, rw h, rw h)) (λ h. never _ (rw h at e) h)

  pub opened-valid : is_accepted (opened s ring).verdict ≡ true → valid (opened s ring).book ≡ true
  opened-valid e = let p = opened-is e in rw p.1 (is-valid (fresh s) (fresh-is s (length ring) p.0))

  -- one that is refused
  pub opened-not : is_accepted (opened s ring).verdict ≡ false → ((opened s ring).book ≡ closed) × ((opened s ring).ring ≡ ring)
  unfolding opened
  opened-not e = by-test (is_accepted (open_verdict s (length ring))) (λ h. never true refl (rw h at e)) (λ h. (rw h, rw h))

-- ---- settings
module _ (b : Book) (threshold cap floor : ℤ) (ok : valid b ≡ true) (t : threshold_ok threshold ≡ true) (l : limits_ok cap floor ≡ true) where
  pub setting-valid : valid (with_settings b threshold cap floor) ≡ true
  unfolding valid
  setting-valid = let p = parts b ok in rw (p.0, p.1, p.2, t, l, p.5, p.6, p.7)

  pub setting-report : (region market : ℕ) → report_of (with_settings b threshold cap floor) region market ≡ report_of b region market
  unfolding report_of
  setting-report region market = rw (setting-valid, ok)

-- what a setting of the lent book b, after which it is `after`, comes to
pub record Sets (b after : Book) (o : Outcome) : Type 0 where
  pub lent : is_accepted o.verdict ≡ true → valid b ≡ true
  pub is : is_accepted o.verdict ≡ true → o.book ≡ after
  pub kept : is_accepted o.verdict ≡ true → valid o.book ≡ true
  pub back : is_accepted o.verdict ≡ false → o.book ≡ b
  -- accepted or refused, reports are as before
  pub report : (region market : ℕ) → report_of o.book region market ≡ report_of b region market

module _ (b : Book) (v : Verdict) (threshold cap floor : ℤ) where
  sets : (valid b ≡ true → is_accepted v ≡ true → (threshold_ok threshold ≡ true) × (limits_ok cap floor ≡ true))
      → Sets b (with_settings b threshold cap floor) (changed b v (with_settings b threshold cap floor))
  sets sound =
      by-test (valid b)
      (λ p. by-test (is_accepted v)
      (λ h. let q = sound p h in let k = setting-valid b threshold cap floor p q.0 q.1 in rw (p, h) (record {
        lent = λ e. p;
        is = λ e. refl;
        kept = λ e. k;
        back = λ e. never true refl e;
        report = λ region market. setting-report b threshold cap floor p q.0 q.1 region market;
      }))
      (λ h. rw (p, h) (record { lent = λ e. p; is = λ e. never (is_accepted v) e h; kept = λ e. p; back = λ e. refl; report = λ region market. refl })))
      (λ p. rw p (record { lent = λ e. never true refl (sym e); is = λ e. never true refl (sym e); kept = λ e. never true refl (sym e); back = λ e. refl; report = λ region market. refl }))

pub threshold-sets : (b : Book) (threshold : ℤ) → Sets b (with_settings b threshold b.cap b.floor) (set_threshold b threshold)
unfolding set_threshold
threshold-sets b threshold =
    sets b (threshold_verdict threshold) threshold b.cap b.floor (λ ok e. ((threshold-is threshold e).0, (parts b ok).4))

pub limits-sets : (b : Book) (cap floor : ℤ) → Sets b (with_settings b b.threshold cap floor) (set_limits b cap floor)
unfolding set_limits limits_verdict
limits-sets b cap floor =
    sets b (limits_verdict cap floor) b.threshold cap floor (λ ok e. ((parts b ok).3, (passes-not (limits_ok cap floor) (refused 19) accepted refl e).0))

-- ---- report
pub reported-back : (b : Book) (region market : ℕ) → (reported b region market).book ≡ b
reported-back b region market = refl
