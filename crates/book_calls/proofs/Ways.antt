-- The outcome of each call, by the way it takes: what its definition comes to where its tests are decided. Assumes nothing.
use mathlib.Core.Path.{◌≡◌, refl}
use mathlib.Core.Bool.{Bool, true, false, not}
use mathlib.Core.List.{List}
use Prim.Native.Nat.{ℕ}
use lib.IntN.{ℤ, pos}
use lib.ListN.{length, replicate}
use lib.Dec.{eqb}
use Rattle.laws.specs.Base.{pick}
use Rattle.pricing.specs.Verdict.{Verdict, accepted, refused}
use Rattle.pricing.specs.Holding.{limits_ok}
use Rattle.book.specs.declared.record.Book.{Book}
use Rattle.book.specs.declared.record.Settings.{Settings}
use Rattle.book.specs.declared.record.Refusal.{Refusal}
use Rattle.std.specs.Prelude.{Result, Ok, Err}
use Rattle.book.specs.Record.{closed, ring_size, verdict, is_accepted}
use Rattle.book.specs.Validity.{threshold_ok, valid}
use Rattle.book.proofs.Ways.{is-accepted, is-refused}
use Rattle.book_calls.specs.Opening.{settings_ok, open_verdict, fresh, outcome, opened}
use Rattle.book_calls.specs.Setting as Setting
use Rattle.book_calls.specs.Setting.{in_hundreds, threshold_verdict, limits_verdict, with_settings, changed, set_threshold, set_limits}

-- ---- opening
abbrev pub ring_ok : Settings → ℕ → Bool
ring_ok s ring = eqb ring (ring_size s.regions s.services s.window)

-- 20, 11, 18 and 44, 19, over their tests and the threshold's verdict
abbrev pub opening : Bool → Bool → Verdict → Bool → Verdict
opening a b v d = pick (not a) (refused 20) (pick (not b) (refused 11) (pick (not (is_accepted v)) v (pick (not d) (refused 19) accepted)))

module _ (s : Settings) (ring : ℕ) where
  pub open-tests : open_verdict s ring ≡ opening (settings_ok s) (ring_ok s ring) (threshold_verdict s.threshold) (limits_ok s.cap s.floor)
  unfolding open_verdict
  open-tests = refl

  pub open-20 : settings_ok s ≡ false → refused 20 ≡ open_verdict s ring
  open-20 a = rw (open-tests, a)

  pub open-11 : settings_ok s ≡ true → ring_ok s ring ≡ false → refused 11 ≡ open_verdict s ring
  open-11 a b = rw (open-tests, a, b)

  -- 18 or 44, as the threshold's verdict says
  pub open-threshold : settings_ok s ≡ true → ring_ok s ring ≡ true → is_accepted (threshold_verdict s.threshold) ≡ false
      → threshold_verdict s.threshold ≡ open_verdict s ring
  open-threshold a b c = rw (open-tests, a, b, c)

  pub open-19 : settings_ok s ≡ true → ring_ok s ring ≡ true → is_accepted (threshold_verdict s.threshold) ≡ true
      → limits_ok s.cap s.floor ≡ false → refused 19 ≡ open_verdict s ring
  open-19 a b c d = rw (open-tests, a, b, c, d)

  pub open-0 : settings_ok s ≡ true → ring_ok s ring ≡ true → is_accepted (threshold_verdict s.threshold) ≡ true
      → limits_ok s.cap s.floor ≡ true → accepted ≡ open_verdict s ring
  open-0 a b c d = rw (open-tests, a, b, c, d)

module _ (s : Settings) (ring : List ℤ) (a : Result Unit Refusal) (h : verdict a ≡ open_verdict s (length ring)) (b : Book) where
  pub opened-refused : (r : Refusal) → a ≡ Err r → b ≡ closed → outcome (record { book = b; answer = a }) ring ≡ opened s ring
  unfolding opened
  opened-refused r e q =
      rw ((is-refused a (open_verdict s (length ring)) h r e).1, h, q)

  pub opened-accepted : (ring' : List ℤ) → a ≡ Ok tt → b ≡ fresh s → ring' ≡ replicate (length ring) (pos 0) → outcome (record { book = b; answer = a }) ring' ≡ opened s ring
  unfolding opened
  opened-accepted ring' e q z =
      rw (is-accepted a (open_verdict s (length ring)) h tt e, e, q, z)

-- ---- the threshold of openings and settings: 18, then 44, over their tests
abbrev pub ranges : Bool → Bool → Verdict
ranges a b = pick (not a) (refused 18) (pick (not b) (refused 44) accepted)

module _ (threshold : ℤ) where
  pub threshold-tests : threshold_verdict threshold ≡ ranges (threshold_ok threshold) (in_hundreds threshold)
  unfolding threshold_verdict
  threshold-tests = refl

  pub threshold-18 : threshold_ok threshold ≡ false → refused 18 ≡ threshold_verdict threshold
  threshold-18 a = rw (threshold-tests, a)

  pub threshold-44 : threshold_ok threshold ≡ true → in_hundreds threshold ≡ false → refused 44 ≡ threshold_verdict threshold
  threshold-44 a b = rw (threshold-tests, a, b)

  pub threshold-0 : threshold_ok threshold ≡ true → in_hundreds threshold ≡ true → accepted ≡ threshold_verdict threshold
  threshold-0 a b = rw (threshold-tests, a, b)

-- ---- settings
-- a threshold's is the call of its verdict
setting-is : (b : Book) (threshold : ℤ)
    → set_threshold b threshold ≡ changed b (threshold_verdict threshold) (with_settings b threshold b.cap b.floor)
unfolding set_threshold
setting-is b threshold = refl

-- of a book that rule 10 accepts
module _ (b : Book) (ok : valid b ≡ true) where
  -- of a threshold, as its verdict says
  module _ (threshold : ℤ) (a : Result Unit Refusal) (h : verdict a ≡ threshold_verdict threshold) where
    pub threshold-refused : (r : Refusal) → a ≡ Err r
        → ◌≡◌ {A = Setting.Outcome} (record { verdict = verdict a; book = b }) (set_threshold b threshold)
    threshold-refused r e = rw (setting-is b threshold, ok, (is-refused a (threshold_verdict threshold) h r e).1, h)

    -- accepted, of a number that is the one lent
    pub threshold-set : (x : ℤ) → a ≡ Ok tt → x ≡ threshold
        → ◌≡◌ {A = Setting.Outcome} (record { verdict = verdict a; book = with_settings b x b.cap b.floor }) (set_threshold b threshold)
    threshold-set x e q = rw (setting-is b threshold, ok, is-accepted a (threshold_verdict threshold) h tt e, e, q)

pub limits-0 : (b : Book) (cap floor x y : ℤ) → valid b ≡ true → limits_ok cap floor ≡ true → x ≡ cap → y ≡ floor
    → ◌≡◌ {A = Setting.Outcome} (record { verdict = accepted; book = with_settings b b.threshold x y }) (set_limits b cap floor)
unfolding set_limits limits_verdict
limits-0 b cap floor x y v l d e = rw (v, l, d, e)
