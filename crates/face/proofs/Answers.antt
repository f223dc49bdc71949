-- From what a call of the book promised and what was made of its answer to what the host holds. Assumes nothing.
use mathlib.Core.Path.{◌≡◌, refl, sym, ap, ◌∙◌}
use mathlib.Core.Bool.{Bool, not, ◌&&◌}
use mathlib.Core.List.{List}
use Prim.Native.Nat.{ℕ}
use lib.Dec.{eqb, leb, ltb}
use lib.IntN.{ℤ}
use lib.ListN.{length}
use Rattle.laws.proofs.Tests.{by-test}
use Rattle.pricing.specs.Verdict.{Verdict}
use Rattle.book.specs.declared.record.Book.{Book}
use Rattle.book.specs.Record.{ring_size, is_accepted}
use Rattle.book.specs.Validity.{valid}
use Rattle.book.proofs.Places.{Placeless, no_place, taken, either}
use Rattle.book_calls.specs.Opening as Opening
use Rattle.book_calls.specs.Setting as Setting
use Rattle.book_calls.specs.Report.{Numbers, report_verdict, report_of}
use Rattle.head.specs.Layout.{length_of}
use Rattle.image.specs.Storing as Storing
use Rattle.image.specs.Storing.{prices_ok, kind_tells, store_verdict, stored}
use Rattle.image.specs.Loading as Loading
use Rattle.entries.specs.Entering as Entering
use Rattle.interval_records.specs.Layout.{Interval, interval_of}
use Rattle.intervals.specs.Reading as Reading
use Rattle.intervals.specs.Reading.{read_interval}
use Rattle.intervals.proofs.Places.{read-place, read-book}
use Rattle.interval_writer.specs.Writing as Writing
use Rattle.interval_writer.specs.Writing.{write_interval}
use Rattle.interval_writer.proofs.Places.{write-place, write-book}
use Rattle.interval_rewriter.specs.Rewriting as Rewriting
use Rattle.interval_rewriter.specs.Rewriting.{rewrite_interval}
use Rattle.interval_rewriter.proofs.Places.{rewrite-place, rewrite-book}
use Rattle.billing.specs.Billing as Billing
use Rattle.billing.specs.Billing.{Bill, billed}
use Rattle.billing.proofs.Places.{bill-book}
use Rattle.planning.specs.Left as Planning
use Rattle.planning.specs.Left.{intervals_left}
use Rattle.planning.proofs.Places.{left-place, left-book}
use Rattle.synthetic.specs.Synthetic as Synthetic
use Rattle.synthetic.specs.Synthetic.{synthesized}
use Rattle.synthetic.proofs.Places.{draw-place, draw-book}
use Rattle.face.specs.declared.Kept.{Kept}
use Rattle.face.specs.declared.Taken.{Taken}
use Rattle.face.specs.declared.Seen.{Seen}
use Rattle.face.specs.declared.Written.{Written}
use Rattle.face.specs.declared.Found.{Found}
use Rattle.face.specs.declared.Rewritten.{Rewritten}
use Rattle.face.specs.declared.Drawn.{Drawn}
use Rattle.face.specs.declared.Left.{Left}
use Rattle.face.specs.declared.Billed.{Billed}
use Rattle.face.specs.Face.{verdict_by, kept_by, taken_by, seen_by, written_by, found_by, rewritten_by, drawn_by, left_by, billed_by}
use Rattle.face.specs.Face.{opened_of, changed_of, loaded_of, taken_of, numbers_of, stored_of}
use Rattle.face.specs.Face.{read_of, write_of, rewrite_of, synthesized_of, planned_of, judged_of}

-- ---- calls that hand back a book
module _ (k : Kept) {v : Verdict} {b : Book} (e : k ≡ kept_by v b) where
  pub opened-by : {ring : List ℤ} {o : Opening.Outcome} → record { verdict = v; book = b; ring = ring } ≡ o → opened_of k ring ≡ o
  opened-by {ring} h = ap (λ (x : Kept). opened_of x ring) e ∙ h

  pub changed-by : {o : Setting.Outcome} → record { verdict = v; book = b } ≡ o → changed_of k ≡ o
  changed-by h = ap changed_of e ∙ h

  pub loaded-by : {ring : List ℤ} {o : Loading.Outcome} → record { verdict = v; book = b; ring = ring } ≡ o → loaded_of k ring ≡ o
  loaded-by {ring} h = ap (λ (x : Kept). loaded_of x ring) e ∙ h

pub taken-by : (r : Taken) {v : Verdict} {count : ℕ} {b : Book} {ring table : List ℤ} {o : Entering.Outcome} → r ≡ taken_by v count b
    → record { verdict = v; count = count; book = b; ring = ring; table = table } ≡ o → taken_of r ring table ≡ o
taken-by r {ring = ring} {table = table} e h = ap (λ (x : Taken). taken_of x ring table) e ∙ h

-- ---- a report and a store: none of their refusals has a place
verdict-of-report : (b : Book) (region market : ℕ) → Placeless (report_verdict b.regions b.services region market)
unfolding report_verdict
verdict-of-report b region market = either (not (ltb region b.regions && leb market b.services)) (no_place 21) taken

report-place : (b : Book) (region market : ℕ) → (report_of b region market).verdict.place ≡ 0
unfolding report_of
report-place b region market =
    let v = report_verdict b.regions b.services region market in
    by-test (valid b)
    (λ t. rw t (by-test (is_accepted v) (λ u. rw u refl) (λ u. rw u (verdict-of-report b region market).none)))
    (λ t. rw t refl)

-- numbers with another place
abbrev numbers_at : Numbers → ℕ → Numbers
numbers_at n p =
    record { verdict = verdict_by n.verdict.number p; sum = n.sum; counted = n.counted; mark = n.mark; entries = n.entries }

pub seen_by-is : (r : Seen) {n : Numbers} (b : Book) (region market : ℕ) → r ≡ seen_by n → n ≡ report_of b region market
    → numbers_of r ≡ report_of b region market
seen_by-is r b region market e h =
    let o = report_of b region market in
    ap numbers_of (e ∙ ap seen_by h)
    ∙ ap (λ (p : ℕ). numbers_at o p) (sym (report-place b region market))

module _ (second : Bool) (b : Book) (ring : List ℤ) (buffer : List ℕ) where
  verdict-place : Placeless (store_verdict second b ring (length buffer))
  unfolding store_verdict
  verdict-place =
      either (not (valid b)) (no_place 10)
      (either (not (eqb (length ring) (ring_size b.regions b.services b.window))) (no_place 11)
      (either (not (prices_ok b ring)) (no_place 22)
      (either (not (kind_tells second b)) (no_place 47) (either (ltb (length buffer) (length_of second b)) (no_place 23) taken))))

  store-place : (stored second b ring buffer).verdict.place ≡ 0
  unfolding stored
  store-place =
      by-test (is_accepted (store_verdict second b ring (length buffer))) (λ t. rw t refl) (λ t. rw t verdict-place.none)

  store-book : (stored second b ring buffer).book ≡ b
  unfolding stored
  store-book = by-test (is_accepted (store_verdict second b ring (length buffer))) (λ t. rw t refl) (λ t. rw t refl)

  pub stored-by : (r : Written) {v : Verdict} {n : ℕ} {c : Book} {after : List ℕ} → r ≡ written_by v n
      → record { verdict = v; length = n; book = c; buffer = after } ≡ stored second b ring buffer
      → stored_of r b after ≡ stored second b ring buffer
  stored-by r {v} {n} {c} {after} e h =
      let p : v.place ≡ 0 = ap (λ (x : Storing.Outcome). x.verdict.place) h ∙ store-place in
      let q : c ≡ b = ap (λ (x : Storing.Outcome). x.book) h ∙ store-book in
      ap (λ (x : Written). stored_of x b after) e ∙ (rw (p, q) at h)

-- ---- interval records: none of their refusals has a place
pub read_by : (r : Found) {v : Verdict} {next entry kind : ℕ} {c : Book} {prices flows : List ℤ} {marked factors : List ℕ}
    (b : Book) (bytes : List ℕ) (at : ℕ) (lent : Interval) → r ≡ found_by v next entry kind
    → record { verdict = v; next = next; book = c; interval = interval_of entry kind prices marked flows factors } ≡ read_interval b bytes at lent
    → read_of r b prices marked flows factors ≡ read_interval b bytes at lent
read_by r {v} {next} {entry} {kind} {c} {prices} {flows} {marked} {factors} b bytes at lent e h =
    let p : v.place ≡ 0 = ap (λ (x : Reading.Outcome). x.verdict.place) h ∙ read-place b bytes at lent in
    let q : c ≡ b = ap (λ (x : Reading.Outcome). x.book) h ∙ read-book b bytes at lent in
    ap (λ (x : Found). read_of x b prices marked flows factors) e ∙ (rw (p, q) at h)

pub write-by : (r : Written) {v : Verdict} {n : ℕ} {c : Book} {after : List ℕ} (b : Book) (i : Interval) (buffer : List ℕ)
    → r ≡ written_by v n → record { verdict = v; length = n; book = c; buffer = after } ≡ write_interval b i buffer
    → write_of r b after ≡ write_interval b i buffer
write-by r {v} {n} {c} {after} b i buffer e h =
    let p : v.place ≡ 0 = ap (λ (x : Writing.Outcome). x.verdict.place) h ∙ write-place b i buffer in
    let q : c ≡ b = ap (λ (x : Writing.Outcome). x.book) h ∙ write-book b i buffer in
    ap (λ (x : Written). write_of x b after) e ∙ (rw (p, q) at h)

pub rewrite-by : (r : Rewritten) {v : Verdict} {next : ℕ} {c : Book} {after : List ℕ} (b : Book) (bytes : List ℕ) (at : ℕ) (buffer : List ℕ)
    → r ≡ rewritten_by v next → record { verdict = v; next = next; book = c; buffer = after } ≡ rewrite_interval b bytes at buffer
    → rewrite_of r b after ≡ rewrite_interval b bytes at buffer
rewrite-by r {v} {next} {c} {after} b bytes at buffer e h =
    let p : v.place ≡ 0 = ap (λ (x : Rewriting.Outcome). x.verdict.place) h ∙ rewrite-place b bytes at buffer in
    let q : c ≡ b = ap (λ (x : Rewriting.Outcome). x.book) h ∙ rewrite-book b bytes at buffer in
    ap (λ (x : Rewritten). rewrite_of x b after) e ∙ (rw (p, q) at h)

-- ---- a test load: none of its refusals has a place
pub synthesized-by : (r : Drawn) {v : Verdict} {seed entry day : ℕ} {c : Book} {prices flows : List ℤ} {marked factors : List ℕ}
    (b : Book) (s number kind : ℕ) (lent : Interval) → r ≡ drawn_by v seed entry day
    → record { verdict = v; seed = seed; book = c; interval = interval_of entry day prices marked flows factors }
    ≡ synthesized b s number kind lent
    → synthesized_of r b prices marked flows factors ≡ synthesized b s number kind lent
synthesized-by r {v} {seed} {entry} {day} {c} {prices} {flows} {marked} {factors} b s number kind lent e h =
    let p : v.place ≡ 0 = ap (λ (x : Synthetic.Outcome). x.verdict.place) h ∙ draw-place b s number kind lent in
    let q : c ≡ b = ap (λ (x : Synthetic.Outcome). x.book) h ∙ draw-book b s number kind lent in
    ap (λ (x : Drawn). synthesized_of x b prices marked flows factors) e ∙ (rw (p, q) at h)

-- ---- a question of intervals left: none of its refusals has a place
pub left_by-is : (r : Left) {v : Verdict} {n : ℕ} {c : Book} (b : Book) (ring : List ℤ) (region market : ℕ) (price : ℤ)
    → r ≡ left_by v n → record { verdict = v; intervals = n; book = c } ≡ intervals_left b ring region market price
    → planned_of r b ≡ intervals_left b ring region market price
left_by-is r {v} {n} {c} b ring region market price e h =
    let p : v.place ≡ 0 = ap (λ (x : Planning.Outcome). x.verdict.place) h ∙ left-place b ring region market price in
    let q : c ≡ b = ap (λ (x : Planning.Outcome). x.book) h ∙ left-book b ring region market price in
    ap (λ (x : Left). planned_of x b) e ∙ (rw (p, q) at h)

-- ---- a bill
pub bill-by : (r : Billed) {v : Verdict} {right line : ℕ} {c : Book} {after : List ℤ} (b : Book) (ring work : List ℤ) (bill : Bill)
    → r ≡ billed_by v right line → record { verdict = v; right = right; line = line; book = c; work = after } ≡ billed b ring work bill
    → judged_of r b after ≡ billed b ring work bill
bill-by r {v} {right} {line} {c} {after} b ring work bill e h =
    let q : c ≡ b = ap (λ (x : Billing.Outcome). x.book) h ∙ bill-book b ring work bill in
    ap (λ (x : Billed). judged_of x b after) e ∙ (rw q at h)
