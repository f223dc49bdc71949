-- What the rewriter is for: the entry stays, the form becomes the one that the reader takes, and what has that form stays as it is; for every
-- book, bytes, place, buffer and lent slice. Assumes nothing.
use mathlib.Core.Path.{◌≡◌, refl, sym, ap, ap₂, ◌∙◌}
use mathlib.Core.Bool.{Bool, true}
use mathlib.Core.List.{List, [], ◌∷◌, ◌++◌}
use mathlib.Core.Logic.{⊎_elim}
use Prim.Native.Nat.{ℕ, ◌+◌, ◌*◌, ◌/◌, ◌%◌, ◌^◌, ◌<◌, ◌≤◌}
use native.Mathlib.Nat.{div-lt_iff_lt-mul, mod-lt}
use native.Mathlib.Omega.{arith}
use borrow.Author.Tests.{le-ltb}
use lib.IntN.{ℤ, pos}
use lib.ListN.{length, get_or, take, drop, get_or-eq_default}
use lib.Seq.{drop-drop, take-add, take-append_seam}
use mir.Syntax.{w32}
use mir.Val.{SFits, to_z}
use mir.Facts.{sfits_to_z}
use Rattle.laws.specs.Base.{pick}
use Rattle.laws.specs.Lists.{tabulate}
use Rattle.laws.specs.Bytes.{number_at}
use Rattle.laws.proofs.Bytes.{number-below}
use Rattle.laws.proofs.Integers.{abs-fits}
use Rattle.laws.proofs.Joined.{joined_same}
use Rattle.laws.proofs.Lists.{length_run, get_or-tabulate, tabulate-same}
use Rattle.laws.proofs.Tests.{by-test, never, lt-or-ge}
use Rattle.pricing.specs.Verdict.{accepted}
use Rattle.book.specs.declared.record.Book.{Book}
use Rattle.book.specs.Record.{markets_of, has_link, is_accepted}
use Rattle.book.specs.Validity.{valid}
use Rattle.interval_records.specs.Layout.{Interval, head_length, region_length, link_length, interval_length, length_for, interval_bytes}
use Rattle.interval_records.specs.Record.{record_place}
use Rattle.interval_records.proofs.Heads.{Ordered}
use Rattle.interval_records.proofs.InOrder.{is-ordered}
use Rattle.interval_records.proofs.Says.{Fits, Bytes, RegionSays, head_bytes, region-bytes}
use Rattle.intervals.specs.Lent.{slices_ok}
use Rattle.intervals.specs.Reading.{price_from, mark_from, flow_from, factor_from, link_flow, link_factor, interval_at, read_verdict, read_interval}
use Rattle.intervals.proofs.Lasts.{last-all}
use Rattle.intervals.proofs.Intervals.{bytes-say, bytes-length, joined_bytes, last-bytes}
use Rattle.intervals.proofs.Readings.{read-region, read_head, read-link}
use Rattle.interval_writer.proofs.RoundTrips.{few, says-reads, read-slices, Reads, reads}
use Rattle.interval_rewriter.specs.AnyOrder.{record_of, records_verdict}
use Rattle.interval_rewriter.specs.Earlier.{earlier_verdict, read_earlier}
use Rattle.interval_rewriter.specs.Rewriting.{rewrite_verdict, record_bytes, reordered, rewrite_interval}
use Rattle.interval_rewriter.proofs.AnyOrder.{Given, given_is, is-given, record-below, record-region, ordered-given, record_same}
use Rattle.interval_rewriter.proofs.Rewrites.{Rewrites, accepted-rewrites, rewrite-rest, all_room}

-- ---- an accepted rewriting, and its outcome
rewrites : (b : Book) (bytes : List ℕ) (at : ℕ) (buffer : List ℕ) → is_accepted (rewrite_interval b bytes at buffer).verdict ≡ true
    → Rewrites b bytes at (length buffer)
unfolding rewrite_interval
rewrites b bytes at buffer e =
    by-test (is_accepted (rewrite_verdict b bytes at (length buffer)))
    (λ a. accepted-rewrites b bytes at (length buffer) a)
    (λ a. never (is_accepted (rewrite_verdict b bytes at (length buffer))) (rw a at e) a)

rewritten : (b : Book) (bytes : List ℕ) (at : ℕ) (buffer : List ℕ) → Rewrites b bytes at (length buffer)
    → rewrite_interval b bytes at buffer ≡ record { verdict = accepted; next = at + length_for b; book = b; buffer = reordered (has_link b) b.regions (markets_of b.services) bytes at ++ drop (length_for b) buffer }
unfolding rewrite_interval
rewritten b bytes at buffer w =
    let v : is_accepted (rewrite_verdict b bytes at (length buffer)) ≡ true = rw (← rewrite-rest b bytes at (length buffer) w.book w.long) w.given in
    rw v refl

-- ---- the interval that is taken
module _ (linked : Bool) (R M : ℕ) (bytes : List ℕ) (t : Bytes bytes) (at : ℕ) (g : Given linked R M bytes at) where
  abbrev which : ℕ → ℕ
  which = record_of R M bytes (at + head_length)

  abbrev taken : Interval
  taken = interval_at linked R M bytes at which

  there : (r : ℕ) → r < R → record_place M (at + head_length) (which r) + region_length M ≤ length bytes
  there r h = (g.named.due (which r) (record-below R M bytes (at + head_length) g.named r h)).room

  -- it fits its fields: a number read from a record is small, and past the end there is 0
  within : (f : ℕ → ℕ) (n m : ℕ) → 0 < m → ((r : ℕ) → r < n → f r < m) → (r : ℕ) → get_or (tabulate n f) r 0 < m
  within f n m z h r =
      ⊎_elim (λ (l : r < n). rw (get_or-tabulate f n r 0 l) (h r l)) (λ (l : n ≤ r). rw (get_or-eq_default (tabulate n f) 0 {n = r} (omega (arith, length_run f n 0))) z) (lt-or-ge r n)

  signed-within : (f : ℕ → ℤ) (n : ℕ) → ((r : ℕ) → r < n → SFits w32 (f r)) → (r : ℕ) → SFits w32 (get_or (tabulate n f) r (pos 0))
  signed-within f n h r =
      ⊎_elim (λ (l : r < n). rw (get_or-tabulate f n r (pos 0) l) (h r l)) (λ (l : n ≤ r). rw (get_or-eq_default (tabulate n f) (pos 0) {n = r} (omega (arith, length_run f n 0))) (abs-fits w32 (pos 0) (omega arith))) (lt-or-ge r n)

  word_fits : (p : ℕ) → p + 4 ≤ length bytes → SFits w32 (to_z w32 (number_at bytes p 4))
  word_fits p h = sfits_to_z {w = w32} {n = number_at bytes p 4} (record { fits = omega (arith, number-below bytes t p 4 h) })

  taken-fits : 0 < M → Fits taken
  taken-fits some = record {
    number = number-below bytes t (at + 6) 4 (omega (arith, g.head.room));
    kind = omega (arith, number-below bytes t (at + 10) 1 (omega (arith, g.head.room)));
    marked = within _ R 256 (omega arith) (λ r h. omega (arith, number-below bytes t (record_place M (at + head_length) (which r) + 7) 1 (omega (arith, there r h))));
    factors = last-all (λ (n : ℕ). n < 256 ^ 4) linked _ R _ 0 (omega arith)
        (λ r h. number-below bytes t (record_place M (at + head_length) (which r) + 12) 4 (omega (arith, there r h)))
        (λ l. number-below bytes t (record_place M (at + head_length) R + 10) 4 (omega (arith, (g.link l).room)));
    flows = last-all (SFits w32) linked _ R _ (pos 0) (abs-fits w32 (pos 0) (omega arith))
        (λ r h. word_fits (record_place M (at + head_length) (which r) + 8) (omega (arith, there r h)))
        (λ l. word_fits (record_place M (at + head_length) R + 6) (omega (arith, (g.link l).room)));
    prices = signed-within _ (R * M) (λ q h. word_fits (record_place M (at + head_length) (which (q / M)) + 16 + 4 * (q % M)) (omega (arith, there (q / M) ((div-lt_iff_lt-mul some).1 h), mod-lt q some)));
  }

  taken-says : (r : ℕ) → r < R → RegionSays M bytes (record_place M (at + head_length) (which r)) taken r
  taken-says r h =
      let n = g.named in
      read-region linked R M bytes t at which r h (n.due (which r) (record-below R M bytes (at + head_length) n r h)) (record-region R M bytes (at + head_length) n r h)

  -- the records in the fixed order are the bytes of the interval that was taken
  reordered-is : reordered linked R M bytes at ≡ interval_bytes linked R M taken
  unfolding reordered interval_bytes
  reordered-is =
      ap₂ ◌++◌ (sym (head_bytes bytes t at R taken g.head.room (read_head linked R M bytes t at which g.head g.total)))
      (ap₂ ◌++◌ (joined_same _ _ R 0 (λ r a h. sym (region-bytes bytes t (record_place M (at + head_length) (which r)) M taken r (there r (omega arith)) (taken-says r (omega arith)))))
      (sym (last-bytes linked R taken bytes t (record_place M (at + head_length) R) (omega (arith, all_room linked R M bytes at g)) (λ l. read-link linked R M bytes t at which l (g.link l)))))

-- ---- the reader of request 2026-01 where the records are in some order
earlier-is : (b : Book) (bytes : List ℕ) (at room : ℕ) (lent : Interval) → Rewrites b bytes at room → slices_ok b lent ≡ true
    → read_earlier b bytes at lent ≡ record { verdict = accepted; next = at + length_for b; book = b; interval = interval_at (has_link b) b.regions (markets_of b.services) bytes at (record_of b.regions (markets_of b.services) bytes (at + head_length)) }
unfolding read_earlier earlier_verdict
earlier-is b bytes at room lent w l = rw (w.book, l, w.given) refl

-- with room enough it takes what that reader took, and refuses the rest by the same number
pub rewrite-takes : (b : Book) (bytes : List ℕ) (at : ℕ) (buffer : List ℕ) → length_for b ≤ length buffer → (lent : Interval) → slices_ok b lent ≡ true
    → (rewrite_interval b bytes at buffer).verdict ≡ (read_earlier b bytes at lent).verdict
unfolding rewrite_interval rewrite_verdict read_earlier earlier_verdict
rewrite-takes b bytes at buffer h lent l =
    let room = le-ltb (length buffer) (length_for b) h in
    let given = is_accepted (records_verdict (has_link b) b.regions (markets_of b.services) bytes at) in
    by-test (valid b) (λ y. by-test given (λ r. rw (y, room, l, r) refl) (λ r. rw (y, room, l, r) refl)) (λ y. rw y refl)

-- "with the same entry": what was written reads to the entry that the reader of request 2026-01 gave
pub rewrite-same : (b : Book) (bytes : List ℕ) → Bytes bytes → (at : ℕ) (buffer : List ℕ) → is_accepted (rewrite_interval b bytes at buffer).verdict ≡ true
    → (lent : Interval) → slices_ok b lent ≡ true
    → read_interval b (rewrite_interval b bytes at buffer).buffer 0 lent
    ≡ record { verdict = accepted; next = length_for b; book = b; interval = (read_earlier b bytes at lent).interval }
rewrite-same b bytes t at buffer e lent l =
    let R = b.regions in
    let M = markets_of b.services in
    let w = rewrites b bytes at buffer e in
    let y = has_link b in
    let g = given_is y R M bytes at w.given in
    let k = few b w.book in
    let v = interval_at y R M bytes at (record_of R M bytes (at + head_length)) in
    let f = taken-fits y R M bytes t at g (omega arith) in
    rw (rewritten b bytes at buffer w, reordered-is y R M bytes t at g, earlier-is b bytes at (length buffer) lent w l)
    (says-reads b w.book (interval_bytes y R M v ++ drop (length_for b) buffer) 0 v f (read-slices b bytes at (record_of R M bytes (at + head_length))) (bytes-say y R M k.0 k.1 v f [] (drop (length_for b) buffer)) lent l (length_for b) (omega arith))

-- "one entry has one form": intervals of the earlier form with one entry are written to the same bytes
pub rewrite-one-form : (b : Book) (bytes bytes' : List ℕ) → Bytes bytes → Bytes bytes' → (at at' : ℕ) (buffer buffer' : List ℕ)
    → is_accepted (rewrite_interval b bytes at buffer).verdict ≡ true
    → is_accepted (rewrite_interval b bytes' at' buffer').verdict ≡ true
    → (lent : Interval) → slices_ok b lent ≡ true
    → (read_earlier b bytes at lent).interval ≡ (read_earlier b bytes' at' lent).interval
    → take (length_for b) (rewrite_interval b bytes at buffer).buffer ≡ take (length_for b) (rewrite_interval b bytes' at' buffer').buffer
rewrite-one-form b bytes bytes' t t' at at' buffer buffer' e e' lent l s =
    front bytes t at buffer e ∙ ap (λ (v : Interval). interval_bytes (has_link b) b.regions (markets_of b.services) v) s ∙ sym (front bytes' t' at' buffer' e')
  where
    front : (bytes : List ℕ) → Bytes bytes → (at : ℕ) (buffer : List ℕ) → is_accepted (rewrite_interval b bytes at buffer).verdict ≡ true
        → take (length_for b) (rewrite_interval b bytes at buffer).buffer ≡ interval_bytes (has_link b) b.regions (markets_of b.services) (read_earlier b bytes at lent).interval
    front bytes t at buffer e =
        let R = b.regions in
        let M = markets_of b.services in
        let w = rewrites b bytes at buffer e in
        let y = has_link b in
        let v = interval_at y R M bytes at (record_of R M bytes (at + head_length)) in
        let n : length_for b ≡ length (interval_bytes y R M v) = sym (bytes-length y R M v) in
        rw (rewritten b bytes at buffer w, reordered-is y R M bytes t at (given_is y R M bytes at w.given), earlier-is b bytes at (length buffer) lent w l)
        (ap (λ (i : ℕ). take i (interval_bytes y R M v ++ drop (length_for b) buffer)) n ∙ take-append_seam (interval_bytes y R M v) (drop (length_for b) buffer))

-- ---- an interval in number order
as-it-is : (linked : Bool) (R M : ℕ) (bytes : List ℕ) (at : ℕ) → Ordered linked R M bytes at → reordered linked R M bytes at ≡ take (interval_length linked R M) (drop at bytes)
unfolding reordered
as-it-is linked R M bytes at o =
    let n = R * region_length M in
    let t = pick linked link_length 0 in
    let z : at + 12 + 0 * region_length M ≡ at + 12 = omega arith in
    let y : 12 + n + t ≡ 12 + (n + t) = omega arith in
    let f = record_bytes R M bytes (at + head_length) in
    rw (joined_bytes f (region_length M) (at + 12) bytes R 0 (λ j a h. rw (record_same linked R M bytes at o j (omega arith)) refl), y, take-add 12 (n + t) (drop at bytes), drop-drop 12 at bytes, take-add n t (drop (at + 12) bytes), drop-drop n (at + 12) bytes, z)

ordered-rewrites : (b : Book) (bytes : List ℕ) (at room : ℕ) (lent : Interval) → Reads b bytes at lent → length_for b ≤ room → Rewrites b bytes at room
ordered-rewrites b bytes at room lent r h =
    let R = b.regions in
    let M = markets_of b.services in
    record { book = r.book; long = h; given = rw (is-given (has_link b) R M bytes at (ordered-given (has_link b) R M bytes at r.order)) refl }

-- what reads already is rewritten to itself
pub rewrite-ordered : (b : Book) (bytes : List ℕ) (at : ℕ) (lent : Interval) → is_accepted (read_interval b bytes at lent).verdict ≡ true
    → (buffer : List ℕ) → length_for b ≤ length buffer
    → rewrite_interval b bytes at buffer
    ≡ record { verdict = accepted; next = at + length_for b; book = b; buffer = take (length_for b) (drop at bytes) ++ drop (length_for b) buffer }
rewrite-ordered b bytes at lent e buffer h =
    let r = reads b bytes at lent e in
    rewritten b bytes at buffer (ordered-rewrites b bytes at (length buffer) lent r h) ∙ rw (as-it-is (has_link b) b.regions (markets_of b.services) bytes at r.order) refl

same-interval : (linked : Bool) (R M : ℕ) → 0 < M → (bytes : List ℕ) (at : ℕ) (which : ℕ → ℕ) → ((r : ℕ) → r < R → which r ≡ r) → interval_at linked R M bytes at which ≡ interval_at linked R M bytes at (λ r. r)
same-interval linked R M some bytes at which e = λ i. record {
  number = number_at bytes (at + 6) 4;
  kind = number_at bytes (at + 10) 1;
  prices = tabulate-same (R * M) (price_from M bytes (at + head_length) which) (price_from M bytes (at + head_length) (λ r. r)) (λ q h. rw (e (q / M) ((div-lt_iff_lt-mul some).1 h)) refl) i;
  marked = tabulate-same R (mark_from M bytes (at + head_length) which) (mark_from M bytes (at + head_length) (λ r. r)) (λ r h. rw (e r h) refl) i;
  flows = tabulate-same R (flow_from M bytes (at + head_length) which) (flow_from M bytes (at + head_length) (λ r. r)) (λ r h. rw (e r h) refl) i ++ pick linked (link_flow R M bytes (at + head_length) ∷ []) [];
  factors = tabulate-same R (factor_from M bytes (at + head_length) which) (factor_from M bytes (at + head_length) (λ r. r)) (λ r h. rw (e r h) refl) i ++ pick linked (link_factor R M bytes (at + head_length) ∷ []) [];
}

-- what reads was read by the reader of request 2026-01 too, to the same entry
pub read-earlier : (b : Book) (bytes : List ℕ) (at : ℕ) (lent : Interval) → is_accepted (read_interval b bytes at lent).verdict ≡ true
    → read_earlier b bytes at lent ≡ read_interval b bytes at lent
unfolding read_interval read_verdict
read-earlier b bytes at lent e =
    let R = b.regions in
    let M = markets_of b.services in
    let r = reads b bytes at lent e in
    earlier-is b bytes at (length_for b) lent (ordered-rewrites b bytes at (length_for b) lent r (omega arith)) r.slices
    ∙ rw (same-interval (has_link b) R M (omega arith) bytes at (record_of R M bytes (at + head_length)) (record_same (has_link b) R M bytes at r.order), r.book, r.slices, is-ordered (has_link b) R M bytes at r.order) refl
