-- The rewriter in plain numbers and lists: a record moved as it stands, what its tests say, and the outcome by the way the call takes.
-- Assumes nothing.
use mathlib.Core.Path.{◌≡◌, refl, sym, ap, ◌∙◌}
use mathlib.Core.Bool.{Bool, true, false}
use mathlib.Core.List.{List, ◌++◌}
use Prim.Native.Nat.{ℕ, ◌+◌, ◌*◌, ◌<◌, ◌≤◌}
use native.Mathlib.Omega.{arith}
use borrow.Author.Tests.{lt-ltb, le-ltb, ltb-true, ltb-false}
use Rattle.std.proofs.Common.{Option, Some, None, append_assoc}
use lib.Dec.{ltb}
use lib.ListN.{length, get_or, take, drop, length-append, length-drop}
use lib.Seq.{sets, sets-eq, drop-drop, length-take-le}
use Rattle.laws.specs.Base.{pick}
use Rattle.laws.specs.Lists.{tabulate, joined}
use Rattle.laws.proofs.Bytes.{sets-front}
use Rattle.laws.proofs.Fields.{part_then}
use Rattle.laws.proofs.Joined.{take-run, length-joined, sum_same}
use Rattle.laws.proofs.Lists.{run-same}
use Rattle.laws.proofs.Tests.{by-test, true-is}
use Rattle.pricing.specs.Verdict.{refused}
use Rattle.book.specs.declared.record.Book.{Book}
use Rattle.book.specs.declared.record.Refusal.{Refusal}
use Rattle.std.specs.Prelude.{Result, Ok, Err}
use Rattle.book.specs.Record.{markets_of, has_link, verdict, is_accepted}
use Rattle.book.specs.Validity.{valid}
use Rattle.book.proofs.Ways.{refusal_is}
use Rattle.interval_records.specs.Layout.{head_length, region_length, link_length, interval_length, length_for}
use Rattle.interval_records.specs.Record.{record_place}
use Rattle.interval_records.proofs.InOrder.{dues-room, whole_room}
use Rattle.interval_rewriter.specs.AnyOrder.{records_verdict, record_of}
use Rattle.interval_rewriter.specs.Rewriting.{rewrite_verdict, record_bytes, link_bytes, reordered, outcome, rewrite_interval}
use Rattle.interval_rewriter.proofs.AnyOrder.{Named, Given, given_is, record-below}

-- ---- what a search below R answers, and what its answer means
module _ (R k x : ℕ) where
  pub found-some : k < R → x ≡ k → Some k ≡ pick (ltb x R) (Some x) None
  found-some h e = rw (e, lt-ltb k R h) refl

  pub some-found : pick (ltb x R) (Some x) None ≡ Some k → (x < R) × (x ≡ k)
  some-found e = by-test (ltb x R) (λ t. let q : Some x ≡ Some k = rw t at e in (ltb-true x R t, cc)) (λ t. let q : ◌≡◌ {A = Option ℕ} None (Some k) = rw t at e in cc)

pub found-none : (R x : ℕ) → x ≡ R → None ≡ pick (ltb x R) (Some x) None
found-none R x e = rw (e, le-ltb R R (omega arith)) refl

-- ---- bytes moved one by one are the part of which they are
pub part-is : (bytes : List ℕ) (from n : ℕ) → from + n ≤ length bytes → tabulate n (λ k. get_or bytes (from + k) 0) ≡ take n (drop from bytes)
part-is bytes from n h =
    run-same n 0 from (λ k. get_or bytes (from + k) 0) (λ k. get_or bytes k 0) (λ k l. let z : 0 + k ≡ k = omega arith in rw z refl)
    ∙ sym (take-run 0 bytes n from h)

-- ---- bytes put in the place of as many
pub part-put : (l ys vs : List ℕ) (at k n : ℕ) → ys ≡ vs → length vs ≡ n → k ≡ n → at + n ≤ length l
    → take at l ++ (ys ++ drop k (drop at l)) ≡ sets l at vs
part-put l ys vs at k n e h q room =
    let d : drop k (drop at l) ≡ drop (at + length vs) l = drop-drop k at l ∙ ap (λ (m : ℕ). drop m l) (omega (arith, h, q)) in
    rw (e, d) (sym (append_assoc (take at l) vs (drop (at + length vs) l)) ∙ sym (sets-eq vs l at (omega (arith, h, room))))

pub part_length : (bytes : List ℕ) (from n : ℕ) → from + n ≤ length bytes → length (take n (drop from bytes)) ≡ n
part_length bytes from n h = length-take-le n (drop from bytes) (simp length-drop (omega arith))

-- ---- the room of the records, and how long each is and all are together
module _ (R M : ℕ) (bytes : List ℕ) (first : ℕ) (g : Named R M bytes first) where
  pub records-room : first ≤ length bytes → first + R * region_length M ≤ length bytes
  records-room h = dues-room R M bytes first h g.due R (omega arith)

  pub record-length : (r : ℕ) → r < R → length (record_bytes R M bytes first r) ≡ region_length M
  record-length r h =
      part_length bytes _ (region_length M) (g.due (record_of R M bytes first r) (record-below R M bytes first g r h)).room

  records-length : length (joined R 0 (record_bytes R M bytes first)) ≡ R * region_length M
  records-length =
      length-joined (record_bytes R M bytes first) (λ _. region_length M) R 0 (λ r p q. record-length r (omega arith))
      ∙ sum_same R 0 (region_length M) (λ _. region_length M) (λ j l. refl)

module _ (linked : Bool) (R M : ℕ) (bytes : List ℕ) (at : ℕ) (g : Given linked R M bytes at) where
  pub all_room : at + interval_length linked R M ≤ length bytes
  all_room = whole_room linked R M bytes at (records-room R M bytes (at + head_length) g.named g.head.room) (λ l. (g.link l).room)

  link-length : length (link_bytes linked R M bytes (at + head_length)) ≡ pick linked link_length 0
  link-length = part_length bytes (record_place M (at + head_length) R) (pick linked link_length 0) (omega (arith, all_room))

  pub reordered-length : length (reordered linked R M bytes at) ≡ interval_length linked R M
  unfolding reordered
  reordered-length =
      let records = joined R 0 (record_bytes R M bytes (at + head_length)) in
      let last = link_bytes linked R M bytes (at + head_length) in
      length-append (take head_length (drop at bytes)) (records ++ last)
      ∙ omega (
        arith,
        part_length bytes at head_length g.head.room,
        length-append records last,
        records-length R M bytes (at + head_length) g.named,
        link-length,
      )

-- ---- the verdict: 10, 23, then what the records say
module _ (b : Book) (bytes : List ℕ) (at room : ℕ) where
  pub rewrite-10 : valid b ≡ false → refused 10 ≡ rewrite_verdict b bytes at room
  unfolding rewrite_verdict
  rewrite-10 y = rw y refl

  module _ (y : valid b ≡ true) where
    pub rewrite-23 : room < length_for b → refused 23 ≡ rewrite_verdict b bytes at room
    unfolding rewrite_verdict
    rewrite-23 l = rw (y, lt-ltb room (length_for b) l) refl

    pub rewrite-rest : length_for b ≤ room → records_verdict (has_link b) b.regions (markets_of b.services) bytes at ≡ rewrite_verdict b bytes at room
    unfolding rewrite_verdict
    rewrite-rest l = rw (y, le-ltb room (length_for b) l) refl

-- ---- what the tests of an accepted rewriting say
pub record Rewrites (b : Book) (bytes : List ℕ) (at room : ℕ) : Type 0 where
  pub book : valid b ≡ true
  pub long : length_for b ≤ room
  pub given : is_accepted (records_verdict (has_link b) b.regions (markets_of b.services) bytes at) ≡ true

pub accepted-rewrites : (b : Book) (bytes : List ℕ) (at room : ℕ) → is_accepted (rewrite_verdict b bytes at room) ≡ true → Rewrites b bytes at room
unfolding rewrite_verdict
accepted-rewrites b bytes at room e =
    by-test (valid b)
    (λ a. by-test (ltb room (length_for b))
    (λ s. absurd (true-is (rw (a, s) at e)))
    (λ s. record { book = a; long = ltb-false _ _ s; given = rw (a, s) at e }))
    (λ a. absurd (true-is (rw a at e)))

-- ---- the call, by the answer of its tests
module _ (b : Book) (bytes : List ℕ) (at : ℕ) (buffer : List ℕ) (a : Result Unit Refusal) (h : verdict a ≡ rewrite_verdict b bytes at (length buffer)) where
  pub rewritten-refused : (r : Refusal) → a ≡ Err r
      → outcome (record { book = b; answer = Err r }) buffer ≡ rewrite_interval b bytes at buffer
  unfolding rewrite_interval
  rewritten-refused r q =
      let p : verdict {T = Unit} (Err r) ≡ rewrite_verdict b bytes at (length buffer) = ap verdict (sym q) ∙ h in
      let z : is_accepted (rewrite_verdict b bytes at (length buffer)) ≡ false = rw (← p) (refusal_is r) in
      rw (z, p) refl

  module _ (q : a ≡ Ok tt) where
    is-accepted : is_accepted (rewrite_verdict b bytes at (length buffer)) ≡ true
    is-accepted = rw (← h, q) refl

    pub rewrite-asks : Rewrites b bytes at (length buffer)
    rewrite-asks = accepted-rewrites b bytes at (length buffer) is-accepted

    abbrev R : ℕ
    R = b.regions

    abbrev M : ℕ
    M = markets_of b.services

    abbrev linked : Bool
    linked = has_link b

    pub asks-given : Given linked R M bytes at
    asks-given = given_is linked R M bytes at rewrite-asks.given

    -- the head, then the records behind it, then the additional link's
    all-puts : (head others all : List ℕ) → head ≡ sets buffer 0 (take head_length (drop at bytes))
        → others ≡ sets head head_length (joined R 0 (record_bytes R M bytes (at + head_length)))
        → all ≡ sets others (head_length + R * region_length M) (link_bytes linked R M bytes (at + head_length))
        → all ≡ sets buffer 0 (reordered linked R M bytes at)
    unfolding reordered
    all-puts head others all e f g =
        let records = joined R 0 (record_bytes R M bytes (at + head_length)) in
        let last = link_bytes linked R M bytes (at + head_length) in
        let z : head_length ≡ 0 + length (take head_length (drop at bytes)) = omega (arith, part_length bytes at head_length asks-given.head.room) in
        let y : length records ≡ R * region_length M = records-length R M bytes (at + head_length) asks-given.named in
        part_then buffer head all (take head_length (drop at bytes)) (records ++ last) 0 head_length z e
        (part_then head others all records last head_length (head_length + R * region_length M) (omega (arith, y)) f g)

    pub rewritten-accepted : (next : ℕ) (head others all : List ℕ) → next ≡ at + length_for b
        → head ≡ sets buffer 0 (take head_length (drop at bytes))
        → others ≡ sets head head_length (joined R 0 (record_bytes R M bytes (at + head_length)))
        → all ≡ sets others (head_length + R * region_length M) (link_bytes linked R M bytes (at + head_length))
        → outcome (record { book = b; answer = Ok next }) all ≡ rewrite_interval b bytes at buffer
    unfolding rewrite_interval
    rewritten-accepted next head others all l e f g =
        let k : length (reordered linked R M bytes at) ≡ length_for b = reordered-length linked R M bytes at asks-given in
        let s : all ≡ reordered linked R M bytes at ++ drop (length_for b) buffer =
        all-puts head others all e f g
        ∙ sets-front buffer (reordered linked R M bytes at) (omega (arith, k, rewrite-asks.long))
        ∙ ap (λ (i : ℕ). reordered linked R M bytes at ++ drop i buffer) k in
        rw (is-accepted, l, s) refl
