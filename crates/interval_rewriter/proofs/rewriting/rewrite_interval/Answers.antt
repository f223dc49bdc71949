-- `interval_rewriter::rewriting::rewrite_interval` meets its contract: refused by its tests, or the head, the records and the link's. Assumes
-- nothing.
use mathlib.Core.Path.{◌≡◌, ◌∙◌}
use mathlib.Core.Bool.{Bool, false}
use mathlib.Core.List.{List}
use Prim.Native.Nat.{ℕ, ◌+◌, ◌*◌, ◌≤◌}
use native.Mathlib.Omega.{arith}
use lib.ListN.{length, take, drop}
use lib.Seq.{sets}
use Rattle.laws.specs.Base.{pick}
use Rattle.book.specs.declared.record.Book.{Book}
use Rattle.book.specs.Record.{markets_of, has_link}
use Rattle.book.proofs.Validities.{valid-is}
use Rattle.interval_records.specs.Layout.{head_length, region_length, link_length, interval_length, length_for}
use Rattle.interval_rewriter.proofs.AnyOrder.{Given, regions-passed}
use Rattle.interval_rewriter.proofs.Rewrites.{rewrite-asks, asks-given, all_room}
use Rattle.interval_rewriter.proofs.Rewrites.{rewritten-refused, rewritten-accepted}
use Rattle.interval_rewriter.proofs.rewriting.rewrite_interval.Goals as goal

-- the last record moved, by the lengths that were reckoned
moved : (bytes l m : List ℕ) (size last at records n : ℕ) → records ≡ head_length + size → n ≡ last
    → m ≡ sets l records (take n (drop (at + records) bytes)) → m ≡ sets l (head_length + size) (take last (drop (at + head_length + size) bytes))
moved bytes l m size last at records n e f g =
    let place : at + (head_length + size) ≡ at + head_length + size = omega arith in
    rw (e, f, place) at g

-- where the link's record begins, and where the interval ends
module _ (b : Book) (bytes : List ℕ) (at start n : ℕ) (linked : Bool) where
  record Ends : Type 0 where
    records : start ≡ head_length + b.regions * region_length (markets_of b.services)
    last : n ≡ pick (has_link b) link_length 0
    all : start + n ≡ length_for b
    room : at + length_for b ≤ length bytes

  ends : Given (has_link b) b.regions (markets_of b.services) bytes at → start ≡ interval_length false b.regions (markets_of b.services)
      → linked ≡ has_link b → n ≡ pick linked link_length 0 → Ends
  ends g r e l =
      let p : start ≡ head_length + b.regions * region_length (markets_of b.services) = omega (arith, r) in
      let q : n ≡ pick (has_link b) link_length 0 = rw (← e) l in
      record {
        records = p;
        last = q;
        all = omega (arith, p, q);
        room = all_room (has_link b) b.regions (markets_of b.services) bytes at g;
      }

pub returns-in-Err : goal.returns-in-Err
returns-in-Err c =
    let a = c.args in
    rewritten-refused a.book a.bytes.now a.at a.buffer.now _ c.rewrite_verdict-answer.ensures _ c.in-Err.is

pub copy-requires : goal.copy-requires
copy-requires c =
    let a = c.args in
    let b = a.book in
    let given = asks-given b a.bytes.now a.at a.buffer.now _ c.rewrite_verdict-answer.ensures c.in_default.is in
    let asks = rewrite-asks b a.bytes.now a.at a.buffer.now _ c.rewrite_verdict-answer.ensures c.in_default.is in
    (omega (arith, given.head.room), omega (arith, asks.long))

pub copy_records-requires : goal.copy_records-requires
copy_records-requires c =
    let a = c.args in
    let b = a.book in
    let given = asks-given b a.bytes.now a.at a.buffer.now _ c.rewrite_verdict-answer.ensures c.in_default.is in
    let asks = rewrite-asks b a.bytes.now a.at a.buffer.now _ c.rewrite_verdict-answer.ensures c.in_default.is in
    let few : markets_of b.services ≤ 256 = omega (arith, (valid-is b asks.book).services) in
    record {
      markets_bound = (few, given.head.room);
      head_length_value = regions-passed (has_link b) b.regions (markets_of b.services) a.bytes.now a.at asks.given;
      markets_in_bounds = omega (arith, asks.long, c.copy.auto.buffer);
    }

pub overflow_add-at : goal.overflow_add-at
overflow_add-at c =
    let a = c.args in
    let b = a.book in
    let given = asks-given b a.bytes.now a.at a.buffer.now _ c.rewrite_verdict-answer.ensures c.in_default.is in
    let e = ends b a.bytes.now a.at _ _ _ given c.interval_length-records.ensures.0 c.has_link.ensures c.link_length-last.ensures.0 in
    omega arith

pub copy-requires-2 : goal.copy-requires-2
copy-requires-2 c =
    let a = c.args in
    let b = a.book in
    let given = asks-given b a.bytes.now a.at a.buffer.now _ c.rewrite_verdict-answer.ensures c.in_default.is in
    let asks = rewrite-asks b a.bytes.now a.at a.buffer.now _ c.rewrite_verdict-answer.ensures c.in_default.is in
    let e = ends b a.bytes.now a.at _ _ _ given c.interval_length-records.ensures.0 c.has_link.ensures c.link_length-last.ensures.0 in
    let kept : length c.copy_records.new.buffer ≡ length a.buffer.now = c.copy_records.auto.buffer ∙ c.copy.auto.buffer in
    (omega arith, omega (arith, asks.long, kept))

pub overflow_add-result : goal.overflow_add-result
overflow_add-result c =
    let a = c.args in
    let b = a.book in
    let given = asks-given b a.bytes.now a.at a.buffer.now _ c.rewrite_verdict-answer.ensures c.in_default.is in
    let e = ends b a.bytes.now a.at _ _ _ given c.interval_length-records.ensures.0 c.has_link.ensures c.link_length-last.ensures.0 in
    omega arith

pub overflow_add-result-2 : goal.overflow_add-result-2
overflow_add-result-2 c =
    let a = c.args in
    let b = a.book in
    let given = asks-given b a.bytes.now a.at a.buffer.now _ c.rewrite_verdict-answer.ensures c.in_default.is in
    let e = ends b a.bytes.now a.at _ _ _ given c.interval_length-records.ensures.0 c.has_link.ensures c.link_length-last.ensures.0 in
    omega arith

pub returns : goal.returns
returns c =
    let a = c.args in
    let b = a.book in
    let given = asks-given b a.bytes.now a.at a.buffer.now _ c.rewrite_verdict-answer.ensures c.in_default.is in
    let e = ends b a.bytes.now a.at _ _ _ given c.interval_length-records.ensures.0 c.has_link.ensures c.link_length-last.ensures.0 in
    let next : a.at + c.interval_length-records.result + c.link_length-last.result ≡ a.at + length_for b = omega arith in
    rewritten-accepted b a.bytes.now a.at a.buffer.now _ c.rewrite_verdict-answer.ensures c.in_default.is
    _ _ _ _ next c.copy.ensures c.copy_records.ensures
    (moved a.bytes.now _ _ _ _ a.at _ _ e.records e.last c.copy-2.ensures)
