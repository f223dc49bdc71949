-- `intervals::reading::read_interval` meets its contract: the answers of its tests decide, one law for each way out. Assumes nothing.
use mathlib.Core.Path.{◌≡◌, sym, ap, ◌∙◌}
use mathlib.Core.Bool.{Bool, true}
use mathlib.Core.List.{List}
use Prim.Native.Nat.{ℕ, ◌+◌, ◌*◌, ◌≤◌, ◌<◌}
use native.Mathlib.Omega.{arith}
use lib.ListN.{length}
use Rattle.laws.specs.Bytes.{number_at}
use Rattle.book.specs.declared.record.Book.{Book}
use Rattle.std.specs.Prelude.{Result, Ok}
use Rattle.book.specs.declared.record.Refusal.{Refusal}
use Rattle.book.specs.Record.{markets_of, table_size, has_link, link_count, verdict}
use Rattle.interval_records.specs.Layout.{Interval, head_length, region_length, link_length, length_for, interval_of}
use Rattle.interval_records.specs.InOrder.{ordered_verdict}
use Rattle.intervals.proofs.Ways.{head-room, records-room, link-room, all_room, read-lent, lengths, markets-few, read-refused}
use Rattle.book.proofs.Ways.{links-least}
use Rattle.intervals.proofs.Lasts.{last-there}
use Rattle.intervals.proofs.Ways.{records-accepted, read-accepted}
use Rattle.intervals.specs.Working.{lent_verdict}
use Rattle.intervals.proofs.reading.read_interval.Goals as goal

-- what is known once both tests accept, of a slice that has its length: the room of the interval's head, of its regions' records,
-- of the additional link's and of all of it, and the lengths of what is lent
record Known (b : Book) (bytes : List ℕ) (at : ℕ) (v : Interval) : Type 0 where
  head : at + head_length ≤ length bytes
  regions : at + head_length + b.regions * region_length (markets_of b.services) ≤ length bytes
  link : has_link b ≡ true → at + head_length + b.regions * region_length (markets_of b.services) + link_length ≤ length bytes
  all : at + length_for b ≤ length bytes
  few : markets_of b.services ≤ 256
  prices : length v.prices ≡ table_size b.regions b.services
  marked : length v.marked ≡ b.regions
  flows : length v.flows ≡ link_count b
  factors : length v.factors ≡ link_count b

module _ (b : Book) (bytes : List ℕ) (at : ℕ) (linked : Bool) (l : linked ≡ has_link b) (o : Result Unit Refusal)
    (g : verdict o ≡ ordered_verdict linked b.regions (markets_of b.services) bytes at) where
  -- the verdict on the records, whether the book has the additional link
  ordered : verdict o ≡ ordered_verdict (has_link b) b.regions (markets_of b.services) bytes at
  ordered = rw (← l) g

  known : (v : Interval) (a : Result Unit Refusal) → verdict a ≡ lent_verdict b (length v.prices) (length v.marked) (length v.flows) (length v.factors) → a ≡ Ok tt
      → o ≡ Ok tt → Known b bytes at v
  known v a h q w =
      let e = records-accepted b bytes at v a h q o ordered w in
      let R = b.regions in
      let M = markets_of b.services in
      let s = lengths b bytes at v a h q in
      record {
        head = head-room (has_link b) R M bytes at e;
        regions = records-room (has_link b) R M bytes at e;
        link = link-room (has_link b) R M bytes at e;
        all = all_room (has_link b) R M bytes at e;
        few = markets-few b bytes at v a h q;
        prices = s.0;
        marked = s.1;
        flows = s.2;
        factors = s.3;
      }

pub returns-in-Err : goal.returns-in-Err
returns-in-Err c =
    let a = c.args in
    let v = interval_of 0 0 a.prices.now a.marked.now a.flows.now a.factors.now in
    read-lent a.book a.bytes.now a.at v _ c.lent_verdict-lent.ensures _ c.in-Err.is

pub returns-in-Err-answer : goal.returns-in-Err-answer
returns-in-Err-answer c =
    let a = c.args in
    let v = interval_of 0 0 a.prices.now a.marked.now a.flows.now a.factors.now in
    let o = ordered a.book a.bytes.now a.at _ c.has_link-linked.ensures _ c.ordered_verdict-answer.ensures in
    read-refused a.book a.bytes.now a.at v _ c.lent_verdict-lent.ensures c.in_default.is _ o _ c.in-Err-answer.is

pub overflow_add-at : goal.overflow_add-at
overflow_add-at c =
    let a = c.args in
    let v = interval_of 0 0 a.prices.now a.marked.now a.flows.now a.factors.now in
    let k = known a.book a.bytes.now a.at _ c.has_link-linked.ensures _ c.ordered_verdict-answer.ensures v _ c.lent_verdict-lent.ensures c.in_default.is c.in_default-answer.is in
    omega arith

pub read_regions-requires : goal.read_regions-requires
read_regions-requires c =
    let a = c.args in
    let v = interval_of 0 0 a.prices.now a.marked.now a.flows.now a.factors.now in
    let k = known a.book a.bytes.now a.at _ c.has_link-linked.ensures _ c.ordered_verdict-answer.ensures v _ c.lent_verdict-lent.ensures c.in_default.is c.in_default-answer.is in
    let most = links-least a.book.regions a.book.from in
    record {
      markets_bound = (k.few, k.regions);
      prices_len = (k.prices, omega arith);
      regions_in_bounds = (omega (arith, k.flows, most), omega (arith, k.factors, most));
    }

pub overflow_add-at-2 : goal.overflow_add-at-2
overflow_add-at-2 c =
    let a = c.args in
    let v = interval_of 0 0 a.prices.now a.marked.now a.flows.now a.factors.now in
    let k = known a.book a.bytes.now a.at _ c.has_link-linked.ensures _ c.ordered_verdict-answer.ensures v _ c.lent_verdict-lent.ensures c.in_default.is c.in_default-answer.is in
    omega arith

pub read_link-requires : goal.read_link-requires
read_link-requires c =
    let a = c.args in
    let v = interval_of 0 0 a.prices.now a.marked.now a.flows.now a.factors.now in
    let k = known a.book a.bytes.now a.at _ c.has_link-linked.ensures _ c.ordered_verdict-answer.ensures v _ c.lent_verdict-lent.ensures c.in_default.is c.in_default-answer.is in
    let has = c.has_link-linked.ensures in
    let t = c.read_regions.auto in
    let there : (n : ℕ) → n ≡ link_count a.book → has_link a.book ≡ true → a.book.regions < n = last-there (has_link a.book) a.book.regions in
    record {
      link_length_in_bounds = λ e. k.link (sym has ∙ e);
      regions_in_bounds = λ e. (there _ (t.flows ∙ k.flows) (sym has ∙ e), there _ (t.factors ∙ k.factors) (sym has ∙ e));
      markets_bound = k.few;
    }

pub overflow_add-found : goal.overflow_add-found
overflow_add-found c =
    let a = c.args in
    let v = interval_of 0 0 a.prices.now a.marked.now a.flows.now a.factors.now in
    let k = known a.book a.bytes.now a.at _ c.has_link-linked.ensures _ c.ordered_verdict-answer.ensures v _ c.lent_verdict-lent.ensures c.in_default.is c.in_default-answer.is in
    let long : c.interval_length.result ≡ length_for a.book = (rw c.has_link-linked.ensures at c.interval_length.ensures).0 in
    omega arith

pub overflow_add-at-3 : goal.overflow_add-at-3
overflow_add-at-3 c =
    let a = c.args in
    let v = interval_of 0 0 a.prices.now a.marked.now a.flows.now a.factors.now in
    let k = known a.book a.bytes.now a.at _ c.has_link-linked.ensures _ c.ordered_verdict-answer.ensures v _ c.lent_verdict-lent.ensures c.in_default.is c.in_default-answer.is in
    omega arith

pub get_u32-requires : goal.get_u32-requires
get_u32-requires c =
    let a = c.args in
    let v = interval_of 0 0 a.prices.now a.marked.now a.flows.now a.factors.now in
    let k = known a.book a.bytes.now a.at _ c.has_link-linked.ensures _ c.ordered_verdict-answer.ensures v _ c.lent_verdict-lent.ensures c.in_default.is c.in_default-answer.is in
    omega arith

pub overflow_add-at-4 : goal.overflow_add-at-4
overflow_add-at-4 c =
    let a = c.args in
    let v = interval_of 0 0 a.prices.now a.marked.now a.flows.now a.factors.now in
    let k = known a.book a.bytes.now a.at _ c.has_link-linked.ensures _ c.ordered_verdict-answer.ensures v _ c.lent_verdict-lent.ensures c.in_default.is c.in_default-answer.is in
    omega arith

pub get_u8-requires : goal.get_u8-requires
get_u8-requires c =
    let a = c.args in
    let v = interval_of 0 0 a.prices.now a.marked.now a.flows.now a.factors.now in
    let k = known a.book a.bytes.now a.at _ c.has_link-linked.ensures _ c.ordered_verdict-answer.ensures v _ c.lent_verdict-lent.ensures c.in_default.is c.in_default-answer.is in
    omega arith

pub returns : goal.returns
returns c =
    let a = c.args in
    let v = interval_of 0 0 a.prices.now a.marked.now a.flows.now a.factors.now in
    let o = ordered a.book a.bytes.now a.at _ c.has_link-linked.ensures _ c.ordered_verdict-answer.ensures in
    let long : c.interval_length.result ≡ length_for a.book = (rw c.has_link-linked.ensures at c.interval_length.ensures).0 in
    let number : c.get_u32.result ≡ number_at a.bytes.now (a.at + 6) 4 = c.get_u32.ensures in
    let kind : c.get_u8.result ≡ number_at a.bytes.now (a.at + 10) 1 = c.get_u8.ensures in
    let p = c.read_regions.ensures in
    let l = rw c.has_link-linked.ensures at c.read_link.ensures in
    read-accepted a.book a.bytes.now a.at v _ c.lent_verdict-lent.ensures c.in_default.is _ o c.in_default-answer.is
    _ _ _ _ _ _ _ _ _
    (ap (λ (n : ℕ). a.at + n) long) number kind p.prices_after p.marked_after p.flows_after p.factors_after l.flows_after l.factors_after
