-- `interval_rewriter::rewriting::copy_records` meets its contract. What is still to go is the same at every turn. Assumes nothing.
use mathlib.Core.Path.{◌≡◌, refl, sym, ap, ◌∙◌}
use mathlib.Core.Bool.{true}
use mathlib.Core.List.{List}
use Prim.Native.Nat.{ℕ, ◌<◌, ◌≤◌, ◌+◌, ◌*◌}
use native.Mathlib.Omega.{arith}
use lib.ListN.{length, take, drop}
use lib.Seq.{sets}
use Rattle.std.proofs.Common.{Option, Some, None}
use Rattle.book.specs.Record.{is_accepted}
use Rattle.interval_records.specs.Layout.{head_length, region_length}
use Rattle.interval_records.proofs.Verdicts.{room_at}
use Rattle.interval_writer.proofs.Writes.{regions-step, regions-done}
use Rattle.interval_rewriter.specs.AnyOrder.{regions_verdict, record_of}
use Rattle.interval_rewriter.specs.Rewriting.{record_bytes}
use Rattle.interval_rewriter.specs.Working.{record_found}
use Rattle.interval_rewriter.proofs.AnyOrder.{named-is, record-below}
use Rattle.interval_rewriter.proofs.Rewrites.{found-some, some-found, records-room, record-length}
use Rattle.interval_rewriter.proofs.rewriting.copy_records.Goals as goal
use Rattle.interval_rewriter.proofs.rewriting.copy_records.Goals.{in-Some, in_default}

-- region r and its record are below R: the record is there, and so is its place in the buffer
module _ (R M : ℕ) (bytes : List ℕ) (first room : ℕ) (accepted : is_accepted (regions_verdict R M bytes first) ≡ true) (inside : first ≤ length bytes) (fits : head_length + R * region_length M ≤ room) (r : ℕ) (h : r < R) where
  record Row (k : ℕ) : Type 0 where
    is : record_of R M bytes first r ≡ k
    there : first + k * region_length M + region_length M ≤ length bytes
    own : first + r * region_length M + region_length M ≤ length bytes
    put : 12 + r * region_length M + region_length M ≤ room

  row : (k : ℕ) → record_found R M bytes first r ≡ Some k → Row k
  row k e =
      let size = region_length M in
      let all : first + R * size ≤ length bytes = records-room R M bytes first (named-is R M bytes first accepted) inside in
      let found = some-found R k (record_of R M bytes first r) e in
      let l : k < R = omega (arith, found.0, found.1) in
      record {
        is = found.1;
        there = room_at first size R k _ l all;
        own = room_at first size R r _ h all;
        put = room_at 12 size R r _ h fits;
      }

  -- no region is without a record
  never-none : record_found R M bytes first r ≡ None → ⊥
  never-none e =
      let below = record-below R M bytes first (named-is R M bytes first accepted) r h in
      let q : ◌≡◌ {A = Option ℕ} (Some (record_of R M bytes first r)) None = found-some R _ _ below refl ∙ e in cc

pub record_of-requires : goal.record_of-requires
record_of-requires c =
    let a = c.args in
    let given = named-is a.regions a.markets a.bytes.now (a.at + head_length) c.requires.head_length_value in
    (c.requires.markets_bound.0, records-room a.regions a.markets a.bytes.now (a.at + head_length) given c.requires.markets_bound.1)

pub overflow_mul-k : goal.overflow_mul-k
overflow_mul-k c =
    let a = c.args in
    let q = c.requires in
    let w = row a.regions a.markets a.bytes.now _ _ q.head_length_value q.markets_bound.1 q.markets_in_bounds c.loop-r.r c.loop-r-test.true _ (sym c.record_of.ensures ∙ c.in-Some.is) in
    omega arith

pub overflow_add-first-in-Some : goal.overflow_add-first-in-Some
overflow_add-first-in-Some c =
    let a = c.args in
    let q = c.requires in
    let w = row a.regions a.markets a.bytes.now _ _ q.head_length_value q.markets_bound.1 q.markets_in_bounds c.loop-r.r c.loop-r-test.true _ (sym c.record_of.ensures ∙ c.in-Some.is) in
    omega arith

pub copy-requires : goal.copy-requires
copy-requires c =
    let a = c.args in
    let q = c.requires in
    let w = row a.regions a.markets a.bytes.now _ _ q.head_length_value q.markets_bound.1 q.markets_in_bounds c.loop-r.r c.loop-r-test.true _ (sym c.record_of.ensures ∙ c.in-Some.is) in
    (omega arith, omega arith)

pub loop-r-preserved : goal.loop-r-preserved
loop-r-preserved c =
    let a = c.args in
    let q = c.requires in
    let l = c.loop-r in
    let first = a.at + head_length in
    let h : l.r < a.regions = c.loop-r-test.true in
    elim c.match-record_of.branch [
      | in-Some w ↦
          let o = row a.regions a.markets a.bytes.now _ _ q.head_length_value q.markets_bound.1 q.markets_in_bounds l.r h _ (sym c.record_of.ensures ∙ w.in-Some.is) in
          let f = record_bytes a.regions a.markets a.bytes.now first in
          let size = region_length a.markets in
          let n = c.match-record_of.buffer in
          let e : n ≡ sets l.buffer (12 + l.r * size) (f l.r) = w.buffer-is ∙ w.copy.ensures ∙ ap (λ (k : ℕ). sets l.buffer (12 + l.r * size) (take size (drop (first + k * size) a.bytes.now))) (sym o.is) in
          let g : length (f l.r) ≡ size = record-length a.regions a.markets a.bytes.now first (named-is a.regions a.markets a.bytes.now first q.head_length_value) l.r h in (
            omega arith,
            ap length w.buffer-is ∙ w.copy.auto.buffer ∙ l.invariant.1,
            rw e (regions-step f size 12 l.buffer _ a.regions l.r h g l.invariant.2),
          )
      | in_default w ↦
          absurd (never-none a.regions a.markets a.bytes.now _ _ q.head_length_value q.markets_bound.1 q.markets_in_bounds l.r h (sym c.record_of.ensures ∙ w.in_default.is))
    ]

pub returns : goal.returns
returns c =
    let l = c.loop-r in
    regions-done _ (region_length c.args.markets) 12 l.buffer _ _ _ l.r (omega arith) l.invariant.2
