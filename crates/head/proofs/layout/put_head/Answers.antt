-- `head::layout::put_head` meets its contract: five parts, put one after the other. Assumes nothing.
use mathlib.Core.Path.{◌≡◌, sym}
use Prim.Native.Nat.{ℕ, ◌+◌, ◌<◌, ◌≤◌}
use native.Mathlib.Omega.{arith}
use lib.ListN.{length, get_or}
use mir.Syntax.{w8, w32, w64}
use mir.Val.{Fits, SFits}
use mir.Facts.{to_z-of_z}
use borrow.Author.Rules.{rules}
use Rattle.codec.proofs.Turns.{copied}
use Rattle.head.specs.Layout.{kind_of}
use Rattle.head.proofs.Fronts.{firsts-puts, seconds-puts, head-puts, head-long}
use Rattle.head.proofs.layout.put_head.Goals as goal

pub returns : goal.returns
returns c =
    let a = c.args in
    let b = c.args.book in
    let p : length b.parents ≡ 8 = search rules in
    let n : length b.counts ≡ 8 = search rules in
    let m : length b.marks ≡ 88 = search rules in
    let pb : (i : ℕ) → get_or b.parents i 0 < 256 = λ i. (let f : Fits w8 (get_or b.parents i 0) = search rules in omega (arith, f.fits)) in
    let mb : (i : ℕ) → get_or b.marks i 0 < 256 = λ i. (let f : Fits w8 (get_or b.marks i 0) = search rules in omega (arith, f.fits)) in
    let t : SFits w64 b.threshold = search rules in
    let x : SFits w32 b.cap = search rules in
    let y : SFits w32 b.floor = search rules in
    let l₇ : 12 + 8 ≤ length c.put-7.new.bytes = search rules in
    let l₁₄ : 60 + 88 ≤ length c.put_counts.new.buffer = search rules in
    let first = firsts-puts a.size (kind_of a.second) b a.buffer.now _ _ _ _ _ _ _ _ c.kind_of.ensures c.put.ensures c.put-2.ensures c.put-3.ensures c.put-4.ensures
    c.put-5.ensures c.put-6.ensures c.put-7.ensures in
    let parents = copied c.put-7.new.bytes _ b.parents 12 8 (sym p) l₇ c.copy_from_slice.ensures.after in
    let middle = seconds-puts b _ _ _ _ _ _ _ _ _ _ (simp to_z-of_z at c.bits64.ensures) (simp to_z-of_z at c.bits32.ensures) (simp to_z-of_z at c.bits32-2.ensures) c.put-8.ensures
    c.put-9.ensures c.put-10.ensures c.put-11.ensures c.put-12.ensures c.put-13.ensures in
    let marks = copied c.put_counts.new.buffer _ b.marks 60 88 (sym m) l₁₄ c.copy_from_slice-2.ensures.after in record {
      buffer_after = head-puts a.size (kind_of a.second) b p n m pb mb a.buffer.now _ _ _ _ _ first parents middle c.put_counts.ensures marks;
      book_len = head-long a.size (kind_of a.second) b p n m pb mb;
    }
