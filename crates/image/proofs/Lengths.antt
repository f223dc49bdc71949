-- How long a head, the counted prices and an image are. Assumes nothing.
use mathlib.Core.Path.{◌≡◌, refl, sym, ap, ◌∙◌}
use mathlib.Core.Bool.{Bool, true, false}
use mathlib.Core.List.{List, ◌++◌}
use Prim.Native.Nat.{ℕ, ◌+◌}
use native.Mathlib.Omega.{arith}
use lib.IntN.{ℤ}
use lib.ListN.{length, length-append}
use Rattle.laws.specs.Bytes.{encode, words}
use Rattle.laws.proofs.Lists.{length_run}
use Rattle.laws.proofs.Fields.{length-encode}
use Rattle.laws.proofs.Joined.{length-joined}
use Rattle.laws.proofs.Words.{length-words}
use Rattle.book.specs.declared.record.Book.{Book}
use Rattle.book.proofs.Validities.{Valid}
use Rattle.head.specs.Counted.{market_count, count_at, in_order, counted}
use Rattle.head.specs.Layout.{widths, kind_of, head_size, length_of, values, tail_of, image_of}
use Rattle.image.proofs.Readings.{before}
use Rattle.image.proofs.Markets.{prices-are}
use Rattle.head.proofs.Heads.{widths-length, widths-size, values_length}
use Rattle.head.proofs.Tails.{tail-length}
use Rattle.image.proofs.Typed.{Typed}

pub head-length : (n kind : ℕ) (b : Book) → Typed b → length (encode widths (values n kind b)) ≡ 148
head-length n kind b t =
    length-encode widths (values n kind b) (widths-length ∙ sym (values_length n kind b t.parents t.counts t.marks)) ∙ widths-size

pub front_length : (second : Bool) (b : Book) → 148 + length (tail_of second b) ≡ head_size second
front_length true b = ap (λ (n : ℕ). 148 + n) (tail-length b)
front_length false b = refl

pub length-counted : (b : Book) (ring : List ℤ) → length (counted b ring) ≡ before b (market_count b)
length-counted b ring = length-joined (in_order b ring) (count_at b) (market_count b) 0 (λ q x y. length_run _ (count_at b q) 0)

pub length-image : (second : Bool) (b : Book) (ring : List ℤ) → Valid b → length (encode widths (values (length_of second b) (kind_of second) b)) ≡ 148 → length (image_of second b ring) ≡ length_of second b
unfolding image_of
length-image second b ring v e =
    length-append (encode widths (values (length_of second b) (kind_of second) b)) (tail_of second b ++ words (counted b ring))
    ∙ omega (arith, length-append (tail_of second b) (words (counted b ring)), front_length second b, length-words (counted b ring), length-counted b ring, prices-are b v)
