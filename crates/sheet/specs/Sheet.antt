-- The day sheet of an image, as text in ASCII. Assumes nothing.
use Rattle.std.specs.Prelude.{not, List, [], ◌∷◌, ◌++◌, ℕ, ◌/◌, ◌%◌, eqb, ltb, ℤ, pos, length, get_or}
use Rattle.laws.specs.Base.{pick}
use Rattle.laws.specs.Lists.{joined}
use Rattle.amount.specs.Text.{decimal, amount_text}
use Rattle.book.specs.declared.record.Book.{Book}
use Rattle.book.specs.Record.{markets_of, place_of}
use Rattle.head.specs.Counted.{market_count, count_at}
use Rattle.head.specs.Layout.{head_from}
use Rattle.image.specs.Loading.{ring_of, checked, book_from}

-- "region,market,counted,sum,administered", and byte 10
abbrev pub header : List ℕ
header =
    114 ∷ 101 ∷ 103 ∷ 105 ∷ 111 ∷ 110 ∷ 44 ∷ 109 ∷ 97 ∷ 114 ∷ 107 ∷ 101 ∷ 116 ∷ 44 ∷ 99 ∷ 111 ∷ 117 ∷ 110 ∷ 116 ∷ 101 ∷ 100 ∷ 44
    ∷ 115 ∷ 117 ∷ 109 ∷ 44 ∷ 97 ∷ 100 ∷ 109 ∷ 105 ∷ 110 ∷ 105 ∷ 115 ∷ 116 ∷ 101 ∷ 114 ∷ 101 ∷ 100 ∷ 10 ∷ []

-- a line: "Sum is in dollars, the last field the market's own period. Each line ends in byte 10". 44 is the comma
unfoldable pub line_of : ℕ → ℕ → ℕ → ℤ → ℕ → List ℕ
line_of region market counted sum administered =
    decimal region ++ (44 ∷ decimal market ++ (44 ∷ decimal counted ++ (44 ∷ amount_text sum ++ (44 ∷ decimal administered ++ (10 ∷ [])))))

-- the line of market q = region × M + market: the count is its region's, the sum and the period are its own
unfoldable pub line : Book → ℕ → List ℕ
line b q =
    let region = q / markets_of b.services in
    let market = q % markets_of b.services in
    line_of region market (count_at b q) (get_or b.sums (place_of region market) (pos 0)) (get_or b.marks (place_of region market) 0)

-- "After the header a line a market, region by region"
unfoldable pub lines : Book → List ℕ
lines b = header ++ joined (market_count b) 0 (line b)

-- "refused" and the number
unfoldable pub refused_text : ℕ → List ℕ
refused_text n = 114 ∷ 101 ∷ 102 ∷ 117 ∷ 115 ∷ 101 ∷ 100 ∷ 32 ∷ decimal n ++ (10 ∷ [])

-- "an image of at most 65,536 bytes .. (longer, or passing the image check with R × M × W above 16,384: "refused 29";
-- otherwise "refused" and the load's number)"
unfoldable pub sheet_of : List ℕ → List ℕ
sheet_of bytes =
    pick (ltb 65536 (length bytes)) (refused_text 29)
    (pick (not (eqb (checked bytes) 0)) (refused_text (checked bytes))
    (pick (ltb 16384 (ring_of (head_from bytes))) (refused_text 29)
    (lines (book_from bytes))))
