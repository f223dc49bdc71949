-- Words of the functions between `store`, `load` and the prices. The promises of `store` and `load` do not speak of these. Assumes
-- nothing.
use Rattle.std.specs.Prelude.{◌≡◌, List, ℕ, ◌<◌, ltb, ℤ, Option, Some, None}
use Rattle.laws.specs.Base.{pick}
use Rattle.pricing.specs.Verdict.{Verdict, accepted, refused_at}
use Rattle.book.specs.declared.record.Book.{Book}
use Rattle.head.specs.Counted.{market_count, how_many}
use Rattle.image.specs.Loading.{bad_from}

-- number i is read as prices i, of the first n: `post` says what a reading may give
abbrev pub Reads : (ℕ → ℤ → Type 0) → ℕ → (ℕ → ℤ) → Type 0
Reads post n prices = (i : ℕ) (z : ℤ) → i < n → post i z → z ≡ prices i

-- of n, the one at place i, or none where i is n
abbrev pub found : ℕ → ℕ → Option ℕ
found n i = pick (ltb i n) (Some i) None

-- 16, of an image of this book whose prices start at a place
abbrev pub price_verdict : Book → List ℕ → ℕ → Verdict
price_verdict b bytes from =
    pick (ltb (bad_from b bytes from (market_count b) 0 0) (how_many b)) (refused_at 16 (bad_from b bytes from (market_count b) 0 0)) accepted
