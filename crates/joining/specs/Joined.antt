-- The prices of an interval that join the windows: entry prices, and from a changeover on published energy. Assumes nothing.
use Rattle.std.specs.Prelude.{Bool, not, ◌&&◌, List, ℕ, ◌*◌, ◌/◌, ◌%◌, ℤ, pos, get_or}
use Rattle.laws.specs.Base.{pick}
use Rattle.laws.specs.Lists.{tabulate}
use Rattle.pricing.specs.Holding.{is_energy}
use Rattle.publishing.specs.declared.Terms.{Terms}
use Rattle.publishing.specs.Entry.{Offer, Entry, offer_of}
use Rattle.publishing.specs.Capped.{administered}
use Rattle.publishing.specs.Published.{published_at}

-- place q = region × M + market: "an unmarked region whose energy isn't administered at that interval puts its published energy price in the
-- window .. services and administered regions keep entry prices"
abbrev pub joined_at : Terms → List ℕ → Entry → ℕ → ℤ
joined_at t marks e q =
    pick (is_energy (q % t.markets) && not (administered marks (q / t.markets) 0)) (published_at t marks e q) (get_or e.offer.prices q (pos 0))

-- the prices, once the changeover is reached and before
abbrev pub joined_prices : Bool → Terms → List ℕ → Entry → List ℤ
joined_prices reached t marks e = pick reached (tabulate (t.regions * t.markets) (joined_at t marks e)) e.offer.prices

-- what steps 5 and 6 take of an entry: its marks, and these prices
abbrev pub joined : Bool → Terms → List ℕ → Entry → Offer
joined reached t marks e = offer_of e.offer.kind (joined_prices reached t marks e) e.offer.marked e.offer.schedule
