-- What 11 says where it was passed: the length of each slice. Assumes nothing.
use mathlib.Core.Path.{◌≡◌}
use mathlib.Core.Bool.{Bool, true, ◌&&◌}
use borrow.Author.Tests.{eqb-true}
use lib.Dec.{eqb}
use lib.ListN.{length}
use Rattle.laws.proofs.Tests.{and_left, and_right}
use Rattle.book.specs.declared.record.Book.{Book}
use Rattle.book.specs.Record.{table_size, link_count}
use Rattle.interval_records.specs.Layout.{Interval}
use Rattle.intervals.specs.Lent.{slices_ok}

module _ (b : Book) (v : Interval) (e : slices_ok b v ≡ true) where
  abbrev p : Bool
  p = eqb (length v.prices) (table_size b.regions b.services)

  abbrev m : Bool
  m = eqb (length v.marked) b.regions

  abbrev f : Bool
  f = eqb (length v.flows) (link_count b)

  abbrev x : Bool
  x = eqb (length v.factors) (link_count b)

  pub prices-size : length v.prices ≡ table_size b.regions b.services
  prices-size = eqb-true _ _ (and_left p m (and_left (p && m) f (and_left (p && m && f) x e)))

  pub marked-size : length v.marked ≡ b.regions
  marked-size = eqb-true _ _ (and_right p m (and_left (p && m) f (and_left (p && m && f) x e)))

  pub flows-size : length v.flows ≡ link_count b
  flows-size = eqb-true _ _ (and_right (p && m) f (and_left (p && m && f) x e))

  pub factors-size : length v.factors ≡ link_count b
  factors-size = eqb-true _ _ (and_right (p && m && f) x e)
