-- What an interval's prices are made from, before its links. Assumes nothing.
use Rattle.std.specs.Prelude.{List, ℕ}
use Rattle.publishing.specs.declared.Terms.{Terms}
use Rattle.publishing.specs.Entry.{Offer}

-- the terms and the period marks before the entry, and what the entry offers
pub record Basis : Type 0 where
  pub terms : Terms
  pub marks : List ℕ
  pub offer : Offer
