-- The links of a network with their flows and factors at an interval. Assumes nothing.
use Rattle.std.specs.Prelude.{◌≡◌, List, ℕ, ◌≤◌, ◌<◌, ℤ, length}
use Rattle.routes.specs.declared.Network.{Network}

pub record Lent : Type 0 where
  pub network : Network
  pub flows : List ℤ
  pub factors : List ℕ

-- what the table of powers is made from: a place of flows and factors for each region, and a last one for the additional link
pub record LentLinks (n : Network) (flows : List ℤ) (factors : List ℕ) : Type 0 where
  pub few : n.regions ≤ 8
  pub each : n.regions ≤ length flows
  pub last : (n.from ≡ 255 → ⊥) → n.regions < length flows
  pub alike : length factors ≡ length flows
