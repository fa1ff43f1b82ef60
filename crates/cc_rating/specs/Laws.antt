-- What the laws of rating speak of.
use Rattle.std.specs.Prelude.{◌≡◌, ℕ, ◌+◌, ◌*◌, ◌<◌, ◌≤◌, List, All, ◌&&◌, false, count_by, Option, is_some}
use Rattle.cc_rating.specs.declared.tariff.Tariff.{Tariff}
use Rattle.cc_rating.specs.Rating.{cost_of}
use Rattle.cc_rating.specs.Tariffs.{rates, AreInRange}

-- the cost is that of the fewest blocks which hold the units
pub record CostsFewestBlocks (tariff : Tariff) (units : ℕ) : Type 0 where
  pub blocks : ℕ
  pub cost : cost_of tariff units ≡ blocks * tariff.price
  pub enough : units ≤ blocks * tariff.block
  pub fewest : blocks * tariff.block < units + tariff.block

-- its key is not both a group and an identifier
abbrev pub HasOneKey : Tariff → Type 0
HasOneKey tariff = (is_some tariff.group && is_some tariff.ident) ≡ false

-- tariffs in their ranges, each for a group or for an identifier, and at most one of them for a service
pub record AreTariffs (tariffs : List Tariff) : Type 0 where
  pub ranges : AreInRange tariffs
  pub keys : All HasOneKey tariffs
  pub single : (group ident : Option ℕ) → count_by (rates group ident) tariffs ≤ 1
