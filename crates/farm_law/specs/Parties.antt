-- What stays the same while a farm runs: what its nodes are and are called, and which client a connection has.
use Rattle.std.specs.Prelude.{ℕ, Bool, List}
use Rattle.dia_base.specs.declared.number.ConnId.{ConnId}
use Rattle.dia_base.specs.declared.number.NodeNo.{NodeNo}
use Rattle.dia_grammar.specs.Profile.{RequestProfile}
use Rattle.front_core.specs.declared.site.FrontSite.{FrontSite}

pub record Parties : Type 0 where
  pub is_client : NodeNo → Bool
  pub is_relay : NodeNo → Bool
  pub is_front : NodeNo → Bool
  -- the two are linked
  pub is_linked : NodeNo → NodeNo → Bool
  -- the identity of a node (RFC 6733, section 4.3.1)
  pub name_of : NodeNo → List ℕ
  -- the Origin-Realm of each relay and front, and what fronts know and tolerate
  pub realm : List ℕ
  pub profile : RequestProfile
  -- what a front of an identity is configured with
  pub front_site : List ℕ → FrontSite
  -- the client of a connection that has one, and the node at its other end
  pub client_on : ConnId → NodeNo
  pub server_on : ConnId → NodeNo
