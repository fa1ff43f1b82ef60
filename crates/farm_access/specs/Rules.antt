-- Which nodes may come up: those that have connected, by their address and their side, and those that were connected to, by
-- the name that they answer with (RFC 6733, section 5.3).
use Rattle.std.specs.Prelude.{ℕ, ◌+◌, ◌==◌, ◌&&◌, ◌||◌, Bool, true, false, not, List, [], ◌∷◌, ◌++◌, Option, Some, None, slice_get}
use Rattle.std.specs.List.{list_any}
use Rattle.std.specs.declared.net.ip_addr.IpAddr.{IpAddr}
use Rattle.dia_base.specs.declared.number.NodeNo.{NodeNo}
use Rattle.farm_access.specs.declared.coming.AddressRule.{AddressRule}
use Rattle.farm_access.specs.declared.coming.AddressRule.TheVariants.{Any, Within}
use Rattle.farm_access.specs.declared.coming.Coming.{Coming}
use Rattle.farm_access.specs.declared.coming.Coming.TheVariants.{Connects, Answers}
use Rattle.farm_access.specs.declared.strict.Strictness.{Strictness}
use Rattle.farm_access.specs.Prefixes.{contains}

-- what a site says of who may come up: from where each node may connect, by its number, and what it asks for beyond that
pub record Policy : Type 0 where
  pub rules : List AddressRule
  pub strict : Strictness

-- ---- by addresses

abbrev pub permits : AddressRule → IpAddr → Bool
permits Any address = true
permits (Within prefixes) address = list_any (λ prefix. contains prefix address) prefixes

-- the site says from where the node connects
abbrev pub has_addresses : AddressRule → Bool
has_addresses Any = false
has_addresses (Within prefixes) = true

-- ---- the rule

-- A node that has connected comes from where it may. Where the site holds to names, one that it does not have as the side that
-- connects has addresses of its own besides.
abbrev pub may_connect : Strictness → AddressRule → IpAddr → Bool → Bool
may_connect strict rule address is_caller = permits rule address && (not strict.names || is_caller || has_addresses rule)

-- A node that was connected to answers. Where the site holds to names, its answer names it.
abbrev pub may_answer : Strictness → Bool → Bool
may_answer strict is_named = not strict.names || is_named

abbrev pub may_connect_if : Strictness → Option AddressRule → IpAddr → Bool → Bool
may_connect_if strict None address is_caller = false
may_connect_if strict (Some rule) address is_caller = may_connect strict rule address is_caller

-- the node may come up that comes so
abbrev pub may_come_up : Policy → NodeNo → Coming → Bool
may_come_up policy node (Connects address is_caller) = may_connect_if policy.strict (slice_get policy.rules node.0) address is_caller
may_come_up policy node (Answers is_named) = may_answer policy.strict is_named

-- ---- who may not

abbrev pub is_among : List NodeNo → ℕ → Bool
is_among nodes place = list_any (λ node. node.0 == place) nodes

abbrev pub barred_unless : Bool → ℕ → List NodeNo
barred_unless true place = []
barred_unless false place = record { 0 = place } ∷ []

-- of the nodes of these rules, from a place on, those that may not come up that connect from the address; the callers are those
-- that the site has as the side that connects
abbrev pub barred_from : Strictness → List NodeNo → ℕ → List AddressRule → IpAddr → List NodeNo
barred_from strict callers place [] address = []
barred_from strict callers place (rule ∷ rules) address =
    barred_unless (may_connect strict rule address (is_among callers place)) place ++ barred_from strict callers (place + 1) rules address
