-- The farm as messages on their way and requests that relays await answers for. `ends` are the connections of the
-- whole run, so that who is at the other end of one never changes.
use Rattle.std.proofs.Common.{ℕ, ◌-◌, Bool, not, List, [], ◌∷◌, ◌++◌, length, map, Option, Some, None}
use Rattle.std.specs.Prelude.{◌&&◌, nat_le, flat_map, slice_get, unwrap_or, if◌then◌else◌}
use Rattle.std.specs.List.{list_any}
use Rattle.dia_base.specs.declared.number.ConnId.{ConnId}
use Rattle.dia_base.specs.declared.number.NodeNo.{NodeNo}
use Rattle.dia_message.specs.declared.message.Message.{Message}
use Rattle.front_core.specs.declared.worker.Job.{Job}
use Rattle.front_core.specs.declared.worker.Worker.{Worker}
use Rattle.front_core.specs.declared.worker.Worker.TheVariants.{Idle, Picked, Done}
use Rattle.relay_hops.specs.declared.row.Origin.{Origin}
use Rattle.relay_hops.specs.declared.row.Row.{Row}
use Rattle.farm_law.specs.Farm.{Item, Asker, PendingRow, Refused, Farm}
use Rattle.farm_law.specs.Moves.{Moves}
use Rattle.farm_law.specs.Parties.{Parties}
use Rattle.farm_base.specs.declared.site.Site.{Site}
use Rattle.farm_base.specs.FrontProfile.{front_profile}
use Rattle.farm_model.specs.declared.state.Direction.{Direction}
use Rattle.farm_model.specs.declared.state.FrontAt.{FrontAt}
use Rattle.farm_model.specs.declared.state.RelayAt.{RelayAt}
use Rattle.farm_base.specs.Nodes.{is_node, is_client, is_front, is_relay, is_linked, name_at}
use Rattle.farm_model.specs.Run.{front_site}
use Rattle.farm_model.specs.World.{Ends, WorldState, is_inward}
use Rattle.farm_model.proofs.OwnCauses.Refusing.{HasRefused}

-- ---- who is at the ends of a connection

abbrev pub ends_of : Ends → ConnId → NodeNo × NodeNo
ends_of ends conn = unwrap_or (slice_get ends (conn.0 - 1)) (record { 0 = 0 }, record { 0 = 0 })

abbrev pub other_in : NodeNo × NodeNo → NodeNo → NodeNo
other_in nodes node = if is_node nodes.0 node then nodes.1 else nodes.0

abbrev pub other_end : Ends → ConnId → NodeNo → NodeNo
other_end ends conn node = other_in (ends_of ends conn) node

abbrev pub client_in : Site → NodeNo × NodeNo → NodeNo
client_in site nodes = if is_client site nodes.0 then nodes.0 else nodes.1

abbrev pub server_in : Site → NodeNo × NodeNo → NodeNo
server_in site nodes = if is_client site nodes.0 then nodes.1 else nodes.0

abbrev pub parties : Site → Ends → Parties
parties site ends = record {
  is_client = is_client site;
  is_relay = is_relay site;
  is_front = is_front site;
  is_linked = is_linked site;
  name_of = name_at site;
  realm = site.realm;
  profile = front_profile site;
  front_site = front_site site;
  client_on = λ conn. client_in site (ends_of ends conn);
  server_on = λ conn. server_in site (ends_of ends conn);
}

-- ---- messages on their way

abbrev pub in_flight : Direction → Message → Item
in_flight direction message = record { conn = direction.conn; from = direction.from; to = direction.to; message = message }

abbrev pub flights : Direction → List Item
flights direction = map (in_flight direction) direction.messages

abbrev pub flights_in : List Direction → List Item
flights_in directions = flat_map flights directions

-- a message that came to a node, and one that goes from it
abbrev pub come_to : Ends → NodeNo → ConnId → Message → Item
come_to ends node conn message = record { conn = conn; from = other_end ends conn node; to = node; message = message }

abbrev pub gone_from : Ends → NodeNo → ConnId → Message → Item
gone_from ends node conn message = record { conn = conn; from = node; to = other_end ends conn node; message = message }

abbrev pub waiting : Ends → NodeNo → Job → Item
waiting ends node job = come_to ends node job.conn job.request

abbrev pub held_by : Ends → NodeNo → Worker → List Item
held_by ends node Idle = []
held_by ends node (Picked conn message) = come_to ends node conn message ∷ []
held_by ends node (Done conn answer) = gone_from ends node conn answer ∷ []

abbrev pub items_at : Ends → FrontAt → List Item
items_at ends at = map (waiting ends at.node) at.front.queue ++ flat_map (held_by ends at.node) at.front.workers

abbrev pub items_of : Ends → List Direction → List FrontAt → List Item
items_of ends directions fronts = flights_in directions ++ flat_map (items_at ends) fronts

-- ---- what relays await answers for

abbrev pub asker_of : Ends → NodeNo → Option Origin → Option Asker
asker_of ends node None = None
asker_of ends node (Some origin) = Some (record { conn = origin.conn; node = other_end ends origin.conn node; hop = origin.hop })

abbrev pub pending_of : Ends → NodeNo → Row → PendingRow
pending_of ends node row = record { relay = node; conn = row.conn; asker = asker_of ends node row.held.origin; request = row.held.request }

abbrev pub rows_at : Ends → RelayAt → List PendingRow
rows_at ends at = map (pending_of ends at.node) at.relay.pending.rows

abbrev pub rows_of : Ends → List RelayAt → List PendingRow
rows_of ends relays = flat_map (rows_at ends) relays

-- ---- the farm

-- the connection was made, and nothing on it comes to the node any more
abbrev pub has_ended_in : Ends → List Direction → NodeNo → ConnId → Bool
has_ended_in made directions node conn = nat_le 1 conn.0 && nat_le conn.0 (length made) && not (list_any (is_inward node conn) directions)

abbrev pub farm_of : Ends → List Refused → WorldState → Farm
farm_of ends refused w = record {
  items = items_of ends w.directions w.fronts;
  rows = rows_of ends w.relays;
  has_ended = has_ended_in w.ends w.directions;
  book = w.book;
  refused = refused;
  sent = w.sent;
  received = w.received;
}

-- Moves lead from a farm to the one that is seen in a state, and each request that is refused at them has its cause. `most` bounds how
-- often a node refuses what stood under one identifier.
pub record LeadsTo (p : Parties) (ends : Ends) (HasReason : Refused → Type 0) (most : NodeNo → ℕ) (old : Farm) (next : WorldState) : Type 0 where
  pub refused : List Refused
  pub moves : Moves p old (farm_of ends refused next)
  pub caused : HasRefused HasReason most old.refused refused
