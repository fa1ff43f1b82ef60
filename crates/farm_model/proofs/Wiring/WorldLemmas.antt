-- Directions, fronts and relays of the farm, by place and by node.
use Rattle.std.proofs.Common.{◌≡◌, ℕ, true, not, List, [], ◌∷◌, ◌++◌, get_or, Some, refl, sym, ap, ◌∙◌}
use Rattle.std.specs.Prelude.{slice_set, option_map}
use Rattle.std.specs.List.{find}
use Rattle.std.proofs.lemmas.Bool.{and_parts}
use Rattle.dia_base.specs.declared.number.ConnId.{ConnId}
use Rattle.dia_base.specs.declared.number.NodeNo.{NodeNo}
use Rattle.dia_base.proofs.Finding.{found_passes}
use Rattle.dia_message.specs.declared.message.Message.{Message}
use Rattle.dia_message.specs.Traffic.{Traffic}
use Rattle.front_core.specs.FrontState.{FrontState}
use Rattle.relay_core.specs.RelayState.{RelayState}
use Rattle.farm_law.specs.Lists.{Has}
use Rattle.farm_model.specs.declared.state.Direction.{Direction}
use Rattle.farm_model.specs.declared.state.FrontAt.{FrontAt}
use Rattle.farm_model.specs.declared.state.RelayAt.{RelayAt}
use Rattle.farm_base.specs.Lists.{IsFirst}
use Rattle.farm_base.specs.Nodes.{is_node}
use Rattle.farm_model.specs.World.{is_between, with_message_from, with_traffic_from, is_front_at, with_front, front_at, is_relay_at, with_relay}
use Rattle.farm_model.specs.World.{relay_at, is_on, is_outward, is_heard, is_unheard, conn_known}
use Rattle.farm_model.proofs.Lists.Finding.{Has-found, found_mapped}
use Rattle.farm_model.proofs.Lists.ListLemmas.{first_item}
use Rattle.farm_model.proofs.Lists.Numbering.{same_node, same_conn}

-- ---- directions

pub direction_nodes : (from to : NodeNo) (direction : Direction) → is_between from to direction ≡ true → (direction.from ≡ from) × (direction.to ≡ to)
direction_nodes from to direction e =
    let parts = and_parts (is_node direction.from from) (is_node direction.to to) e in
    (same_node direction.from from parts.0, same_node direction.to to parts.1)

-- messages that are heard, or not yet, go between two nodes
pub heard_between : (from to : NodeNo) (direction : Direction) → is_heard from to direction ≡ true → is_between from to direction ≡ true
heard_between from to direction e = (and_parts (is_between from to direction) direction.known e).0

pub unheard_between : (from to : NodeNo) (direction : Direction) → is_unheard from to direction ≡ true → is_between from to direction ≡ true
unheard_between from to direction e = (and_parts (is_between from to direction) (not direction.known) e).0

-- the first direction to a node that knows its connection with the other one
pub direction_known : (directions : List Direction) (a b : NodeNo) (conn : ConnId) → conn_known directions a b ≡ Some conn → (direction : Direction) ×
    (find (is_heard b a) directions ≡ Some direction) × (direction.conn ≡ conn)
direction_known directions a b conn e = found_mapped (λ (direction : Direction). direction.conn) (is_heard b a) directions e

pub outward_is : (node : NodeNo) (conn : ConnId) (direction : Direction) → is_outward node conn direction ≡ true → (direction.from ≡ node) ×
    (direction.conn ≡ conn)
outward_is node conn direction e =
    let parts = and_parts (is_node direction.from node) (is_on conn direction) e in
    (same_node direction.from node parts.0, same_conn direction.conn conn parts.1)

-- one after the other
pub with_traffic_from-more : (node : NodeNo) (directions : List Direction) (items more : Traffic) → with_traffic_from node directions (items ++ more) ≡
    with_traffic_from node (with_traffic_from node directions items) more
with_traffic_from-more node directions [] more = refl
with_traffic_from-more node directions (item ∷ items) more = with_traffic_from-more node (with_message_from node directions item.0 item.1) items more

-- one message more
pub with_traffic_from-push : (node : NodeNo) (directions : List Direction) (items : Traffic) (conn : ConnId) (message : Message) → with_traffic_from node
    directions (items ++ (conn, message) ∷ []) ≡ with_message_from node (with_traffic_from node directions items) conn message
with_traffic_from-push node directions items conn message = with_traffic_from-more node directions items ((conn, message) ∷ [])

-- ---- who stands at a node

abbrev pub the_front : NodeNo → FrontState → FrontAt
the_front node front = record { node = node; front = front }

-- the front that is looked up
pub front_stands : (node : NodeNo) (fronts : List FrontAt) (front : FrontState) → front_at node fronts ≡ Some front → find (is_front_at node) fronts ≡ Some
    (the_front node front)
front_stands node fronts front looked =
    let found = found_mapped (λ (at : FrontAt). at.front) (is_front_at node) fronts looked in
    let at = found.0 in
    let same : at.node ≡ node = same_node at.node node (found_passes (is_front_at node) fronts at found.1) in
    found.1 ∙ ap (λ (n : NodeNo). Some (the_front n at.front)) same ∙ ap (λ (f : FrontState). Some (the_front node f)) found.2

-- and is among the fronts
pub front_among : (node : NodeNo) (fronts : List FrontAt) (front : FrontState) → front_at node fronts ≡ Some front → Has (the_front node front) fronts
front_among node fronts front looked = Has-found (is_front_at node) fronts (front_stands node fronts front looked)

pub relay_stands : (node : NodeNo) (relays : List RelayAt) (relay : RelayState) → relay_at node relays ≡ Some relay → find (is_relay_at node) relays ≡ Some
    (record { node = node; relay = relay })
relay_stands node relays relay e =
    let found = found_mapped (λ (at : RelayAt). at.relay) (is_relay_at node) relays e in
    let at = found.0 in
    let same : at.node ≡ node = same_node at.node node (found_passes (is_relay_at node) relays at found.1) in
    found.1 ∙ ap (λ (n : NodeNo). Some (record { node = n; relay = at.relay })) same ∙ ap (λ (r : RelayState). Some (record { node = node; relay = r })) found.2

pub relay_among : (node : NodeNo) (relays : List RelayAt) (relay : RelayState) → relay_at node relays ≡ Some relay → Has
    (record { node = node; relay = relay }) relays
relay_among node relays relay e = Has-found (is_relay_at node) relays (relay_stands node relays relay e)

-- ---- the front at a place that was found, and the list with that front changed

pub front_found : (node : NodeNo) (fronts : List FrontAt) (place : ℕ) (at : FrontAt) → IsFirst (is_front_at node) fronts place → at ≡ get_or fronts place at →
    front_at node fronts ≡ Some at.front
front_found node fronts place at first read = ap (option_map (λ (f : FrontAt). f.front)) (first_item (is_front_at node) fronts place at first read)

pub front_changed : (node : NodeNo) (fronts : List FrontAt) (place : ℕ) (at : FrontAt) (front : FrontState) → IsFirst (is_front_at node) fronts place → at ≡
    get_or fronts place at
    → slice_set fronts place (record { node = at.node; front = front }) ≡ with_front node front fronts
front_changed node fronts place at front first read =
    let passes = found_passes (is_front_at node) fronts at (first_item (is_front_at node) fronts place at first read) in
    let same : at.node ≡ node = same_node at.node node passes in
    ap (λ (n : NodeNo). slice_set fronts place (record { node = n; front = front })) same ∙ sym (first.change (record { node = node; front = front }))

-- ---- the same for relays

pub relay_found : (node : NodeNo) (relays : List RelayAt) (place : ℕ) (at : RelayAt) → IsFirst (is_relay_at node) relays place → at ≡ get_or relays place at →
    relay_at node relays ≡ Some at.relay
relay_found node relays place at first read = ap (option_map (λ (r : RelayAt). r.relay)) (first_item (is_relay_at node) relays place at first read)

pub relay_changed : (node : NodeNo) (relays : List RelayAt) (place : ℕ) (at : RelayAt) (relay : RelayState) → IsFirst (is_relay_at node) relays place → at ≡
    get_or relays place at
    → slice_set relays place (record { node = at.node; relay = relay }) ≡ with_relay node relay relays
relay_changed node relays place at relay first read =
    let passes = found_passes (is_relay_at node) relays at (first_item (is_relay_at node) relays place at first read) in
    let same : at.node ≡ node = same_node at.node node passes in
    ap (λ (n : NodeNo). slice_set relays place (record { node = n; relay = relay })) same ∙ sym (first.change (record { node = node; relay = relay }))
