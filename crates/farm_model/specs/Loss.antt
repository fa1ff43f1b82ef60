-- Connections that end: one node after the other learns it.
use Rattle.std.specs.Prelude.{◌≡◌, Bool, not, ◌||◌, List, [], ◌∷◌, ◌++◌, filter, map, MatchBool, Option, Some, None}
use Rattle.std.specs.List.{find}
use Rattle.dia_base.specs.declared.number.ConnId.{ConnId}
use Rattle.dia_base.specs.declared.number.NodeNo.{NodeNo}
use Rattle.front_core.specs.FrontState.{FrontState}
use Rattle.front_core.specs.FrontStep.{without_connection}
use Rattle.relay_core.specs.declared.run.RelayEvent.TheVariants.{Lost}
use Rattle.relay_core.specs.RelayState.{RelayState}
use Rattle.farm_model.specs.declared.state.Direction.{Direction}
use Rattle.farm_model.specs.declared.state.FrontAt.{FrontAt}
use Rattle.farm_model.specs.declared.state.RelayAt.{RelayAt}
use Rattle.farm_model.specs.Arrival.{AtRelay}
use Rattle.farm_base.specs.Nodes.{is_node}
use Rattle.farm_model.specs.World.{WorldState, is_between, without_end, emptied, with_front, front_at, with_relay, relay_at}

-- a node is to learn that a connection of it has ended
pub record Loss : Type 0 where
  pub node : NodeNo
  pub conn : ConnId

-- ---- one node learns it

-- a front forgets the connection, a relay sends again what it sent on it, and a client does nothing
abbrev pub LearnsLoss : WorldState → Loss → Option FrontState → WorldState → Type 0
LearnsLoss w loss (Some front) next = next ≡ record w { fronts = with_front loss.node (without_connection front loss.conn) w.fronts }
LearnsLoss w loss None next = AtRelay w loss.node (Lost loss.conn) (relay_at loss.node w.relays) next

-- the farm as it is before a node learns it
pub record LossAt : Type 0 where
  pub loss : Loss
  pub before : WorldState

-- one node after the other learns it
pub data LearnLosses : List Loss → WorldState → List LossAt → WorldState → Type 0 where
  all_know : {w : WorldState} → LearnLosses [] w [] w
  learns : {loss : Loss} {losses : List Loss} {w next last : WorldState} {later : List LossAt} → LearnsLoss w loss (front_at loss.node w.fronts) next →
      LearnLosses losses next later last →
      LearnLosses (loss ∷ losses) w (record { loss = loss; before = w } ∷ later) last

-- ---- one end goes

-- nothing on the connection comes to the node any more
abbrev pub after_end : WorldState → NodeNo → ConnId → WorldState
after_end w node conn = record w { directions = without_end node conn w.directions }

-- The end of a node goes, in which this direction comes to it, with what is on its way there. Where the node knew the
-- connection, it learns that it has ended; where it did not know it yet, nothing else happens.
abbrev pub EndGoes : WorldState → NodeNo → Option Direction → List LossAt → WorldState → Type 0
EndGoes w node None losses next = (losses ≡ []) × (next ≡ w)
EndGoes w node (Some direction) losses next =
    MatchBool direction.known
    (LearnLosses (record { node = node; conn = direction.conn } ∷ []) (after_end w node direction.conn) losses next)
    ((losses ≡ []) × (next ≡ after_end w node direction.conn))

-- the node's end of what it has with the other one, if it has not dropped it
abbrev pub end_with : List Direction → NodeNo → NodeNo → Option Direction
end_with directions a b = find (is_between b a) directions

abbrev pub Drops : WorldState → NodeNo → NodeNo → List LossAt → WorldState → Type 0
Drops w a b losses next = EndGoes w a (end_with w.directions a b) losses next

-- ---- a connection is cut

-- nothing is in flight between the two any more
abbrev pub after_losing_all : WorldState → NodeNo → NodeNo → WorldState
after_losing_all w a b = record w { directions = map (emptied a b) w.directions }

-- then the one drops it, and then the other
pub record CutsBoth (w : WorldState) (a b : NodeNo) (losses : List LossAt) (next : WorldState) : Type 0 where
  pub first : List LossAt
  pub second : List LossAt
  pub middle : WorldState
  pub one : Drops (after_losing_all w a b) a b first middle
  pub other : Drops middle b a second next
  pub both : losses ≡ first ++ second

-- ---- a node begins anew

abbrev pub touches : NodeNo → Direction → Bool
touches node direction = is_node direction.from node || is_node direction.to node

-- whom it has connections with that they have not dropped, in the order of these
abbrev pub peers_of : NodeNo → List Direction → List NodeNo
peers_of node directions = map (λ direction. direction.to) (filter (λ direction. is_node direction.from node) directions)

abbrev pub with_restart_of_front : NodeNo → List FrontAt → Option FrontState → List FrontAt
with_restart_of_front node fronts None = fronts
with_restart_of_front node fronts (Some front) = with_front node (Rattle.front_core.specs.FrontStep.after_restart front) fronts

abbrev pub with_restart_of_relay : NodeNo → List RelayAt → Option RelayState → List RelayAt
with_restart_of_relay node relays None = relays
with_restart_of_relay node relays (Some relay) = with_relay node (Rattle.relay_core.specs.Connecting.after_restart relay) relays

-- its ends are gone, with what is on its way to it, and all that it held
abbrev pub after_crash : WorldState → NodeNo → WorldState
after_crash w node = record w {
  directions = filter (λ direction. not (is_node direction.to node)) w.directions;
  fronts = with_restart_of_front node w.fronts (front_at node w.fronts);
  relays = with_restart_of_relay node w.relays (relay_at node w.relays);
}

-- one peer after the other drops its connection with the node
pub data DropAll (node : NodeNo) : List NodeNo → WorldState → List LossAt → WorldState → Type 0 where
  all_dropped : {w : WorldState} → DropAll node [] w [] w
  drops_too : {peer : NodeNo} {peers : List NodeNo} {w next last : WorldState} {losses : List LossAt} (now later : List LossAt) → losses ≡ now ++ later →
      Drops w peer node now next → DropAll node peers next later last → DropAll node (peer ∷ peers) w losses last
