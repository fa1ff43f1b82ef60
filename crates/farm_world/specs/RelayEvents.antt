-- An event at one of the relays of the farm.
use Rattle.std.specs.Prelude.{◌≡◌, ℕ, List, [], Option, Some, None}
use Rattle.dia_base.specs.declared.number.NodeNo.{NodeNo}
use Rattle.dia_message.specs.Traffic.{Traffic}
use Rattle.relay_core.specs.declared.run.RelayEvent.{RelayEvent}
use Rattle.relay_core.specs.RelayRun.{OnEvent}
use Rattle.relay_core.specs.RelayState.{RelayState, with_next}
use Rattle.farm_model.specs.declared.state.RelayAt.{RelayAt}
use Rattle.farm_model.specs.World.{with_relay}

-- The relay that is the node, if there is one, does what it may do at the event. None sends nothing.
abbrev pub RelayReacts : NodeNo → RelayEvent → List RelayAt → Option RelayState → Traffic → List RelayAt → Type 0
RelayReacts node event relays None sent next = (sent ≡ []) × (next ≡ relays)
RelayReacts node event relays (Some relay) sent next = (after : RelayState) × OnEvent relay event sent after × (next ≡ with_relay node after relays)

-- the relay that is the node, if there is one, gives identifiers from this start
abbrev pub with_start_of_relay : NodeNo → ℕ → List RelayAt → Option RelayState → List RelayAt
with_start_of_relay node start relays None = relays
with_start_of_relay node start relays (Some relay) = with_relay node (with_next start relay) relays
