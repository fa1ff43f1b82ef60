-- What an event leaves, where a relay of the farm was changed in its place.
use Rattle.std.proofs.Common.{◌≡◌, ℕ, List, get_or, Option, sym, subst}
use Rattle.std.specs.Prelude.{slice_set}
use Rattle.dia_base.specs.declared.number.NodeNo.{NodeNo}
use Rattle.dia_message.specs.Traffic.{Traffic}
use Rattle.relay_core.specs.declared.run.RelayEvent.{RelayEvent}
use Rattle.relay_core.specs.RelayRun.{OnEvent}
use Rattle.relay_core.specs.RelayState.{RelayState}
use Rattle.farm_model.specs.declared.state.RelayAt.{RelayAt}
use Rattle.farm_base.specs.Lists.{IsFirst}
use Rattle.farm_model.specs.World.{is_relay_at, relay_at}
use Rattle.farm_model.proofs.Wiring.WorldLemmas.{relay_found, relay_changed}
use Rattle.farm_world.specs.RelayEvents.{RelayReacts}

-- the relay at a place does what it may do at the event
pub relay_takes : (node : NodeNo) (event : RelayEvent) (relays : List RelayAt) (place : ℕ) (part : RelayAt) (relay : RelayState) (sent : Traffic) → IsFirst (is_relay_at node) relays place → part ≡ get_or relays place part
    → OnEvent part.relay event sent relay → RelayReacts node event relays (relay_at node relays) sent (slice_set relays place (record { node = part.node; relay = relay }))
relay_takes node event relays place part relay sent first read does =
    subst (λ (o : Option RelayState). RelayReacts node event relays o sent (slice_set relays place (record { node = part.node; relay = relay }))) (sym (relay_found node relays place part first read))
    (relay, does, relay_changed node relays place part relay first read)
