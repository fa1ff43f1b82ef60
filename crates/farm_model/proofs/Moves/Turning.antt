-- A turn of a relay: the farm hangs together as before, and what is seen of it is what was sent and what is pending now.
use Rattle.std.proofs.Common.{◌≡◌, List, Some, sym, subst}
use Rattle.dia_base.specs.declared.number.NodeNo.{NodeNo}
use Rattle.dia_message.specs.Traffic.{Traffic}
use Rattle.relay_hops.specs.declared.row.Row.{Row}
use Rattle.relay_core.specs.RelayState.{RelayState, with_rows}
use Rattle.farm_law.specs.Farm.{PendingRow, Refused, Farm}
use Rattle.farm_law.specs.Lists.{Has}
use Rattle.farm_law.specs.Moves.{Moves, done, next as then_moves, ends as connections_end}
use Rattle.farm_law.specs.Parties.{Parties}
use Rattle.farm_base.specs.declared.site.Site.{Site}
use Rattle.farm_model.specs.declared.state.Direction.{Direction}
use Rattle.farm_model.specs.Arrival.{after_relay_turn}
use Rattle.farm_model.specs.World.{Ends, WorldState, with_traffic_from, with_relay, relay_at}
use Rattle.farm_model.proofs.Moves.AsFarm.{items_of, rows_of, has_ended_in, farm_of}
use Rattle.farm_model.proofs.Moves.Moving.{join}
use Rattle.farm_model.proofs.Moves.Posting.{traffic_wired}
use Rattle.farm_model.proofs.Moves.Sending.{traffic_ended}
use Rattle.farm_model.proofs.Wiring.Wired.{RelayIsWired, RowIsWired, IsWired}
use Rattle.farm_model.proofs.Wiring.WiredLemmas.{relays_wired, relays_alone}

-- the farm with these directions, rows and refusals
abbrev pub seen : Ends → WorldState → List Direction → List PendingRow → List Refused → Farm
seen ends w directions rows refused = record (farm_of ends refused w) { items = items_of ends directions w.fronts; rows = rows }

-- moves to what is seen after a turn are moves to the farm after it
pub turn_seen : (p : Parties) (ends : Ends) (old : Farm) (w : WorldState) (node : NodeNo) (sent : Traffic) (after : RelayState) (last : WorldState)
    (rows : List PendingRow) (refused : List Refused)
    → last ≡ after_relay_turn w node sent after → rows_of ends (with_relay node after w.relays) ≡ rows → Moves p old
    (seen ends w (with_traffic_from node w.directions sent) rows refused)
    → Moves p old (farm_of ends refused last)
turn_seen p ends old w node sent after last rows refused is rows_is moves =
    subst (λ (n : WorldState). Moves p old (farm_of ends refused n)) (sym is)
    (subst (λ (rs : List PendingRow). Moves p old (record (farm_of ends refused (after_relay_turn w node sent after)) { rows = rs })) (sym rows_is)
    (join moves (then_moves (connections_end (has_ended_in w.ends (with_traffic_from node w.directions sent)) (traffic_ended w.ends node w.directions sent))
    done)))

-- ---- wiring

-- the relay has other rows, which hang together
pub rows_wired : (site : Site) (ends made : Ends) (node : NodeNo) (relay : RelayState) (rows : List Row) → RelayIsWired site ends made node relay →
    ((row : Row) → Has row rows → RowIsWired site ends made node row)
    → RelayIsWired site ends made node (with_rows rows relay)
rows_wired site ends made node relay rows wired new = record { is_relay = wired.is_relay; node_is = wired.node_is; links = wired.links; rows = new }

pub turn_wired : (site : Site) (ends : Ends) (w : WorldState) (node : NodeNo) (relay : RelayState) (sent : Traffic) (after : RelayState) (last : WorldState)
    → IsWired site ends w → relay_at node w.relays ≡ Some relay → last ≡ after_relay_turn w node sent after → RelayIsWired site ends w.ends node after →
    IsWired site ends last
turn_wired site ends w node relay sent after last wired stands is new = subst (IsWired site ends) (sym is) (record {
  begins = wired.begins;
  directions = traffic_wired site ends w.ends node sent w.directions wired.directions;
  fronts = wired.fronts;
  relays = relays_wired node after wired.relays new;
  alone = relays_alone w.relays node relay after stands wired.alone;
})
