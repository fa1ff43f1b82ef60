-- A delivery is moves of the farm, where one to a relay is.
use Rattle.std.proofs.Common.{◌≡◌, ℕ, Bool, true, false, List, Option, Some, None, refl, sym, subst}
use Rattle.std.specs.Prelude.{MatchBool}
use Rattle.dia_base.specs.declared.number.NodeNo.{NodeNo}
use Rattle.front_core.specs.FrontState.{FrontState}
use Rattle.relay_core.specs.declared.run.RelayEvent.TheVariants.{Received}
use Rattle.farm_law.specs.Farm.{Refused, Farm}
use Rattle.farm_base.specs.declared.site.Site.{Site}
use Rattle.farm_base.specs.declared.step.Step.TheVariants.{Deliver}
use Rattle.farm_model.specs.Arrival.{AtRelay, after_arrival_at_client, ArrivesAtServer, Arrives}
use Rattle.farm_model.specs.Cause.{at_front}
use Rattle.farm_model.specs.SoundSite.{IsSound}
use Rattle.farm_model.specs.FarmStep.{Flight, flight_at, Delivers}
use Rattle.farm_base.specs.Nodes.{is_client}
use Rattle.farm_model.specs.Run.{Transition}
use Rattle.farm_model.specs.World.{Ends, WorldState, front_at, relay_at}
use Rattle.farm_model.proofs.Moves.AsFarm.{items_of, farm_of}
use Rattle.farm_model.proofs.Moves.ClientSteps.{client_receives}
use Rattle.farm_model.proofs.Moves.FrontArrival.{front_receives}
use Rattle.farm_model.proofs.Moves.FrontRequests.{QueuesHoldRequests}
use Rattle.farm_model.proofs.Moves.StepGoes.{Reason, Goes, StepGoes, step_goes, idle_goes}
use Rattle.farm_model.proofs.Wiring.Taken.{IsTaken, taken, after_taken}
use Rattle.farm_model.proofs.Wiring.Wired.{IsWired}

-- the farm as it was, with the state in which the message is out of flight
abbrev pub without_flight : WorldState → Flight → WorldState
without_flight w flight = record w { directions = flight.directions }

abbrev pub farm_before : Ends → List Refused → WorldState → Flight → Farm
farm_before made refused w flight = record (farm_of made refused (without_flight w flight)) { items = items_of made w.directions w.fronts }

-- what a message that comes to a relay leads on to
abbrev pub RelayReceives : Site → Ends → Transition → List Refused → NodeNo → NodeNo → Flight → Type 0
RelayReceives site made t refused from to flight =
    IsTaken site made t.before from to flight → is_client site to ≡ false → front_at to t.before.fronts ≡ None → AtRelay (without_flight t.before flight) to
    (Received flight.conn flight.message) (relay_at to t.before.relays) t.after
    → Goes site made (Reason t) (farm_before made refused t.before flight) t.after

module _ (site : Site) (made : Ends) (t : Transition) (refused : List Refused) (from to : NodeNo) (place : ℕ) (checked : IsSound site)
    (step : t.step ≡ Deliver from to place) (wired : IsWired site made t.before) (requests : QueuesHoldRequests t.before.fronts) where
  module _ (flight : Flight) (flies : flight_at t.before.directions from to place ≡ Some flight)
      (relay_case : RelayReceives site made t refused from to flight) where
    abbrev Goes-on : Type 0
    Goes-on = Goes site made (Reason t) (farm_before made refused t.before flight) t.after

    is_taken : IsTaken site made t.before from to flight
    is_taken = taken site made t.before from to place wired flight flies

    to_server : (found : Option FrontState) → is_client site to ≡ false → front_at to t.before.fronts ≡ found → ArrivesAtServer
        (without_flight t.before flight) to flight.conn flight.message found t.after → Goes-on
    to_server None no_client looked is = relay_case is_taken no_client looked is
    to_server (Some front) no_client looked is =
        subst (Goes site made (Reason t) (farm_before made refused t.before flight)) (sym is)
        (front_receives site made refused (Reason t) (without_flight t.before flight) (items_of made t.before.directions t.before.fronts) from to flight.conn
        flight.message front is_taken.joins looked is_taken.out is_taken.wired requests
        (λ refusal cause. at_front front refusal (record { from = from; place = place; directions = flight.directions; step = step; flight = flies }) looked
        cause))

    to_any : (b : Bool) → is_client site to ≡ b
        → MatchBool b (t.after ≡ after_arrival_at_client (without_flight t.before flight) flight.conn flight.message)
        (ArrivesAtServer (without_flight t.before flight) to flight.conn flight.message (front_at to t.before.fronts) t.after) → Goes-on
    to_any true of_client is =
        subst (Goes site made (Reason t) (farm_before made refused t.before flight)) (sym is)
        (client_receives site made refused (Reason t) (without_flight t.before flight) (items_of made t.before.directions t.before.fronts) from to flight.conn
        flight.message checked is_taken.joins is_taken.linked of_client is_taken.out is_taken.wired requests)
    to_any false no_client is = to_server (front_at to t.before.fronts) no_client refl is

    arrival_goes : Arrives site (without_flight t.before flight) to flight.conn flight.message t.after → StepGoes site made t refused
    arrival_goes arrives = step_goes site made t refused (after_taken site made refused (Reason t) t.before t.after from to flight is_taken
        (to_any (is_client site to) refl arrives))

  deliver_in : (found : Option Flight) → flight_at t.before.directions from to place ≡ found → Delivers site t.before to found t.applied t.after
      → ((flight : Flight) → flight_at t.before.directions from to place ≡ Some flight → RelayReceives site made t refused from to flight) → StepGoes site made
      t refused
  deliver_in None flies d relay_case = idle_goes site made t refused d.1 wired requests
  deliver_in (Some flight) flies d relay_case = arrival_goes flight flies (relay_case flight flies) d.1

  pub deliver_goes : Delivers site t.before to (flight_at t.before.directions from to place) t.applied t.after
      → ((flight : Flight) → flight_at t.before.directions from to place ≡ Some flight → RelayReceives site made t refused from to flight) → StepGoes site made
      t refused
  deliver_goes d relay_case = deliver_in (flight_at t.before.directions from to place) refl d relay_case
