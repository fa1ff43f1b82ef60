-- A message is taken out of flight: what is left, and whom it was between.
use Rattle.std.proofs.Common.{◌≡◌, ℕ, Bool, true, false, List, Option, Some, None, refl, subst, ap, ◌∙◌, eq-eqb}
use Rattle.std.specs.Prelude.{flat_map, slice_get, remove}
use Rattle.std.specs.List.{find, list_any}
use Rattle.std.proofs.lemmas.Bool.{and_from}
use Rattle.std.proofs.lemmas.Option.{same_Some}
use Rattle.dia_base.specs.declared.number.ConnId.{ConnId}
use Rattle.dia_base.specs.declared.number.NodeNo.{NodeNo}
use Rattle.dia_base.proofs.Finding.{found_passes}
use Rattle.dia_message.specs.declared.message.Message.{Message}
use Rattle.farm_law.specs.Farm.{Item, Refused}
use Rattle.farm_law.specs.Lists.{Without}
use Rattle.farm_law.specs.Moves.{next, ends as have_ended}
use Rattle.farm_base.specs.declared.site.Site.{Site}
use Rattle.farm_model.specs.declared.state.Direction.{Direction}
use Rattle.farm_model.specs.FarmStep.{Flight, flight_of, flight_in, flight_where, flight_at, loss_at}
use Rattle.farm_base.specs.Lists.{replace_first}
use Rattle.farm_base.specs.Nodes.{is_node, is_linked}
use Rattle.farm_model.specs.World.{Ends, WorldState, is_between, is_heard, is_on, is_inward}
use Rattle.farm_model.proofs.Moves.AsFarm.{in_flight, flights, items_at, items_of, has_ended_in, farm_of}
use Rattle.farm_model.proofs.Wiring.Ending.{same_ended, stands_if}
use Rattle.farm_model.proofs.Lists.Finding.{Has-found, any_has}
use Rattle.farm_model.proofs.Lists.Numbering.{node_itself}
use Rattle.farm_model.proofs.Lists.Placing.{Without-left, Without-map, Without-removed, parts_lose}
use Rattle.farm_model.proofs.Lists.Replacing.{map_replaced}
use Rattle.farm_model.proofs.Wiring.Sides.{same_inward, side_of}
use Rattle.farm_model.proofs.Moves.StepGoes.{Goes}
use Rattle.farm_model.proofs.Wiring.Wired.{Joins, IsWired}
use Rattle.farm_model.proofs.Wiring.WiredLemmas.{directions_wired}
use Rattle.farm_model.proofs.Wiring.WorldLemmas.{direction_nodes, heard_between}

pub record IsTaken (site : Site) (made : Ends) (w : WorldState) (from to : NodeNo) (flight : Flight) : Type 0 where
  pub out : Without (record { conn = flight.conn; from = from; to = to; message = flight.message }) (items_of made w.directions w.fronts)
      (items_of made flight.directions w.fronts)
  pub joins : Joins made flight.conn from to
  pub linked : is_linked site from to ≡ true
  pub wired : IsWired site made (record w { directions = flight.directions })
  pub stands : (n : NodeNo) (c : ConnId) → list_any (is_inward n c) flight.directions ≡ list_any (is_inward n c) w.directions
  pub lives : has_ended_in w.ends w.directions to flight.conn ≡ false

module _ (site : Site) (made : Ends) (w : WorldState) (from to : NodeNo) (place : ℕ) (test : Direction → Bool)
    (between : (direction : Direction) → test direction ≡ true → is_between from to direction ≡ true) (wired : IsWired site made w) where
  taken_as : (direction : Direction) (message : Message) → find test w.directions ≡ Some direction → slice_get direction.messages place ≡ Some
      message
      → IsTaken site made w from to (record {
        conn = direction.conn;
        message = message;
        directions = replace_first test
            (record direction { messages = remove direction.messages place }) w.directions;
      })
  taken_as direction message found got =
      let is = direction_nodes from to direction (between direction (found_passes test w.directions direction found)) in
      let has = Has-found test w.directions found in
      let k = wired.directions direction has in
      let less : Direction = record direction { messages = remove direction.messages place } in
      let left : List Direction = replace_first test less w.directions in
      let out : Without (in_flight direction message) (items_of made w.directions w.fronts) (items_of made left w.fronts) =
      Without-left (flat_map (items_at made) w.fronts)
      (parts_lose flights test {x = direction} {y = less} (Without-map (in_flight direction) (Without-removed direction.messages place got))
      w.directions found) in
      let same : in_flight direction message ≡ record { conn = direction.conn; from = from; to = to; message = message } =
      ap (λ (n : NodeNo). record { conn = direction.conn; from = n; to = direction.to; message = message }) is.0
      ∙ ap (λ (n : NodeNo). record { conn = direction.conn; from = from; to = n; message = message }) is.1 in
      record {
        out = subst (λ (item : Item). Without item (items_of made w.directions w.fronts) (items_of made left w.fronts)) same out;
        joins = subst (λ (n : NodeNo). Joins made direction.conn from n) is.1 (subst (λ (n : NodeNo). Joins made direction.conn n direction.to) is.0 k.joins);
        linked = subst (λ (n : NodeNo). is_linked site from n ≡ true) is.1 (subst (λ (n : NodeNo). is_linked site n direction.to ≡ true) is.0 k.linked);
        wired = record {
          begins = wired.begins;
          directions = directions_wired test direction (remove direction.messages place) w.directions found wired.directions;
          fronts = wired.fronts;
          relays = wired.relays;
          alone = wired.alone;
        };
        stands = λ n c. same_inward w.directions left n c (map_replaced side_of test direction less w.directions found refl);
        lives = stands_if w.ends w.directions to direction.conn (any_has (is_inward to direction.conn) has
            (and_from (is_node direction.to to) (is_on direction.conn direction) (ap (λ (n : NodeNo). is_node n to) is.1 ∙ node_itself to)
            (eq-eqb direction.conn.0 direction.conn.0 refl)));
      }

  taken_of : (direction : Direction) (flight : Flight) (got : Option Message) → find test w.directions ≡ Some direction → slice_get
      direction.messages place ≡ got → flight_of test w.directions place direction got ≡ Some flight
      → IsTaken site made w from to flight
  taken_of direction flight None found e is = absurd cc
  taken_of direction flight (Some message) found e is = subst (IsTaken site made w from to) (same_Some _ _ is) (taken_as direction message found e)

  taken_in : (flight : Flight) (found : Option Direction) → find test w.directions ≡ found → flight_in test w.directions place found ≡ Some
      flight → IsTaken site made w from to flight
  taken_in flight None e is = absurd cc
  taken_in flight (Some direction) e is = taken_of direction flight (slice_get direction.messages place) e refl is

  pub taken_where : (flight : Flight) → flight_where test w.directions place ≡ Some flight → IsTaken site made w from to flight
  taken_where flight is = taken_in flight (find test w.directions) refl is

-- a message that is delivered, and one that is lost
pub taken : (site : Site) (made : Ends) (w : WorldState) (from to : NodeNo) (place : ℕ) → IsWired site made w → (flight : Flight) → flight_at w.directions from
    to place ≡ Some flight → IsTaken site made w from to flight
taken site made w from to place wired flight is = taken_where site made w from to place (is_heard from to) (heard_between from to) wired flight is

pub taken_lost : (site : Site) (made : Ends) (w : WorldState) (from to : NodeNo) (place : ℕ) → IsWired site made w → (flight : Flight) → loss_at w.directions
    from to place ≡ Some flight → IsTaken site made w from to flight
taken_lost site made w from to place wired flight is = taken_where site made w from to place (is_between from to) (λ direction e. e) wired flight is

-- what follows once a message is out of flight leads on from the farm in which it was
pub after_taken : (site : Site) (made : Ends) (refused : List Refused) (HasReason : Refused → Type 0) (w after : WorldState) (from to : NodeNo)
    (flight : Flight) → IsTaken site made w from to flight
    → Goes site made HasReason (record (farm_of made refused (record w { directions = flight.directions })) { items = items_of made w.directions w.fronts })
    after → Goes site made HasReason (farm_of made refused w) after
after_taken site made refused HasReason w after from to flight t g = record {
  leads = record {
    refused = g.leads.refused;
    moves = next (have_ended (has_ended_in w.ends flight.directions) (λ n c e. same_ended w.ends w.directions flight.directions n c (t.stands n c) ∙ e))
        g.leads.moves;
    caused = g.leads.caused;
  };
  wired = g.wired;
  requests = g.requests;
}
