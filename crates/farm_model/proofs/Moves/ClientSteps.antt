-- A client sends and receives, and a message is lost.
use Rattle.std.proofs.Common.{◌≡◌, ℕ, Bool, true, false, cond, List, [], ◌∷◌, ◌++◌, Option, Some, None, refl, sym, subst, ap, ◌∙◌}
use Rattle.std.specs.List.{find}
use Rattle.std.proofs.lemmas.Option.{same_Some}
use Rattle.dia_base.specs.declared.number.ConnId.{ConnId}
use Rattle.dia_base.specs.declared.number.NodeNo.{NodeNo}
use Rattle.dia_base.proofs.Finding.{found_passes}
use Rattle.dia_message.specs.declared.message.Message.{Message}
use Rattle.dia_message.specs.Traffic.{Traffic}
use Rattle.farm_law.specs.Farm.{Item, Refused, Farm}
use Rattle.farm_law.specs.Lists.{Without}
use Rattle.farm_law.specs.Moves.{Moves, sends, receives, loses}
use Rattle.farm_base.specs.declared.site.Site.{Site}
use Rattle.farm_model.specs.declared.state.Direction.{Direction}
use Rattle.farm_base.specs.declared.step.Step.TheVariants.{Send, Lose}
use Rattle.farm_model.specs.Arrival.{after_arrival_at_client}
use Rattle.farm_model.specs.SoundSite.{IsSound}
use Rattle.farm_model.specs.FarmStep.{after_send_on, after_send, Flight, loss_at, after_lost_message, Outcome}
use Rattle.farm_base.specs.Nodes.{is_client, is_linked}
use Rattle.farm_model.specs.Run.{Transition}
use Rattle.farm_model.specs.World.{Ends, WorldState, is_heard, conn_known, with_message_from}
use Rattle.farm_model.proofs.Moves.AsFarm.{parties, ends_of, client_in, items_of, has_ended_in, farm_of}
use Rattle.farm_model.proofs.Lists.Finding.{Has-found}
use Rattle.farm_model.proofs.Moves.FrontRequests.{QueuesHoldRequests}
use Rattle.farm_model.proofs.Wiring.Joined.{Joins-turned, client_is, server_is}
use Rattle.farm_model.proofs.Wiring.Linked.{beside_client, client_beside, linked_turned}
use Rattle.farm_model.proofs.Moves.Moving.{one_move, put, settled}
use Rattle.farm_model.proofs.Moves.Posting.{posted_wired}
use Rattle.farm_model.proofs.Moves.Sending.{posted_items, traffic_ended}
use Rattle.farm_model.proofs.Lists.Placing.{Left-without}
use Rattle.farm_model.proofs.OwnCauses.Refusing.{as_before}
use Rattle.farm_model.proofs.Moves.StepGoes.{Reason, Goes, StepGoes, outcome_goes}
use Rattle.farm_model.proofs.Wiring.Taken.{taken_lost, after_taken}
use Rattle.farm_model.proofs.Wiring.Wired.{Joins, IsWired}
use Rattle.farm_model.proofs.Wiring.WorldLemmas.{direction_nodes, heard_between, direction_known}

module _ (site : Site) (made : Ends) (refused : List Refused) (HasReason : Refused → Type 0) where
  abbrev Goes-on : WorldState → WorldState → Type 0
  Goes-on w after = Goes site made HasReason (farm_of made refused w) after

  -- ---- send

  send_as : (w : WorldState) (client to : NodeNo) (message : Message) (direction : Direction) → IsSound site → is_client site client ≡ true → find
      (is_heard to client) w.directions ≡ Some direction → IsWired site made w → QueuesHoldRequests w.fronts
      → Goes-on w (record w {
        directions = with_message_from client w.directions direction.conn message;
        sent = w.sent ++ (direction.conn, message) ∷ [];
      })
  send_as w client to message direction checked of_client found wired requests =
      let is = direction_nodes to client direction (heard_between to client direction (found_passes (is_heard to client) w.directions direction found)) in
      let k = wired.directions direction (Has-found (is_heard to client) w.directions found) in
      let conn : ConnId = direction.conn in
      let joins : Joins made conn client to =
      Joins-turned (subst (λ (n : NodeNo). Joins made conn to n) is.1 (subst (λ (n : NodeNo). Joins made conn n direction.to) is.0 k.joins)) in
      let linked : is_linked site client to ≡ true =
      linked_turned site to client
      (subst (λ (n : NodeNo). is_linked site to n ≡ true) is.1 (subst (λ (n : NodeNo). is_linked site n direction.to ≡ true) is.0 k.linked)) in
      let to_none : is_client site to ≡ false = beside_client site checked client to linked of_client in
      let client_on : client_in site (ends_of made conn) ≡ client = client_is site made conn client to of_client to_none joins in
      let sent_on : List Direction = with_message_from client w.directions conn message in
      let old : Farm = farm_of made refused w in
      let told : Traffic = w.sent ++ (conn, message) ∷ [] in
      let after : WorldState = record w { directions = sent_on; sent = told } in
      let item : Item = record { conn = conn; from = client; to = to; message = message } in
      let posts = posted_items site made w.ends client to conn message joins w.directions w.fronts wired.directions in
      let moves : Moves (parties site made) old (record old { items = items_of made sent_on w.fronts; sent = told }) =
      put old (record old { sent = told }) item (items_of made w.directions w.fronts) (items_of made sent_on w.fronts) posts
      (λ some h. sends conn to message (ap (is_client site) client_on ∙ of_client) to_none
      (subst (λ (n : NodeNo). Without (record { conn = conn; from = n; to = to; message = message }) some (items_of made w.directions w.fronts)) (sym client_on)
      h)) in
      record {
        leads = record {
          refused = refused;
          moves = settled (parties site made) made refused old after (has_ended_in w.ends w.directions) moves
              (traffic_ended w.ends client w.directions ((conn, message) ∷ []));
          caused = as_before HasReason refused;
        };
        wired = record {
          begins = wired.begins;
          directions = posted_wired site made w.ends client conn message w.directions wired.directions;
          fronts = wired.fronts;
          relays = wired.relays;
          alone = wired.alone;
        };
        requests = requests;
      }

  send_in_goes : (w after : WorldState) (client to : NodeNo) (message : Message) (found : Option ConnId) → IsSound site → is_client site client ≡ true →
      conn_known w.directions client to ≡ found → after_send_on w client message found ≡ Some after
      → IsWired site made w → QueuesHoldRequests w.fronts → Goes-on w after
  send_in_goes w after client to message None checked of_client e is wired requests = absurd cc
  send_in_goes w after client to message (Some conn) checked of_client e is wired requests =
      let found = direction_known w.directions client to conn e in
      subst (Goes-on w) (same_Some _ _ is)
      (subst (λ (c : ConnId). Goes-on w (record w { directions = with_message_from client w.directions c message; sent = w.sent ++ (c, message) ∷ [] })) found.2
      (send_as w client to message found.0 checked of_client found.1 wired requests))

  send_if : (w after : WorldState) (client to : NodeNo) (message : Message) (b : Bool) → IsSound site → is_client site client ≡ b → cond b
      (after_send_on w client message (conn_known w.directions client to)) None ≡ Some after
      → IsWired site made w → QueuesHoldRequests w.fronts → Goes-on w after
  send_if w after client to message true checked e is wired requests = send_in_goes w after client to message (conn_known w.directions client to)
      checked e refl is wired requests
  send_if w after client to message false checked e is wired requests = absurd cc

  pub after_send_goes : (w after : WorldState) (client to : NodeNo) (message : Message) → IsSound site → after_send site w client to message ≡ Some after →
      IsWired site made w → QueuesHoldRequests w.fronts → Goes-on w after
  after_send_goes w after client to message checked is wired requests = send_if w after client to message (is_client site client) checked refl is wired requests

  -- ---- lose

  loss_in_goes : (w after : WorldState) (from to : NodeNo) (place : ℕ) (found : Option Flight) → loss_at w.directions from to place ≡ found →
      after_lost_message w found ≡ Some after → IsWired site made w → QueuesHoldRequests w.fronts → Goes-on w after
  loss_in_goes w after from to place None e is wired requests = absurd cc
  loss_in_goes w after from to place (Some flight) e is wired requests =
      let t = taken_lost site made w from to place wired flight e in
      subst (Goes-on w) (same_Some _ _ is) (after_taken site made refused HasReason w (record w { directions = flight.directions }) from to flight t (record {
        leads = record { refused = refused; moves = one_move (loses (Left-without tt t.out)); caused = as_before HasReason refused };
        wired = t.wired;
        requests = requests;
      }))

  pub after_loss_goes : (w after : WorldState) (from to : NodeNo) (place : ℕ) → after_lost_message w (loss_at w.directions from to place) ≡ Some after →
      IsWired site made w → QueuesHoldRequests w.fronts → Goes-on w after
  after_loss_goes w after from to place is wired requests = loss_in_goes w after from to place (loss_at w.directions from to place) refl is wired requests

  -- ---- a message comes to a client

  pub client_receives : (w : WorldState) (items : List Item) (from to : NodeNo) (conn : ConnId) (message : Message) → IsSound site → Joins made conn from to
      → is_linked site from to ≡ true → is_client site to ≡ true
      → Without (record { conn = conn; from = from; to = to; message = message }) items (items_of made w.directions w.fronts) → IsWired site made w →
      QueuesHoldRequests w.fronts
      → Goes site made HasReason (record (farm_of made refused w) { items = items }) (after_arrival_at_client w conn message)
  client_receives w items from to conn message checked joins linked of_client out wired requests =
      let from_none : is_client site from ≡ false = client_beside site checked from to linked of_client in
      let client_on = client_is site made conn to from of_client from_none (Joins-turned joins) in
      let server_on = server_is site made conn to from of_client from_none (Joins-turned joins) in
      record {
        leads = record {
          refused = refused;
          moves = one_move (receives out of_client from_none (sym client_on) (sym server_on));
          caused = as_before HasReason
              refused;
        };
        wired = record { begins = wired.begins; directions = wired.directions; fronts = wired.fronts; relays = wired.relays; alone = wired.alone };
        requests = requests;
      }

pub send_goes : (site : Site) (made : Ends) (t : Transition) (refused : List Refused) (client to : NodeNo) (message : Message) → IsSound site → t.step ≡ Send
    client to message → Outcome (after_send site t.before client to message) t.applied t.before t.after
    → IsWired site made t.before → QueuesHoldRequests t.before.fronts → StepGoes site made t refused
send_goes site made t refused client to message checked step o wired requests =
    outcome_goes site made t refused (after_send site t.before client to message) o wired requests
    (λ after is. after_send_goes site made refused (Reason t) t.before after client to message checked is wired requests)

pub lose_goes : (site : Site) (made : Ends) (t : Transition) (refused : List Refused) (from to : NodeNo) (place : ℕ) → t.step ≡ Lose from to place → Outcome
    (after_lost_message t.before (loss_at t.before.directions from to place)) t.applied t.before t.after
    → IsWired site made t.before → QueuesHoldRequests t.before.fronts → StepGoes site made t refused
lose_goes site made t refused from to place step o wired requests =
    outcome_goes site made t refused (after_lost_message t.before (loss_at t.before.directions from to place)) o wired requests
    (λ after is. after_loss_goes site made refused (Reason t) t.before after from to place is wired requests)
