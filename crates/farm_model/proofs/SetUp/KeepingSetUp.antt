-- In each state of a run the fronts and relays of the site are there, set up as the site says; and a run begins with nothing.
use Rattle.std.proofs.Common.{◌≡◌, ℕ, ◌+◌, Bool, true, false, List, [], ◌∷◌, Option, Some, None, inl, inr, refl, sym, subst, ap, ◌∙◌, suc, zero}
use Rattle.std.specs.Prelude.{MatchBool, MatchOption, replicate, slice_get}
use Rattle.std.proofs.lemmas.Option.{same_Some}
use Rattle.dia_base.specs.declared.node.NodeKind.{NodeKind}
use Rattle.dia_base.specs.declared.node.NodeKind.TheVariants.{Relay, Front, Client}
use Rattle.dia_base.specs.declared.number.ConnId.{ConnId}
use Rattle.dia_base.specs.declared.number.NodeNo.{NodeNo}
use Rattle.dia_message.specs.declared.message.Message.{Message}
use Rattle.dia_message.specs.declared.message.Out.{Out}
use Rattle.dia_message.specs.Traffic.{Traffic}
use Rattle.front_core.specs.declared.site.FrontSite.{FrontSite}
use Rattle.front_core.specs.declared.worker.Worker.{Worker}
use Rattle.front_core.specs.declared.worker.Worker.TheVariants.{Idle}
use Rattle.relay_peers.specs.declared.peers.LinkedPeer.{LinkedPeer}
use Rattle.relay_peers.specs.PeerTable.{peer_in}
use Rattle.relay_routes.specs.declared.routes.Route.{Route as RelayRoute}
use Rattle.relay_core.specs.declared.error.RelayError.{RelayError}
use Rattle.relay_core.specs.declared.node.RelayNode.{RelayNode}
use Rattle.relay_core.specs.declared.run.RelayEvent.{RelayEvent}
use Rattle.relay_core.specs.declared.run.RelayEvent.TheVariants.{Up, Received, Lost, Restart}
use Rattle.relay_core.specs.Connecting.{after_up, up_fault}
use Rattle.relay_core.specs.Failover.{OnConnLost}
use Rattle.relay_core.specs.RelayRun.{IsIdle, IsRun, not_begun, one_more, OnEvent, RelayStep}
use Rattle.relay_core.specs.RelayState.{RelayState, peer_on}
use Rattle.relay_core.specs.RelayStep.{OnAnswer, OnMessage, OnRequest, refused, forwarded, sent_back, dropped, ignored}
use Rattle.farm_law.specs.Lists.{Has}
use Rattle.farm_base.specs.declared.site.Node.{Node}
use Rattle.farm_base.specs.declared.site.Site.{Site}
use Rattle.farm_model.specs.declared.state.FrontAt.{FrontAt}
use Rattle.farm_model.specs.declared.state.RelayAt.{RelayAt}
use Rattle.farm_base.specs.Nodes.{is_front, is_relay, kind_at, kind_in, means_front, means_relay, name_in}
use Rattle.farm_model.specs.Run.{Past, Run, front_if, fronts_from, relay_if, relays_from, start}
use Rattle.farm_model.specs.SetUp.{ArePeers, AreRoutes, HasNode, HasNothing, AwaitsNothing, IsBegun, BeginsEmpty, IsSetUp}
use Rattle.farm_model.specs.World.{Ends, WorldState}
use Rattle.farm_model.proofs.Lists.Among.{Has-cons, Has-parts, all_of}
use Rattle.farm_model.proofs.SetUp.FrontsStand.{FrontsStand}
use Rattle.farm_model.proofs.SetUp.PeersAndRoutes.{peers_are, routes_are}
use Rattle.farm_model.proofs.Relays.RelaysRun.{HasRun}
use Rattle.farm_model.proofs.Wiring.Wired.{IsWired}
use Rattle.farm_model.proofs.Wiring.WiredLemmas.{front_wired, relay_wired}

-- ---- how many requests a relay may have pending stays

module _ (relay next : RelayState) (sent : Traffic) where
  idle_limit : IsIdle relay sent next → next.pending.limit ≡ relay.pending.limit
  idle_limit idle = ap (λ (r : RelayState). r.pending.limit) idle.1

  up_limit : (peer : NodeNo) (conn : ConnId) (fault : Option RelayError)
      → MatchOption fault ((sent ≡ []) × (next ≡ after_up relay peer conn)) (λ f. IsIdle relay sent next) → next.pending.limit ≡ relay.pending.limit
  up_limit peer conn None up = ap (λ (r : RelayState). r.pending.limit) up.1
  up_limit peer conn (Some fault) idle = idle_limit idle

  lost_limit : (conn : ConnId) (peer : Option NodeNo) → MatchOption peer (IsIdle relay sent next) (λ p. OnConnLost relay conn sent next)
      → next.pending.limit ≡ relay.pending.limit
  lost_limit conn None idle = idle_limit idle
  lost_limit conn (Some peer) lost = ap (λ (r : RelayState). r.pending.limit) lost.after

request_limit : (relay next : RelayState) (conn : ConnId) (sender : List ℕ) (message : Message) (sent : Traffic) → OnRequest relay conn sender message sent next
    → next.pending.limit ≡ relay.pending.limit
request_limit relay next conn sender message sent (refused refusal e) = refl
request_limit relay next conn sender message sent (forwarded to hop rows count e free more) = refl

answer_limit : (relay next : RelayState) (conn : ConnId) (message : Message) (sent : Traffic) → OnAnswer relay conn message sent next
    → next.pending.limit ≡ relay.pending.limit
answer_limit relay next conn message sent (sent_back held origin rows at from less) = refl
answer_limit relay next conn message sent (dropped held rows at from less) = refl
answer_limit relay next conn message sent (ignored none) = refl

message_limit : (relay next : RelayState) (conn : ConnId) (sender : List ℕ) (message : Message) (sent : Traffic) (b : Bool)
    → MatchBool b (OnRequest relay conn sender message sent next) (OnAnswer relay conn message sent next) → next.pending.limit ≡ relay.pending.limit
message_limit relay next conn sender message sent true turn = request_limit relay next conn sender message sent turn
message_limit relay next conn sender message sent false turn = answer_limit relay next conn message sent turn

received_limit : (relay next : RelayState) (conn : ConnId) (message : Message) (sent : Traffic) (found : Option LinkedPeer)
    → MatchOption found (IsIdle relay sent next) (λ sender. OnMessage relay conn sender.name message sent next) → next.pending.limit ≡ relay.pending.limit
received_limit relay next conn message sent None idle = idle_limit relay next sent idle
received_limit relay next conn message sent (Some sender) turn = message_limit relay next conn sender.name message sent message.header.request turn

event_limit : (relay next : RelayState) (sent : Traffic) (event : RelayEvent) → OnEvent relay event sent next → next.pending.limit ≡ relay.pending.limit
event_limit relay next sent (Up peer conn) turn = up_limit relay next sent peer conn (up_fault relay peer conn) turn
event_limit relay next sent (Received conn message) turn = received_limit relay next conn message sent (peer_on relay.node conn) turn
event_limit relay next sent (Lost conn) turn = lost_limit relay next sent conn (peer_in relay.node.peers.links conn) turn
event_limit relay next sent Restart turn = ap (λ (r : RelayState). r.pending.limit) turn.1

run_limit : {first last : RelayState} {events : List RelayEvent} {outs : List Out} {steps : List RelayStep} → IsRun first events outs steps last
    → last.pending.limit ≡ first.pending.limit
run_limit not_begun = refl
run_limit (one_more events event outs out past before after run turn) = event_limit before after out.items event turn ∙ run_limit run

-- ---- a state

node_of : (site : Site) (at : NodeNo) (kind : NodeKind) (found : Option Node) → slice_get site.nodes at.0 ≡ found → kind_in found ≡ Some kind
    → HasNode site at kind
node_of site at kind None there is = absurd cc
node_of site at kind (Some node) there is = record { node = node; at_place = there; of_kind = same_Some node.kind kind is }

only_front : (k : Option NodeKind) → means_front k ≡ true → k ≡ Some Front
only_front None e = absurd cc
only_front (Some Front) e = refl
only_front (Some Relay) e = absurd cc
only_front (Some Client) e = absurd cc

only_relay : (k : Option NodeKind) → means_relay k ≡ true → k ≡ Some Relay
only_relay None e = absurd cc
only_relay (Some Relay) e = refl
only_relay (Some Front) e = absurd cc
only_relay (Some Client) e = absurd cc

pub state_set_up : {site : Site} {ends : Ends} {past : Past} {w : WorldState} → IsWired site ends w → FrontsStand site w
    → ((node : NodeNo) → is_relay site node ≡ true → HasRun site node past w) → IsSetUp site w
state_set_up {site} {w = w} wired stand runs = record {
  fronts = λ at node there kind.
      let is : is_front site at ≡ true = ap (λ (o : Option Node). means_front (kind_in o)) there ∙ ap (λ (k : NodeKind). means_front (Some k)) kind in
      let s = stand at is in
      let site_is = (front_wired wired.fronts s.there).site_is in
      record {
        state = s.state;
        there = s.there;
        as_said = record {
          name = ap (λ (f : FrontSite). f.name) site_is ∙ ap name_in there;
          realm = ap (λ (f : FrontSite). f.realm) site_is;
          vendors = ap (λ (f : FrontSite). f.profile.vendors) site_is;
          known = ap (λ (f : FrontSite). f.profile.known) site_is;
          tolerated = ap (λ (f : FrontSite). f.profile.tolerated) site_is;
          queue = ap (λ (f : FrontSite). f.queue) site_is;
          workers = ap (λ (f : FrontSite). f.workers) site_is;
          working = s.as_said;
        };
      };
  relays = λ at node there kind.
      let is : is_relay site at ≡ true = ap (λ (o : Option Node). means_relay (kind_in o)) there ∙ ap (λ (k : NodeKind). means_relay (Some k)) kind in
      let run = runs at is in
      let node_is = (relay_wired wired.relays run.at).node_is in
      record {
        state = run.last;
        there = run.at;
        as_said = record {
          name = ap (λ (n : RelayNode). n.name) node_is ∙ ap name_in there;
          realm = ap (λ (n : RelayNode). n.realm) node_is;
          peers = subst (λ (peers : List LinkedPeer). ArePeers site at 0 site.nodes peers) (sym (ap (λ (n : RelayNode). n.peers.linked) node_is))
              (peers_are site at 0 site.nodes);
          routes = subst (λ (routes : List RelayRoute). AreRoutes at site.routes routes) (sym (ap (λ (n : RelayNode). n.routes) node_is))
              (routes_are at site.routes);
          pending = run_limit run.run;
        };
      };
  no_other_fronts = all_of (λ (there : FrontAt). HasNode site there.node Front) w.fronts (λ there h.
      node_of site there.node Front (slice_get site.nodes there.node.0) refl (only_front (kind_at site there.node) (wired.fronts there h).is_front));
  no_other_relays = all_of (λ (there : RelayAt). HasNode site there.node Relay) w.relays (λ there h.
      node_of site there.node Relay (slice_get site.nodes there.node.0) refl (only_relay (kind_at site there.node) (wired.relays there h).is_relay));
}

-- ---- before the first step

all_idle : (count : ℕ) (worker : Worker) → Has worker (replicate count Idle) → worker ≡ Idle
all_idle zero worker h = elim h [ ]
all_idle (suc count) worker h = elim (Has-cons h) [ inl e ↦ e | inr g ↦ all_idle count worker g ]

nothing_if : (site : Site) (place : ℕ) (node : Node) (kind : NodeKind) (at : FrontAt) → Has at (front_if site place node kind) → HasNothing at.front
nothing_if site place node Relay at h = elim h [ ]
nothing_if site place node Client at h = elim h [ ]
nothing_if site place node Front at h = elim (Has-cons h) [
  | inl is ↦ subst (λ (a : FrontAt). HasNothing a.front) (sym is)
      (record { connections = refl; queue = refl; workers = all_of (λ (worker : Worker). worker ≡ Idle) (replicate site.workers Idle) (all_idle site.workers) })
  | inr none ↦ elim none [ ]
]

nothing_from : (site : Site) (place : ℕ) (nodes : List Node) (at : FrontAt) → Has at (fronts_from site place nodes) → HasNothing at.front
nothing_from site place [] at h = elim h [ ]
nothing_from site place (node ∷ nodes) at h = elim (Has-parts (front_if site place node node.kind) h) [
  | inl g ↦ nothing_if site place node node.kind at g
  | inr g ↦ nothing_from site (place + 1) nodes at g
]

awaits_if : (site : Site) (place : ℕ) (node : Node) (kind : NodeKind) (at : RelayAt) → Has at (relay_if site place node kind) → AwaitsNothing at.relay
awaits_if site place node Front at h = elim h [ ]
awaits_if site place node Client at h = elim h [ ]
awaits_if site place node Relay at h = elim (Has-cons h) [
  | inl is ↦ subst (λ (a : RelayAt). AwaitsNothing a.relay) (sym is) (record { links = refl; rows = refl })
  | inr none ↦ elim none [ ]
]

awaits_from : (site : Site) (place : ℕ) (nodes : List Node) (at : RelayAt) → Has at (relays_from site place nodes) → AwaitsNothing at.relay
awaits_from site place [] at h = elim h [ ]
awaits_from site place (node ∷ nodes) at h = elim (Has-parts (relay_if site place node node.kind) h) [
  | inl g ↦ awaits_if site place node node.kind at g
  | inr g ↦ awaits_from site (place + 1) nodes at g
]

start_begun : (site : Site) → IsBegun (start site)
start_begun site = record {
  directions = refl;
  ends = refl;
  sent = refl;
  received = refl;
  history = refl;
  fronts = all_of (λ (there : FrontAt). HasNothing there.front) (fronts_from site 0 site.nodes) (nothing_from site 0 site.nodes);
  relays = all_of (λ (there : RelayAt). AwaitsNothing there.relay) (relays_from site 0 site.nodes) (awaits_from site 0 site.nodes);
}

pub begins_empty : (site : Site) (past : Past) (last : WorldState) → Run site (start site) past last → BeginsEmpty past
begins_empty site [] last run = tt
begins_empty site (t ∷ past) last run = subst IsBegun (sym run.0) (start_begun site)
