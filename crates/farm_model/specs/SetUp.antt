-- What the nodes of the farm are set up with, and how they begin: said in the site's words, apart from the state that a
-- run begins in.
use Rattle.std.specs.Prelude.{◌≡◌, ◌≢◌, ◌⊎◌, ℕ, ◌+◌, List, [], ◌∷◌, All, Contains, length, Some, slice_get}
use Rattle.dia_base.specs.Limits.{pending_limit}
use Rattle.dia_base.specs.declared.node.NodeKind.{NodeKind}
use Rattle.dia_base.specs.declared.node.NodeKind.TheVariants.{Front, Relay}
use Rattle.dia_base.specs.declared.number.NodeNo.{NodeNo}
use Rattle.front_core.specs.declared.worker.Worker.TheVariants.{Idle}
use Rattle.front_core.specs.FrontState.{FrontState}
use Rattle.relay_peers.specs.declared.peers.LinkedPeer.{LinkedPeer}
use Rattle.relay_routes.specs.declared.routes.Route.{Route as RelayRoute}
use Rattle.relay_core.specs.RelayState.{RelayState}
use Rattle.farm_base.specs.declared.site.Link.{Link}
use Rattle.farm_base.specs.declared.site.Node.{Node}
use Rattle.farm_base.specs.declared.site.Route.{Route}
use Rattle.farm_base.specs.declared.site.Site.{Site}
use Rattle.farm_model.specs.Run.{Past, Transition}
use Rattle.farm_model.specs.World.{WorldState, front_at, relay_at}

-- ---- a front

-- It has the name of its node, and what the site says of all fronts.
pub record IsFrontOf (site : Site) (node : Node) (front : FrontState) : Type 0 where
  pub name : front.site.name ≡ node.name
  pub realm : front.site.realm ≡ site.realm
  -- the vendors whose AVPs it knows, the AVPs that it knows beside the dictionary, and the deviations that it tolerates
  pub vendors : front.site.profile.vendors ≡ site.vendors
  pub known : front.site.profile.known ≡ site.known
  pub tolerated : front.site.profile.tolerated ≡ site.tolerate
  pub queue : front.site.queue ≡ site.queue
  pub workers : front.site.workers ≡ site.workers
  -- and so many there are
  pub working : length front.workers ≡ site.workers

-- ---- a relay

-- a link of the site is between the two nodes, whichever it names first
pub record AreLinked (site : Site) (a b : NodeNo) : Type 0 where
  pub link : Link
  pub among : Contains site.links link
  pub between : ((link.from ≡ a) × (link.to ≡ b)) ⊎ ((link.from ≡ b) × (link.to ≡ a))

-- The peers are those of these nodes, of which the first has this number, that the site links with a node: in the order of
-- the nodes, each with its number, its name and its kind.
pub data ArePeers (site : Site) (at : NodeNo) : ℕ → List Node → List LinkedPeer → Type 0 where
  no_peers : (number : ℕ) → ArePeers site at number [] []
  linked : (number : ℕ) (node : Node) (nodes : List Node) (peer : LinkedPeer) (peers : List LinkedPeer) → AreLinked site at (record { 0 = number }) →
      peer.peer.0 ≡ number → peer.name ≡ node.name → peer.kind ≡ node.kind → ArePeers site at (number + 1) nodes peers
      → ArePeers site at number (node ∷ nodes) (peer ∷ peers)
  not_linked : (number : ℕ) (node : Node) (nodes : List Node) (peers : List LinkedPeer) → ¬ AreLinked site at (record { 0 = number }) →
      ArePeers site at (number + 1) nodes peers → ArePeers site at number (node ∷ nodes) peers

-- The routes of a node are those of the site's that are for it: in their order, each with its realm, its application and its
-- candidates.
pub data AreRoutes (at : NodeNo) : List Route → List RelayRoute → Type 0 where
  no_routes : AreRoutes at [] []
  its_own : (route : Route) (routes : List Route) (own : RelayRoute) (owns : List RelayRoute) → route.at ≡ at →
      own.realm ≡ route.realm → own.app ≡ route.app → own.peers ≡ route.peers → AreRoutes at routes owns → AreRoutes at (route ∷ routes) (own ∷ owns)
  of_another : (route : Route) (routes : List Route) (owns : List RelayRoute) → route.at ≢ at → AreRoutes at routes owns → AreRoutes at (route ∷ routes) owns

-- It has the name of its node, the site's realm, and its peers and routes.
pub record IsRelayOf (site : Site) (at : NodeNo) (node : Node) (relay : RelayState) : Type 0 where
  pub name : relay.node.name ≡ node.name
  pub realm : relay.node.realm ≡ site.realm
  pub peers : ArePeers site at 0 site.nodes relay.node.peers.linked
  pub routes : AreRoutes at site.routes relay.node.routes
  -- how many requests it may have sent that are not answered
  pub pending : relay.pending.limit ≡ pending_limit

-- ---- the farm

-- a front or relay stands at the node, and is as the site says
pub record StandsThere {A : Type 0} (stands : A → Type 0) (IsAsSaid : A → Type 0) : Type 0 where
  pub state : A
  pub there : stands state
  pub as_said : IsAsSaid state

-- the site has a node of this kind under the number
pub record HasNode (site : Site) (at : NodeNo) (kind : NodeKind) : Type 0 where
  pub node : Node
  pub at_place : slice_get site.nodes at.0 ≡ Some node
  pub of_kind : node.kind ≡ kind

-- Each front and each relay of the site is there, set up as the site says, and no others are.
pub record IsSetUp (site : Site) (w : WorldState) : Type 0 where
  pub fronts : (at : NodeNo) (node : Node) → slice_get site.nodes at.0 ≡ Some node → node.kind ≡ Front →
      StandsThere (λ (front : FrontState). front_at at w.fronts ≡ Some front) (IsFrontOf site node)
  pub relays : (at : NodeNo) (node : Node) → slice_get site.nodes at.0 ≡ Some node → node.kind ≡ Relay →
      StandsThere (λ (relay : RelayState). relay_at at w.relays ≡ Some relay) (IsRelayOf site at node)
  pub no_other_fronts : All (λ there. HasNode site there.node Front) w.fronts
  pub no_other_relays : All (λ there. HasNode site there.node Relay) w.relays

-- before the step and after it
pub record KeepsSetUp (site : Site) (t : Transition) : Type 0 where
  pub before : IsSetUp site t.before
  pub after : IsSetUp site t.after

-- ---- how the farm begins

-- a front that knows no connection, and at which nothing waits and no worker does anything
pub record HasNothing (front : FrontState) : Type 0 where
  pub connections : front.connections ≡ []
  pub queue : front.queue ≡ []
  pub workers : All (λ worker. worker ≡ Idle) front.workers

-- a relay no peer of which is up, and which awaits no answer
pub record AwaitsNothing (relay : RelayState) : Type 0 where
  pub links : relay.node.peers.links ≡ []
  pub rows : relay.pending.rows ≡ []

-- No connection stands or was made, nothing was sent or received, and the book has no entry.
pub record IsBegun (w : WorldState) : Type 0 where
  pub directions : w.directions ≡ []
  pub ends : w.ends ≡ []
  pub sent : w.sent ≡ []
  pub received : w.received ≡ []
  pub history : w.book.history ≡ []
  pub fronts : All (λ there. HasNothing there.front) w.fronts
  pub relays : All (λ there. AwaitsNothing there.relay) w.relays

-- so it is before the first of these transitions
abbrev pub BeginsEmpty : Past → Type 0
BeginsEmpty [] = Unit {0}
BeginsEmpty (t ∷ past) = IsBegun t.before
