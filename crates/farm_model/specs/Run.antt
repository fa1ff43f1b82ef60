-- A run of the farm, from the empty history: one step after another, and what is told of it.
use Rattle.std.specs.Prelude.{◌≡◌, ℕ, ◌+◌, Bool, true, false, not, List, [], ◌∷◌, ◌++◌, map, filter, count_by}
use Rattle.dia_base.specs.declared.number.NodeNo.{NodeNo}
use Rattle.cc_book.specs.Taking.{Ledger}
use Rattle.front_core.specs.declared.site.FrontSite.{FrontSite}
use Rattle.front_core.specs.FrontState.{FrontState, new_front}
use Rattle.relay_peers.specs.declared.peers.LinkedPeer.{LinkedPeer}
use Rattle.relay_core.specs.declared.node.RelaySite.{RelaySite}
use Rattle.relay_core.specs.Connecting.{new_relay}
use Rattle.farm_base.specs.declared.site.Route.{Route}
use Rattle.farm_base.specs.declared.site.Site.{Site}
use Rattle.farm_base.specs.declared.site.Node.{Node}
use Rattle.dia_base.specs.declared.node.NodeKind.{NodeKind}
use Rattle.dia_base.specs.declared.node.NodeKind.TheVariants.{Relay, Front, Client}
use Rattle.farm_model.specs.declared.state.FrontAt.{FrontAt}
use Rattle.farm_model.specs.declared.state.RelayAt.{RelayAt}
use Rattle.farm_model.specs.declared.state.Trace.{Trace}
use Rattle.farm_base.specs.declared.step.Step.{Step}
use Rattle.farm_model.specs.FarmStep.{FarmStep}
use Rattle.farm_model.specs.Loss.{LossAt}
use Rattle.farm_base.specs.FrontProfile.{front_profile}
use Rattle.farm_base.specs.Nodes.{is_node, is_linked}
use Rattle.farm_model.specs.World.{WorldState}

-- ---- before the first step

-- what a front of this name is configured with
abbrev pub front_site : Site → List ℕ → FrontSite
front_site site name = record { name = name; realm = site.realm; profile = front_profile site; workers = site.workers; queue = site.queue }

-- a front before its first event
abbrev pub fresh_front : Site → Node → FrontState
fresh_front site node = new_front (front_site site node.name)

abbrev pub front_if : Site → ℕ → Node → NodeKind → List FrontAt
front_if site place node Front = record { node = record { 0 = place }; front = fresh_front site node } ∷ []
front_if site place node Relay = []
front_if site place node Client = []

-- the fronts among the nodes from a place on
abbrev pub fronts_from : Site → ℕ → List Node → List FrontAt
fronts_from site place [] = []
fronts_from site place (node ∷ nodes) = front_if site place node node.kind ++ fronts_from site (place + 1) nodes

-- the nodes among these, from a place on, that the site links with a node
abbrev pub peer_if : Bool → ℕ → Node → List LinkedPeer
peer_if true place node = record { peer = record { 0 = place }; name = node.name; kind = node.kind } ∷ []
peer_if false place node = []

abbrev pub peers_from : Site → NodeNo → ℕ → List Node → List LinkedPeer
peers_from site at place [] = []
peers_from site at place (node ∷ nodes) = peer_if (is_linked site at (record { 0 = place })) place node ++ peers_from site at (place + 1) nodes

-- the routes of a node
abbrev pub route_of : Route → Rattle.relay_routes.specs.declared.routes.Route.Route
route_of route = record { realm = route.realm; app = route.app; peers = route.peers }

abbrev pub routes_at : List Route → NodeNo → List Rattle.relay_routes.specs.declared.routes.Route.Route
routes_at routes at = map route_of (filter (λ route. is_node route.at at) routes)

-- what a relay of this name is set up with
abbrev pub relay_site : Site → NodeNo → List ℕ → RelaySite
relay_site site at name = record { name = name; realm = site.realm; peers = peers_from site at 0 site.nodes; routes = routes_at site.routes at }

abbrev pub relay_if : Site → ℕ → Node → NodeKind → List RelayAt
relay_if site place node Relay = record { node = record { 0 = place }; relay = new_relay (relay_site site (record { 0 = place }) node.name) } ∷ []
relay_if site place node Front = []
relay_if site place node Client = []

-- the relays among the nodes from a place on
abbrev pub relays_from : Site → ℕ → List Node → List RelayAt
relays_from site place [] = []
relays_from site place (node ∷ nodes) = relay_if site place node node.kind ++ relays_from site (place + 1) nodes

-- the book with its accounts, and nothing taken
abbrev pub empty_book : Site → Ledger
empty_book site = record {
  terms = record {
    accounts = site.accounts;
    closed = [];
    tariffs = site.tariffs;
    validity = site.validity;
    money = record { currency = site.currency; exponent = site.exponent };
  };
  limit = site.limit;
  history = [];
}

abbrev pub start : Site → WorldState
start site = record {
  directions = [];
  fronts = fronts_from site 0 site.nodes;
  relays = relays_from site 0 site.nodes;
  book = empty_book site;
  sent = [];
  received = [];
  ends = [];
}

-- ---- one step after another

-- a step of a run, with the farm before it and after it
pub record Transition : Type 0 where
  pub step : Step
  pub before : WorldState
  pub applied : Bool
  -- who learned of a lost connection at it
  pub losses : List LossAt
  pub after : WorldState

-- the transitions of a run, the first first
abbrev pub Past : Type 0
Past = List Transition

-- each transition is a step of the farm, and the next begins where it ends
abbrev pub Run : Site → WorldState → Past → WorldState → Type 0
Run site old [] new = new ≡ old
Run site old (t ∷ past) new = (t.before ≡ old) × FarmStep site t.before t.step t.applied t.losses t.after × Run site t.after past new

abbrev pub steps_in : Past → List Step
steps_in past = map (λ t. t.step) past

-- a step that did not apply is counted
abbrev pub skips : Bool → ℕ
skips true = 0
skips false = 1

-- how many steps did not apply
abbrev pub skipped_in : Past → ℕ
skipped_in past = count_by (λ t. not t.applied) past

-- ---- what is told of a run

abbrev pub trace_of : ℕ → WorldState → Trace
trace_of skipped w = record { sent = w.sent; received = w.received; book = w.book; skipped = skipped; ends = w.ends }

-- what is told of the farm is the same
abbrev pub TellsSame : WorldState → WorldState → Type 0
TellsSame old new = (new.sent ≡ old.sent) × (new.received ≡ old.received) × (new.book ≡ old.book) × (new.ends ≡ old.ends)

-- the trace of this run
pub record IsTrace (site : Site) (past : Past) (trace : Trace) : Type 0 where
  pub end : WorldState
  pub run : Run site (start site) past end
  pub trace_is : trace ≡ trace_of (skipped_in past) end
