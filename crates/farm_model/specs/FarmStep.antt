-- One step of the farm.
use Rattle.std.specs.Prelude.{◌≡◌, ℕ, ◌+◌, Bool, true, false, not, ◌&&◌, ◌||◌, List, [], ◌∷◌, ◌++◌, length, MatchBool, Option, Some, None, is_some, slice_get}
use Rattle.std.specs.Prelude.{remove, if◌then◌else◌}
use Rattle.std.specs.List.{find}
use Rattle.dia_base.specs.declared.number.ConnId.{ConnId}
use Rattle.dia_base.specs.declared.number.NodeNo.{NodeNo}
use Rattle.dia_base.specs.declared.number.Moment.{Moment}
use Rattle.dia_message.specs.declared.message.Message.{Message}
use Rattle.dia_message.specs.Traffic.{Traffic}
use Rattle.cc_book.specs.declared.terms_change.TermsChange.{TermsChange}
use Rattle.cc_book.specs.Taking.{Ledger, after_sweep}
use Rattle.front_core.specs.ChangingTerms.{after_change}
use Rattle.front_core.specs.FrontState.{FrontState}
use Rattle.front_core.specs.FrontStep.{with_connection, after_pick, after_charge, after_refusal, after_emit}
use Rattle.relay_core.specs.declared.error.RelayError.{RelayError}
use Rattle.relay_core.specs.Connecting.{up_fault}
use Rattle.relay_core.specs.RelayState.{RelayState}
use Rattle.farm_base.specs.declared.site.Site.{Site}
use Rattle.farm_model.specs.declared.state.Direction.{Direction}
use Rattle.farm_model.specs.declared.state.FrontAt.{FrontAt}
use Rattle.farm_model.specs.declared.state.RelayAt.{RelayAt}
use Rattle.farm_base.specs.declared.step.Step.{Step}
use Rattle.farm_base.specs.declared.step.Step.TheVariants.{Up, Accept, Opened, Send, Deliver, Lose, Cut, Drop}
use Rattle.farm_base.specs.declared.step.Step.TheVariants.{Restart, Crash, Pick, Charge, Refuse, Emit, Sweep, ChangeTerms}
use Rattle.farm_model.specs.Arrival.{Arrives}
use Rattle.farm_base.specs.Lists.{replace_first}
use Rattle.farm_model.specs.Loss.{LossAt, EndGoes, end_with, CutsBoth, after_crash, peers_of, DropAll}
use Rattle.farm_base.specs.Nodes.{is_client, is_front, is_relay, is_linked}
use Rattle.farm_model.specs.World.{WorldState, is_between, is_heard, is_unheard, is_connected, knows, conn_known}
use Rattle.farm_model.specs.World.{with_message_from, with_traffic_from, with_front, front_at, with_relay, relay_at}

-- ---- accept, opened, up: a new connection, which first the one node learns and then the other

-- the number of the next connection
abbrev pub next_conn : WorldState → ConnId
next_conn w = record { 0 = length w.ends + 1 }

-- a front learns of a connection
abbrev pub with_connection_of : NodeNo → ConnId → List FrontAt → Option FrontState → List FrontAt
with_connection_of node conn fronts None = fronts
with_connection_of node conn fronts (Some front) = with_front node (with_connection front conn) fronts

abbrev pub with_connection_at : NodeNo → ConnId → List FrontAt → List FrontAt
with_connection_at node conn fronts = with_connection_of node conn fronts (front_at node fronts)

-- a relay learns of a connection with a peer; where the peer or the connection is up already, it stays as it is
abbrev pub after_up_by : RelayState → NodeNo → ConnId → Option RelayError → RelayState
after_up_by relay peer conn None = Rattle.relay_core.specs.Connecting.after_up relay peer conn
after_up_by relay peer conn (Some fault) = relay

abbrev pub with_link_of : NodeNo → NodeNo → ConnId → List RelayAt → Option RelayState → List RelayAt
with_link_of node peer conn relays None = relays
with_link_of node peer conn relays (Some relay) = with_relay node (after_up_by relay peer conn (up_fault relay peer conn)) relays

abbrev pub with_link_at : NodeNo → NodeNo → ConnId → List RelayAt → List RelayAt
with_link_at node peer conn relays = with_link_of node peer conn relays (relay_at node relays)

-- a direction without messages
abbrev pub empty_direction : ConnId → NodeNo → NodeNo → Bool → Direction
empty_direction conn from to known = record { conn = conn; from = from; to = to; known = known; messages = [] }

-- the one node has opened it, and the other, which it connects to, knows it
abbrev pub with_new_connection : WorldState → NodeNo → NodeNo → WorldState
with_new_connection w a b = record w {
  directions = w.directions ++ empty_direction (next_conn w) a b true ∷ empty_direction (next_conn w) b a false ∷ [];
  fronts = with_connection_at b (next_conn w) w.fronts;
  relays = with_link_at b a (next_conn w) w.relays;
  ends = w.ends ++ (a, b) ∷ [];
}

-- the site links them, and there is no connection, or both have dropped it
abbrev pub can_connect : Site → WorldState → NodeNo → NodeNo → Bool
can_connect site w a b = is_linked site a b && not (is_connected w.directions a b)

abbrev pub after_accept : Site → WorldState → NodeNo → NodeNo → Option WorldState
after_accept site w at from = if can_connect site w from at then Some (with_new_connection w from at) else None

-- the node that has opened it learns that it is made
abbrev pub after_opened_on : WorldState → NodeNo → NodeNo → Option Direction → Option WorldState
after_opened_on w a b None = None
after_opened_on w a b (Some direction) = Some (record w {
  directions = replace_first (is_unheard b a) (record direction { known = true }) w.directions;
  fronts = with_connection_at a direction.conn w.fronts;
  relays = with_link_at a b direction.conn w.relays;
})

abbrev pub after_opened : WorldState → NodeNo → NodeNo → Option WorldState
after_opened w a b = after_opened_on w a b (find (is_unheard b a) w.directions)

abbrev pub opened_if : NodeNo → NodeNo → Option WorldState → Option WorldState
opened_if a b None = None
opened_if a b (Some w) = after_opened w a b

-- one after the other
abbrev pub after_up : Site → WorldState → NodeNo → NodeNo → Option WorldState
after_up site w a b = opened_if a b (after_accept site w b a)

-- ---- send: a client that knows its connection puts a message in flight, which is lost where the other has dropped it

abbrev pub after_send_on : WorldState → NodeNo → Message → Option ConnId → Option WorldState
after_send_on w client message None = None
after_send_on w client message (Some conn) = Some (record w {
  directions = with_message_from client w.directions conn message;
  sent = w.sent ++ (conn, message) ∷ [];
})

abbrev pub after_send : Site → WorldState → NodeNo → NodeNo → Message → Option WorldState
after_send site w client to message = if is_client site client then after_send_on w client message (conn_known w.directions client to) else None

-- ---- deliver and lose: a message leaves its list, and the other node gets it, or nobody does

-- a message that was in flight, and the directions without it
pub record Flight : Type 0 where
  pub conn : ConnId
  pub message : Message
  pub directions : List Direction

abbrev pub flight_of : (Direction → Bool) → List Direction → ℕ → Direction → Option Message → Option Flight
flight_of test directions place direction None = None
flight_of test directions place direction (Some message) = Some (record {
  conn = direction.conn;
  message = message;
  directions = replace_first test (record direction { messages = remove direction.messages place }) directions;
})

abbrev pub flight_in : (Direction → Bool) → List Direction → ℕ → Option Direction → Option Flight
flight_in test directions place None = None
flight_in test directions place (Some direction) = flight_of test directions place direction (slice_get direction.messages place)

-- the message at this place, from 0, of those in flight in the first direction that passes
abbrev pub flight_where : (Direction → Bool) → List Direction → ℕ → Option Flight
flight_where test directions place = flight_in test directions place (find test directions)

-- of those in flight from one node to another, which knows the connection
abbrev pub flight_at : List Direction → NodeNo → NodeNo → ℕ → Option Flight
flight_at directions from to place = flight_where (is_heard from to) directions place

-- and whether it knows it or not
abbrev pub loss_at : List Direction → NodeNo → NodeNo → ℕ → Option Flight
loss_at directions from to place = flight_where (is_between from to) directions place

abbrev pub Delivers : Site → WorldState → NodeNo → Option Flight → Bool → WorldState → Type 0
Delivers site w to None applied next = (applied ≡ false) × (next ≡ w)
Delivers site w to (Some flight) applied next = (applied ≡ true) × Arrives site (record w { directions = flight.directions }) to flight.conn flight.message next

abbrev pub after_lost_message : WorldState → Option Flight → Option WorldState
after_lost_message w None = None
after_lost_message w (Some flight) = Some (record w { directions = flight.directions })

-- what a call takes out of flight: where there is no such message, nothing
abbrev pub IsRemoved : Option Flight → Option (ConnId × Message) → List Direction → List Direction → Type 0
IsRemoved None None old new = new ≡ old
IsRemoved None (Some item) old new = ⊥
IsRemoved (Some flight) None old new = ⊥
IsRemoved (Some flight) (Some item) old new = (item ≡ (flight.conn, flight.message)) × (new ≡ flight.directions)

-- ---- a worker of a front

abbrev pub with_pick : WorldState → NodeNo → Option FrontState → Option WorldState
with_pick w node None = None
with_pick w node (Some front) = Some (record w { fronts = with_front node front w.fronts })

abbrev pub after_pick_at : WorldState → NodeNo → ℕ → Option FrontState → Option WorldState
after_pick_at w node worker None = None
after_pick_at w node worker (Some front) = with_pick w node (after_pick front worker)

abbrev pub after_refusal_at : WorldState → NodeNo → ℕ → Option FrontState → Option WorldState
after_refusal_at w node worker None = None
after_refusal_at w node worker (Some front) = with_pick w node (after_refusal front worker)

abbrev pub with_emit : WorldState → NodeNo → Option (FrontState × Traffic) → Option WorldState
with_emit w node None = None
with_emit w node (Some turn) = Some (record w {
  directions = with_traffic_from node w.directions turn.1;
  fronts = with_front node turn.0 w.fronts;
})

abbrev pub after_emit_at : WorldState → NodeNo → ℕ → Option FrontState → Option WorldState
after_emit_at w node worker None = None
after_emit_at w node worker (Some front) = with_emit w node (after_emit front worker)

abbrev pub with_charge : WorldState → NodeNo → Option (FrontState × Ledger) → Option WorldState
with_charge w node None = None
with_charge w node (Some turn) = Some (record w { fronts = with_front node turn.0 w.fronts; book = turn.1 })

abbrev pub after_charge_at : WorldState → NodeNo → ℕ → Moment → Option FrontState → Option WorldState
after_charge_at w node worker moment None = None
after_charge_at w node worker moment (Some front) = with_charge w node (after_charge front w.book moment worker)

-- ---- sweep: the book ends the sessions that are due (RFC 8506, section 13)

abbrev pub after_sweep_at : WorldState → Moment → WorldState
after_sweep_at w moment = record w { book = after_sweep w.book moment }

-- ---- change of the terms: of the accounts that are there, and of the tariffs that hold

abbrev pub after_change_at : WorldState → Moment → TermsChange → WorldState
after_change_at w moment change = record w { book = after_change w.book moment change }

-- ---- drop, cut, crash and restart: connections end, and one node after the other learns it

abbrev pub DropsIt : WorldState → NodeNo → Option Direction → Bool → List LossAt → WorldState → Type 0
DropsIt w a found applied losses next = (applied ≡ is_some found) × EndGoes w a found losses next

-- one of the two knows it at least
abbrev pub can_cut : WorldState → NodeNo → NodeNo → Bool
can_cut w a b = knows w.directions a b || knows w.directions b a

abbrev pub Cuts : WorldState → NodeNo → NodeNo → Bool → List LossAt → WorldState → Type 0
Cuts w a b applied losses next =
    MatchBool (can_cut w a b) ((applied ≡ true) × CutsBoth w a b losses next) ((applied ≡ false) × (losses ≡ []) × (next ≡ w))

abbrev pub can_restart : Site → NodeNo → Bool
can_restart site node = is_relay site node || is_front site node

abbrev pub after_crash_at : Site → WorldState → NodeNo → Option WorldState
after_crash_at site w node = if can_restart site node then Some (after_crash w node) else None

abbrev pub Restarts : Site → WorldState → NodeNo → Bool → List LossAt → WorldState → Type 0
Restarts site w node applied losses next =
    MatchBool (can_restart site node)
    ((applied ≡ true) × DropAll node (peers_of node w.directions) (after_crash w node) losses next)
    ((applied ≡ false) × (losses ≡ []) × (next ≡ w))

-- ---- any step

-- whether a step applied, and what it left: where it does not apply, what was there before
abbrev pub Outcome : Option WorldState → Bool → WorldState → WorldState → Type 0
Outcome None applied old new = (applied ≡ false) × (new ≡ old)
Outcome (Some next) applied old new = (applied ≡ true) × (new ≡ next)

-- one step of the farm; of a cut, a drop and a restart it lists who learned of a lost connection
abbrev pub FarmStep : Site → WorldState → Step → Bool → List LossAt → WorldState → Type 0
FarmStep site old (Up a b) applied losses new = Outcome (after_up site old a b) applied old new × (losses ≡ [])
FarmStep site old (Accept at from) applied losses new = Outcome (after_accept site old at from) applied old new × (losses ≡ [])
FarmStep site old (Opened a b) applied losses new = Outcome (after_opened old a b) applied old new × (losses ≡ [])
FarmStep site old (Send client to message) applied losses new = Outcome (after_send site old client to message) applied old new × (losses ≡ [])
FarmStep site old (Deliver from to place) applied losses new = Delivers site old to (flight_at old.directions from to place) applied new × (losses ≡ [])
FarmStep site old (Lose from to place) applied losses new = Outcome (after_lost_message old (loss_at old.directions from to place)) applied old new ×
    (losses ≡ [])
FarmStep site old (Cut a b) applied losses new = Cuts old a b applied losses new
FarmStep site old (Drop a b) applied losses new = DropsIt old a (end_with old.directions a b) applied losses new
FarmStep site old (Restart node) applied losses new = Restarts site old node applied losses new
FarmStep site old (Crash node) applied losses new = Outcome (after_crash_at site old node) applied old new × (losses ≡ [])
FarmStep site old (Pick front worker) applied losses new = Outcome (after_pick_at old front worker (front_at front old.fronts)) applied old new × (losses ≡ [])
FarmStep site old (Charge front worker moment) applied losses new =
    Outcome (after_charge_at old front worker moment (front_at front old.fronts)) applied old new × (losses ≡ [])
FarmStep site old (Refuse front worker) applied losses new = Outcome (after_refusal_at old front worker (front_at front old.fronts)) applied old new ×
    (losses ≡ [])
FarmStep site old (Emit front worker) applied losses new = Outcome (after_emit_at old front worker (front_at front old.fronts)) applied old new × (losses ≡ [])
FarmStep site old (Sweep moment) applied losses new = Outcome (Some (after_sweep_at old moment)) applied old new × (losses ≡ [])
FarmStep site old (ChangeTerms moment change) applied losses new = Outcome (Some (after_change_at old moment change)) applied old new × (losses ≡ [])
