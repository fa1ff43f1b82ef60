-- Each row of the table passes what it has to.
use Rattle.std.proofs.Common.{◌≡◌, ℕ, List, [], ◌∷◌, ◌++◌, Bool, true, false, refl, sym, ap, ◌∙◌}
use Rattle.std.specs.Prelude.{◌==◌, ◌||◌, if◌then◌else◌}
use Rattle.dia_base.specs.declared.number.Moment.{Moment}
use Rattle.dia_base.specs.declared.number.NodeNo.{NodeNo}
use Rattle.dia_message.specs.declared.message.Message.{Message}
use Rattle.farm_watch.specs.Capabilities.{avps_in, greeting_to, is_success, is_up}
use Rattle.farm_watch.specs.Life.{Event, came, ticked, closed, Phase, before_up, while_up, while_leaving, after_end, acts_from, effect_of, life_of}
use Rattle.farm_watch.specs.Numbers.{capabilities_exchange, device_watchdog, disconnect_peer}
use Rattle.farm_watch.specs.Passing.{brought, brought_by, is_of_life, passed, phase_behind, unless_of_life}
use Rattle.farm_watch.specs.PeerMessages.{dwr, either, kind_of}
use Rattle.farm_watch.specs.Table.{Connection, Effect, asks, beginning, drops, drops_where, has_passed, hears, identifier_after, on_close, on_goodbye, on_greeting, on_kind, on_tick, stays}
use Rattle.farm_watch.specs.declared.acts.Act.{Act}
use Rattle.farm_watch.specs.declared.acts.Act.TheVariants.{PeerUp}
use Rattle.farm_watch.specs.declared.kind.MessageKind.{MessageKind}
use Rattle.farm_watch.specs.declared.kind.MessageKind.TheVariants.{Cer, Cea, Dwr, Dwa, Dpr, Dpa, Other}
use Rattle.farm_watch.specs.declared.reading.Greeting.{Greeting}
use Rattle.farm_watch.specs.declared.reading.Greeting.TheVariants.{Unwelcome, NothingInCommon, Welcome}
use Rattle.farm_watch.specs.declared.site.Goodbyes.{Goodbyes}
use Rattle.farm_watch.specs.declared.site.Goodbyes.TheVariants.{EndAtOnce, LeaveClosing}
use Rattle.farm_watch.specs.declared.site.Side.{Side}
use Rattle.farm_watch.specs.declared.site.Side.TheVariants.{Connects, Accepts}
use Rattle.farm_watch.specs.declared.site.WatchSite.{WatchSite}
use Rattle.farm_watch.specs.declared.watch.Waits.{Waits}
use Rattle.farm_watch.specs.declared.watch.Waits.TheVariants.{ForCer, ForCea, ForMessage, ForDwa, ForDpa, ForClose, ForNothing}
use Rattle.farm_watch.proofs.Lives.{conn_with, phase_of}

-- ---- which kinds are of a connection's life

abbrev is_kind_of_life : MessageKind → Bool
is_kind_of_life Other = false
is_kind_of_life _ = true

either_of_life : (request : Bool) (asks answers : MessageKind) → is_kind_of_life asks ≡ true → is_kind_of_life answers ≡ true → is_kind_of_life (either request asks answers) ≡ true
either_of_life true asks answers a b = a
either_of_life false asks answers a b = b

by_commands : (request exchange watchdog goodbye : Bool)
    → is_kind_of_life (if exchange then either request Cer Cea else if watchdog then either request Dwr Dwa else if goodbye then either request Dpr Dpa else Other)
    ≡ (if exchange then true else if watchdog then true else goodbye)
by_commands request true watchdog goodbye = either_of_life request Cer Cea refl refl
by_commands request false true goodbye = either_of_life request Dwr Dwa refl refl
by_commands request false false true = either_of_life request Dpr Dpa refl refl
by_commands request false false false = refl

any_of : (a b c : Bool) → (if a then true else if b then true else c) ≡ (a || (b || c))
any_of true b c = refl
any_of false true c = refl
any_of false false c = refl

kind_is_of_life : (m : Message) → is_kind_of_life (kind_of m.header) ≡ is_of_life m
kind_is_of_life m =
    let command = m.header.command in
    by_commands m.header.request (command == capabilities_exchange) (command == device_watchdog) (command == disconnect_peer)
    ∙ any_of (command == capabilities_exchange) (command == device_watchdog) (command == disconnect_peer)

-- ---- rows

-- The phase behind the effect is that of what the connection then waits for, and the node is passed this.
abbrev Row : Phase → List Message → Effect → Type 0
Row phase messages effect =
    (phase_of effect.next.waits ≡ phase_behind phase effect.acts) × ((rest : List Act) → passed (effect.acts ++ rest) ≡ messages ++ passed rest)

-- a message of the connection's life is not the node's
of_life : (m : Message) → is_of_life m ≡ true → (rest : List Act) → passed rest ≡ unless_of_life m ++ passed rest
of_life m is rest = ap (λ (b : Bool). (if b then [] else m ∷ []) ++ passed rest) (sym is)

row-greeting : (site : WatchSite) (since : Moment) (sent : ℕ) (moment : Moment) (message : Message) (greeting : Greeting)
    → Row before_up [] (on_greeting site (conn_with (ForCer since) sent) moment message greeting)
row-greeting site since sent moment message Unwelcome = (refl, λ rest. refl)
row-greeting site since sent moment message NothingInCommon = (refl, λ rest. refl)
row-greeting site since sent moment message (Welcome node) = (refl, λ rest. refl)

row-cea : (node since-node : NodeNo) (since : Moment) (sent : ℕ) (moment : Moment) (connected succeeded : Bool)
    → Row before_up [] (if connected then drops (conn_with (ForCea since-node since) sent) else if succeeded then hears (PeerUp node ∷ []) (conn_with (ForCea since-node since) sent) moment else drops (conn_with (ForCea since-node since) sent))
row-cea node since-node since sent moment true succeeded = (refl, λ rest. refl)
row-cea node since-node since sent moment false true = (refl, λ rest. refl)
row-cea node since-node since sent moment false false = (refl, λ rest. refl)

row-goodbye : (site : WatchSite) (waits : Waits) (sent : ℕ) (moment : Moment) (message : Message) (goodbyes : Goodbyes) → is_of_life message ≡ true
    → Row while_up (unless_of_life message) (on_goodbye goodbyes site (conn_with waits sent) moment message)
row-goodbye site waits sent moment message EndAtOnce is = (refl, of_life message is)
row-goodbye site waits sent moment message LeaveClosing is = (refl, of_life message is)

abbrev mine : Waits → Message → List Message
mine waits m = brought (phase_of waits) (came [] (record { 0 = 0 }) m)

row-kind : (site : WatchSite) (nodes : List NodeNo) (sent : ℕ) (moment : Moment) (message : Message) (waits : Waits) (kind : MessageKind)
    → is_of_life message ≡ is_kind_of_life kind
    → Row (phase_of waits) (mine waits message) (on_kind site nodes (conn_with waits sent) moment message waits kind)
row-kind site nodes sent moment message (ForCer since) Cer is = row-greeting site since sent moment message (greeting_to site nodes (avps_in message.body))
row-kind site nodes sent moment message (ForCer since) _ is = (refl, λ rest. refl)
row-kind site nodes sent moment message (ForCea node since) Cea is = row-cea node node since sent moment (is_up nodes node) (is_success (avps_in message.body))
row-kind site nodes sent moment message (ForCea node since) _ is = (refl, λ rest. refl)
row-kind site nodes sent moment message (ForMessage since) Cer is = (refl, of_life message is)
row-kind site nodes sent moment message (ForMessage since) Cea is = (refl, of_life message is)
row-kind site nodes sent moment message (ForMessage since) Dwr is = (refl, of_life message is)
row-kind site nodes sent moment message (ForMessage since) Dwa is = (refl, of_life message is)
row-kind site nodes sent moment message (ForMessage since) Dpr is = row-goodbye site (ForMessage since) sent moment message site.goodbyes is
row-kind site nodes sent moment message (ForMessage since) Dpa is = (refl, λ rest. refl)
row-kind site nodes sent moment message (ForMessage since) Other is = (refl, λ rest. refl)
row-kind site nodes sent moment message (ForDwa since) Cer is = (refl, of_life message is)
row-kind site nodes sent moment message (ForDwa since) Cea is = (refl, of_life message is)
row-kind site nodes sent moment message (ForDwa since) Dwr is = (refl, of_life message is)
row-kind site nodes sent moment message (ForDwa since) Dwa is = (refl, of_life message is)
row-kind site nodes sent moment message (ForDwa since) Dpr is = row-goodbye site (ForDwa since) sent moment message site.goodbyes is
row-kind site nodes sent moment message (ForDwa since) Dpa is = (refl, λ rest. refl)
row-kind site nodes sent moment message (ForDwa since) Other is = (refl, λ rest. refl)
row-kind site nodes sent moment message (ForDpa since) Cer is = (refl, of_life message is)
row-kind site nodes sent moment message (ForDpa since) Cea is = (refl, of_life message is)
row-kind site nodes sent moment message (ForDpa since) Dwr is = (refl, of_life message is)
row-kind site nodes sent moment message (ForDpa since) Dwa is = (refl, of_life message is)
row-kind site nodes sent moment message (ForDpa since) Dpr is = (refl, of_life message is)
row-kind site nodes sent moment message (ForDpa since) Dpa is = (refl, of_life message is)
row-kind site nodes sent moment message (ForDpa since) Other is = (refl, λ rest. refl)
row-kind site nodes sent moment message (ForClose since) Cer is = (refl, of_life message is)
row-kind site nodes sent moment message (ForClose since) Cea is = (refl, of_life message is)
row-kind site nodes sent moment message (ForClose since) Dwr is = (refl, of_life message is)
row-kind site nodes sent moment message (ForClose since) Dwa is = (refl, of_life message is)
row-kind site nodes sent moment message (ForClose since) Dpr is = (refl, of_life message is)
row-kind site nodes sent moment message (ForClose since) Dpa is = (refl, λ rest. refl)
row-kind site nodes sent moment message (ForClose since) Other is = (refl, λ rest. refl)
row-kind site nodes sent moment message ForNothing Cer is = (refl, λ rest. refl)
row-kind site nodes sent moment message ForNothing Cea is = (refl, λ rest. refl)
row-kind site nodes sent moment message ForNothing Dwr is = (refl, λ rest. refl)
row-kind site nodes sent moment message ForNothing Dwa is = (refl, λ rest. refl)
row-kind site nodes sent moment message ForNothing Dpr is = (refl, λ rest. refl)
row-kind site nodes sent moment message ForNothing Dpa is = (refl, λ rest. refl)
row-kind site nodes sent moment message ForNothing Other is = (refl, λ rest. refl)

row-late : (waits : Waits) (sent : ℕ) (late : Bool) → Row (phase_of waits) [] (drops (conn_with waits sent)) → Row (phase_of waits) [] (drops_where late (conn_with waits sent))
row-late waits sent true drop = drop
row-late waits sent false drop = (refl, λ rest. refl)

row-watchdog : (site : WatchSite) (since : Moment) (sent : ℕ) (moment : Moment) (late : Bool)
    → Row while_up [] (if late then asks (conn_with (ForMessage since) sent) (dwr site (identifier_after sent)) (ForDwa moment) else stays (conn_with (ForMessage since) sent))
row-watchdog site since sent moment true = (refl, λ rest. refl)
row-watchdog site since sent moment false = (refl, λ rest. refl)

row-tick : (site : WatchSite) (sent : ℕ) (moment : Moment) (waits : Waits) → Row (phase_of waits) [] (on_tick site moment (conn_with waits sent) waits)
row-tick site sent moment (ForCer since) = row-late (ForCer since) sent (has_passed site since moment) (refl, λ rest. refl)
row-tick site sent moment (ForCea node since) = row-late (ForCea node since) sent (has_passed site since moment) (refl, λ rest. refl)
row-tick site sent moment (ForMessage since) = row-watchdog site since sent moment (has_passed site since moment)
row-tick site sent moment (ForDwa since) = row-late (ForDwa since) sent (has_passed site since moment) (refl, λ rest. refl)
row-tick site sent moment (ForDpa since) = row-late (ForDpa since) sent (has_passed site since moment) (refl, λ rest. refl)
row-tick site sent moment (ForClose since) = row-late (ForClose since) sent (has_passed site since moment) (refl, λ rest. refl)
row-tick site sent moment ForNothing = (refl, λ rest. refl)

row-close : (site : WatchSite) (sent : ℕ) (moment : Moment) (waits : Waits) → Row (phase_of waits) [] (on_close site moment (conn_with waits sent) waits)
row-close site sent moment (ForCer since) = (refl, λ rest. refl)
row-close site sent moment (ForCea node since) = (refl, λ rest. refl)
row-close site sent moment (ForMessage since) = (refl, λ rest. refl)
row-close site sent moment (ForDwa since) = (refl, λ rest. refl)
row-close site sent moment (ForDpa since) = (refl, λ rest. refl)
row-close site sent moment (ForClose since) = (refl, λ rest. refl)
row-close site sent moment ForNothing = (refl, λ rest. refl)

-- what an event brings depends on the phase and the message alone
brought_same : (phase : Phase) (nodes : List NodeNo) (moment : Moment) (m : Message) → brought phase (came [] (record { 0 = 0 }) m) ≡ brought phase (came nodes moment m)
brought_same before_up nodes moment m = refl
brought_same while_up nodes moment m = refl
brought_same while_leaving nodes moment m = refl
brought_same after_end nodes moment m = refl

row-came : (site : WatchSite) (conn : Connection) (nodes : List NodeNo) (moment : Moment) (message : Message)
    → Row (phase_of conn.waits) (brought (phase_of conn.waits) (came nodes moment message)) (effect_of site conn (came nodes moment message))
row-came site conn nodes moment message =
    let row = row-kind site nodes conn.sent moment message conn.waits (kind_of message.header) (sym (kind_is_of_life message)) in
    (row.0, λ rest. row.1 rest ∙ ap (λ (ms : List Message). ms ++ passed rest) (brought_same (phase_of conn.waits) nodes moment message))

quiet-ticked : (phase : Phase) (moment : Moment) → [] ≡ brought phase (ticked moment)
quiet-ticked before_up moment = refl
quiet-ticked while_up moment = refl
quiet-ticked while_leaving moment = refl
quiet-ticked after_end moment = refl

quiet-closed : (phase : Phase) (moment : Moment) → [] ≡ brought phase (closed moment)
quiet-closed before_up moment = refl
quiet-closed while_up moment = refl
quiet-closed while_leaving moment = refl
quiet-closed after_end moment = refl

row-event : (site : WatchSite) (conn : Connection) (event : Event) → Row (phase_of conn.waits) (brought (phase_of conn.waits) event) (effect_of site conn event)
row-event site conn (came nodes moment message) = row-came site conn nodes moment message
row-event site conn (ticked moment) =
    let row = row-tick site conn.sent moment conn.waits in
    (row.0, λ rest. row.1 rest ∙ ap (λ (ms : List Message). ms ++ passed rest) (quiet-ticked (phase_of conn.waits) moment))
row-event site conn (closed moment) =
    let row = row-close site conn.sent moment conn.waits in
    (row.0, λ rest. row.1 rest ∙ ap (λ (ms : List Message). ms ++ passed rest) (quiet-closed (phase_of conn.waits) moment))

-- ---- a whole life

passed_from : (site : WatchSite) (conn : Connection) (events : List Event) → passed (acts_from site conn events) ≡ brought_by site conn (phase_of conn.waits) events
passed_from site conn [] = refl
passed_from site conn (event ∷ events) =
    let effect = effect_of site conn event in
    let row = row-event site conn event in
    row.1 (acts_from site effect.next events)
    ∙ ap (λ (ms : List Message). brought (phase_of conn.waits) event ++ ms)
    (passed_from site effect.next events ∙ ap (λ (phase : Phase). brought_by site effect.next phase events) row.0)

pub passed_in_life : (site : WatchSite) (moment : Moment) (side : Side) (events : List Event)
    → passed (life_of site moment side events) ≡ brought_by site (beginning site moment side).next before_up events
passed_in_life site moment Accepts events = passed_from site (conn_with (ForCer moment) 0) events
passed_in_life site moment (Connects node) events = passed_from site (conn_with (ForCea node moment) 1) events
