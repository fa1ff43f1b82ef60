-- Each row of the table keeps the order of a life.
use Rattle.std.proofs.Common.{ℕ, List, [], ◌∷◌, ◌++◌, Bool, true, false}
use Rattle.std.specs.Prelude.{if◌then◌else◌}
use Rattle.dia_base.specs.declared.number.Moment.{Moment}
use Rattle.dia_base.specs.declared.number.NodeNo.{NodeNo}
use Rattle.dia_message.specs.declared.message.Message.{Message}
use Rattle.farm_watch.specs.Capabilities.{avps_in, greeting_to, is_success, is_up}
use Rattle.farm_watch.specs.Life.{Event, came, ticked, closed, Phase, before_up, while_up, while_leaving, after_end, IsLife, acts_from, effect_of, life_of}
use Rattle.farm_watch.specs.PeerMessages.{dwr, kind_of}
use Rattle.farm_watch.specs.Table.{Connection, Effect, asks, drops, drops_where, has_passed, hears, identifier_after, on_close, on_goodbye, on_greeting, on_kind, on_tick, stays}
use Rattle.farm_watch.specs.declared.acts.Act.{Act}
use Rattle.farm_watch.specs.declared.acts.Act.TheVariants.{PeerUp}
use Rattle.farm_watch.specs.declared.kind.MessageKind.{MessageKind}
use Rattle.farm_watch.specs.declared.kind.MessageKind.TheVariants.{Cer, Cea, Dwr, Dwa, Dpr, Dpa, Other}
use Rattle.farm_watch.specs.declared.reading.Greeting.{Greeting}
use Rattle.farm_watch.specs.declared.reading.Greeting.TheVariants.{Unwelcome, NothingInCommon, Welcome}
use Rattle.farm_watch.specs.declared.site.Goodbyes.{Goodbyes}
use Rattle.farm_watch.specs.declared.site.Goodbyes.TheVariants.{EndAtOnce, LeaveClosing}
use Rattle.farm_watch.specs.declared.site.Side.{Side}
use Rattle.farm_watch.specs.declared.site.Side.TheVariants.{Connects, Accepts}
use Rattle.farm_watch.specs.declared.site.WatchSite.{WatchSite}
use Rattle.farm_watch.specs.declared.watch.Waits.{Waits}
use Rattle.farm_watch.specs.declared.watch.Waits.TheVariants.{ForCer, ForCea, ForMessage, ForDwa, ForDpa, ForClose, ForNothing}

abbrev pub phase_of : Waits → Phase
phase_of (ForCer since) = before_up
phase_of (ForCea node since) = before_up
phase_of (ForMessage since) = while_up
phase_of (ForDwa since) = while_up
phase_of (ForDpa since) = while_up
phase_of (ForClose since) = while_leaving
phase_of ForNothing = after_end

abbrev pub conn_with : Waits → ℕ → Connection
conn_with waits sent = record { waits = waits; sent = sent }

-- what follows the effect is a life from there on, so that the whole is one from here on
abbrev Keeps : Phase → Effect → List Act → Type 0
Keeps phase effect rest = IsLife (phase_of effect.next.waits) rest → IsLife phase (effect.acts ++ rest)

keeps-greeting : (site : WatchSite) (since : Moment) (sent : ℕ) (moment : Moment) (message : Message) (rest : List Act) (greeting : Greeting)
    → Keeps before_up (on_greeting site (conn_with (ForCer since) sent) moment message greeting) rest
keeps-greeting site since sent moment message rest Unwelcome = λ h. h
keeps-greeting site since sent moment message rest NothingInCommon = λ h. h
keeps-greeting site since sent moment message rest (Welcome node) = λ h. h

keeps-cea : (conn : Connection) (moment : Moment) (node : NodeNo) (rest : List Act) (connected succeeded : Bool)
    → Keeps before_up (if connected then drops conn else if succeeded then hears (PeerUp node ∷ []) conn moment else drops conn) rest
keeps-cea conn moment node rest true succeeded = λ h. h
keeps-cea conn moment node rest false true = λ h. h
keeps-cea conn moment node rest false false = λ h. h

keeps-goodbye : (site : WatchSite) (waits : Waits) (sent : ℕ) (moment : Moment) (message : Message) (rest : List Act) (goodbyes : Goodbyes)
    → Keeps while_up (on_goodbye goodbyes site (conn_with waits sent) moment message) rest
keeps-goodbye site waits sent moment message rest EndAtOnce = λ h. h
keeps-goodbye site waits sent moment message rest LeaveClosing = λ h. h

keeps-kind : (site : WatchSite) (nodes : List NodeNo) (sent : ℕ) (moment : Moment) (message : Message) (rest : List Act) (waits : Waits) (kind : MessageKind)
    → Keeps (phase_of waits) (on_kind site nodes (conn_with waits sent) moment message waits kind) rest
keeps-kind site nodes sent moment message rest (ForCer since) Cer =
    keeps-greeting site since sent moment message rest (greeting_to site nodes (avps_in message.body))
keeps-kind site nodes sent moment message rest (ForCer since) _ = λ h. h
keeps-kind site nodes sent moment message rest (ForCea node since) Cea =
    keeps-cea (conn_with (ForCea node since) sent) moment node rest (is_up nodes node) (is_success (avps_in message.body))
keeps-kind site nodes sent moment message rest (ForCea node since) _ = λ h. h
keeps-kind site nodes sent moment message rest (ForMessage since) Cer = λ h. h
keeps-kind site nodes sent moment message rest (ForMessage since) Cea = λ h. h
keeps-kind site nodes sent moment message rest (ForMessage since) Dwr = λ h. h
keeps-kind site nodes sent moment message rest (ForMessage since) Dwa = λ h. h
keeps-kind site nodes sent moment message rest (ForMessage since) Dpr = keeps-goodbye site (ForMessage since) sent moment message rest site.goodbyes
keeps-kind site nodes sent moment message rest (ForMessage since) Dpa = λ h. h
keeps-kind site nodes sent moment message rest (ForMessage since) Other = λ h. h
keeps-kind site nodes sent moment message rest (ForDwa since) Cer = λ h. h
keeps-kind site nodes sent moment message rest (ForDwa since) Cea = λ h. h
keeps-kind site nodes sent moment message rest (ForDwa since) Dwr = λ h. h
keeps-kind site nodes sent moment message rest (ForDwa since) Dwa = λ h. h
keeps-kind site nodes sent moment message rest (ForDwa since) Dpr = keeps-goodbye site (ForDwa since) sent moment message rest site.goodbyes
keeps-kind site nodes sent moment message rest (ForDwa since) Dpa = λ h. h
keeps-kind site nodes sent moment message rest (ForDwa since) Other = λ h. h
keeps-kind site nodes sent moment message rest (ForDpa since) Cer = λ h. h
keeps-kind site nodes sent moment message rest (ForDpa since) Cea = λ h. h
keeps-kind site nodes sent moment message rest (ForDpa since) Dwr = λ h. h
keeps-kind site nodes sent moment message rest (ForDpa since) Dwa = λ h. h
keeps-kind site nodes sent moment message rest (ForDpa since) Dpr = λ h. h
keeps-kind site nodes sent moment message rest (ForDpa since) Dpa = λ h. h
keeps-kind site nodes sent moment message rest (ForDpa since) Other = λ h. h
keeps-kind site nodes sent moment message rest (ForClose since) Cer = λ h. h
keeps-kind site nodes sent moment message rest (ForClose since) Cea = λ h. h
keeps-kind site nodes sent moment message rest (ForClose since) Dwr = λ h. h
keeps-kind site nodes sent moment message rest (ForClose since) Dwa = λ h. h
keeps-kind site nodes sent moment message rest (ForClose since) Dpr = λ h. h
keeps-kind site nodes sent moment message rest (ForClose since) Dpa = λ h. h
keeps-kind site nodes sent moment message rest (ForClose since) Other = λ h. h
keeps-kind site nodes sent moment message rest ForNothing Cer = λ h. h
keeps-kind site nodes sent moment message rest ForNothing Cea = λ h. h
keeps-kind site nodes sent moment message rest ForNothing Dwr = λ h. h
keeps-kind site nodes sent moment message rest ForNothing Dwa = λ h. h
keeps-kind site nodes sent moment message rest ForNothing Dpr = λ h. h
keeps-kind site nodes sent moment message rest ForNothing Dpa = λ h. h
keeps-kind site nodes sent moment message rest ForNothing Other = λ h. h

keeps-late : (conn : Connection) (rest : List Act) (late : Bool) → Keeps (phase_of conn.waits) (drops conn) rest
    → Keeps (phase_of conn.waits) (drops_where late conn) rest
keeps-late conn rest true drop = drop
keeps-late conn rest false drop = λ h. h

keeps-watchdog : (site : WatchSite) (since : Moment) (sent : ℕ) (moment : Moment) (rest : List Act) (late : Bool)
    → Keeps while_up (if late then asks (conn_with (ForMessage since) sent) (dwr site (identifier_after sent)) (ForDwa moment) else stays
    (conn_with (ForMessage since) sent)) rest
keeps-watchdog site since sent moment rest true = λ h. h
keeps-watchdog site since sent moment rest false = λ h. h

keeps-tick : (site : WatchSite) (sent : ℕ) (moment : Moment) (rest : List Act) (waits : Waits)
    → Keeps (phase_of waits) (on_tick site moment (conn_with waits sent) waits) rest
keeps-tick site sent moment rest (ForCer since) = keeps-late (conn_with (ForCer since) sent) rest (has_passed site since moment) (λ x. x)
keeps-tick site sent moment rest (ForCea node since) = keeps-late (conn_with (ForCea node since) sent) rest (has_passed site since moment) (λ x. x)
keeps-tick site sent moment rest (ForMessage since) = keeps-watchdog site since sent moment rest (has_passed site since moment)
keeps-tick site sent moment rest (ForDwa since) = keeps-late (conn_with (ForDwa since) sent) rest (has_passed site since moment) (λ x. x)
keeps-tick site sent moment rest (ForDpa since) = keeps-late (conn_with (ForDpa since) sent) rest (has_passed site since moment) (λ x. x)
keeps-tick site sent moment rest (ForClose since) = keeps-late (conn_with (ForClose since) sent) rest (has_passed site since moment) (λ x. x)
keeps-tick site sent moment rest ForNothing = λ h. h

keeps-close : (site : WatchSite) (sent : ℕ) (moment : Moment) (rest : List Act) (waits : Waits)
    → Keeps (phase_of waits) (on_close site moment (conn_with waits sent) waits) rest
keeps-close site sent moment rest (ForCer since) = λ h. h
keeps-close site sent moment rest (ForCea node since) = λ h. h
keeps-close site sent moment rest (ForMessage since) = λ h. h
keeps-close site sent moment rest (ForDwa since) = λ h. h
keeps-close site sent moment rest (ForDpa since) = λ h. h
keeps-close site sent moment rest (ForClose since) = λ h. h
keeps-close site sent moment rest ForNothing = λ h. h

keeps-event : (site : WatchSite) (conn : Connection) (rest : List Act) (event : Event) → Keeps (phase_of conn.waits) (effect_of site conn event) rest
keeps-event site conn rest (came nodes moment message) = keeps-kind site nodes conn.sent moment message rest conn.waits (kind_of message.header)
keeps-event site conn rest (ticked moment) = keeps-tick site conn.sent moment rest conn.waits
keeps-event site conn rest (closed moment) = keeps-close site conn.sent moment rest conn.waits

life-from : (site : WatchSite) (conn : Connection) (events : List Event) → IsLife (phase_of conn.waits) (acts_from site conn events)
life-from site conn [] = tt
life-from site conn (event ∷ events) =
    let next = (effect_of site conn event).next in
    keeps-event site conn (acts_from site next events) event (life-from site next events)

pub life : (site : WatchSite) (moment : Moment) (side : Side) (events : List Event) → IsLife before_up (life_of site moment side events)
life site moment Accepts events = life-from site (conn_with (ForCer moment) 0) events
life site moment (Connects node) events = life-from site (conn_with (ForCea node moment) 1) events
