-- Each row of the table behind a goodbye.
use Rattle.std.proofs.Common.{◌≡◌, ℕ, List, [], ◌∷◌, ◌&&◌, not, Bool, true, false, refl, ap, sym}
use Rattle.std.specs.Prelude.{if◌then◌else◌}
use Rattle.dia_base.specs.declared.number.Moment.{Moment}
use Rattle.dia_base.specs.declared.number.NodeNo.{NodeNo}
use Rattle.dia_message.specs.declared.header.Header.{Header}
use Rattle.dia_message.specs.declared.message.Message.{Message}
use Rattle.farm_watch.specs.Capabilities.{avps_in, greeting_to, is_success, is_up}
use Rattle.farm_watch.specs.Causes.{cause_in}
use Rattle.farm_watch.specs.Parting.{SendsAnswersAlone, has_parted, is_open, is_parting, tells_leaving}
use Rattle.farm_watch.specs.Life.{Event, came, ticked, closed, effect_of}
use Rattle.farm_watch.specs.PeerMessages.{dwr, kind_of, success_to}
use Rattle.farm_watch.specs.Table.{Connection, Effect, after_message, asks, drops, drops_where, has_passed, hears, identifier_after, on_close, on_goodbye, on_greeting, on_kind, on_tick, stays}
use Rattle.farm_watch.specs.declared.acts.Act.TheVariants.{Send, PeerUp, PeerLeaves}
use Rattle.farm_watch.specs.declared.kind.MessageKind.{MessageKind}
use Rattle.farm_watch.specs.declared.kind.MessageKind.TheVariants.{Cer, Cea, Dwr, Dwa, Dpr, Dpa, Other}
use Rattle.farm_watch.specs.declared.reading.Greeting.{Greeting}
use Rattle.farm_watch.specs.declared.reading.Greeting.TheVariants.{Unwelcome, NothingInCommon, Welcome}
use Rattle.farm_watch.specs.declared.site.Goodbyes.{Goodbyes}
use Rattle.farm_watch.specs.declared.site.Goodbyes.TheVariants.{EndAtOnce, LeaveClosing}
use Rattle.farm_watch.specs.declared.site.WatchSite.{WatchSite}
use Rattle.farm_watch.specs.declared.watch.Waits.{Waits}
use Rattle.farm_watch.specs.declared.watch.Waits.TheVariants.{ForCer, ForCea, ForMessage, ForDwa, ForDpa, ForClose, ForNothing}
use Rattle.farm_watch.proofs.Lives.{conn_with}

-- ---- at a goodbye

-- the goodbye is answered, the node here is told of it and of its cause, and the connection waits to be closed
abbrev Parts : WatchSite → Moment → Message → Effect → Type 0
Parts site moment m effect =
    (effect.acts ≡ Send (success_to site m.header) ∷ PeerLeaves (cause_in (avps_in m.body)) ∷ []) × (effect.next.waits ≡ ForClose moment)

parts-so : (site : WatchSite) (waits : Waits) (sent : ℕ) (moment : Moment) (m : Message) (goodbyes : Goodbyes) → goodbyes ≡ LeaveClosing
    → Parts site moment m (on_goodbye goodbyes site (conn_with waits sent) moment m)
parts-so site waits sent moment m EndAtOnce leaves = absurd cc
parts-so site waits sent moment m LeaveClosing leaves = (refl, refl)

parts-kind : (site : WatchSite) (nodes : List NodeNo) (sent : ℕ) (moment : Moment) (m : Message) (waits : Waits) (kind : MessageKind)
    → site.goodbyes ≡ LeaveClosing → is_open waits ≡ true → kind ≡ Dpr → Parts site moment m (on_kind site nodes (conn_with waits sent) moment m waits kind)
parts-kind site nodes sent moment m (ForCer since) kind leaves up is = absurd cc
parts-kind site nodes sent moment m (ForCea node since) kind leaves up is = absurd cc
parts-kind site nodes sent moment m (ForDpa since) kind leaves up is = absurd cc
parts-kind site nodes sent moment m (ForClose since) kind leaves up is = absurd cc
parts-kind site nodes sent moment m ForNothing kind leaves up is = absurd cc
parts-kind site nodes sent moment m (ForMessage since) Cer leaves up is = absurd cc
parts-kind site nodes sent moment m (ForMessage since) Cea leaves up is = absurd cc
parts-kind site nodes sent moment m (ForMessage since) Dwr leaves up is = absurd cc
parts-kind site nodes sent moment m (ForMessage since) Dwa leaves up is = absurd cc
parts-kind site nodes sent moment m (ForMessage since) Dpr leaves up is = parts-so site (ForMessage since) sent moment m site.goodbyes leaves
parts-kind site nodes sent moment m (ForMessage since) Dpa leaves up is = absurd cc
parts-kind site nodes sent moment m (ForMessage since) Other leaves up is = absurd cc
parts-kind site nodes sent moment m (ForDwa since) Cer leaves up is = absurd cc
parts-kind site nodes sent moment m (ForDwa since) Cea leaves up is = absurd cc
parts-kind site nodes sent moment m (ForDwa since) Dwr leaves up is = absurd cc
parts-kind site nodes sent moment m (ForDwa since) Dwa leaves up is = absurd cc
parts-kind site nodes sent moment m (ForDwa since) Dpr leaves up is = parts-so site (ForDwa since) sent moment m site.goodbyes leaves
parts-kind site nodes sent moment m (ForDwa since) Dpa leaves up is = absurd cc
parts-kind site nodes sent moment m (ForDwa since) Other leaves up is = absurd cc

pub parts : (site : WatchSite) (nodes : List NodeNo) (moment : Moment) (m : Message) (conn : Connection) → site.goodbyes ≡ LeaveClosing
    → is_open conn.waits ≡ true → kind_of m.header ≡ Dpr
    → Parts site moment m (after_message site nodes moment m conn)
parts site nodes moment m conn leaves up is = parts-kind site nodes conn.sent moment m conn.waits (kind_of m.header) leaves up is

-- ---- behind it

no_request : (site : WatchSite) (request : Header) → (success_to site request).header.request ≡ false
unfolding success_to
no_request site request = refl

-- answers alone are sent, and it has parted still
abbrev Behind : Effect → Type 0
Behind effect = SendsAnswersAlone effect.acts × (has_parted effect.next.waits ≡ true)

behind-late : (since : Moment) (sent : ℕ) (late : Bool) → Behind (drops_where late (conn_with (ForClose since) sent))
behind-late since sent true = (tt, refl)
behind-late since sent false = (tt, refl)

behind-kind : (site : WatchSite) (nodes : List NodeNo) (sent : ℕ) (moment : Moment) (m : Message) (waits : Waits) (kind : MessageKind) → has_parted waits ≡ true
    → Behind (on_kind site nodes (conn_with waits sent) moment m waits kind)
behind-kind site nodes sent moment m (ForCer since) kind has = absurd cc
behind-kind site nodes sent moment m (ForCea node since) kind has = absurd cc
behind-kind site nodes sent moment m (ForMessage since) kind has = absurd cc
behind-kind site nodes sent moment m (ForDwa since) kind has = absurd cc
behind-kind site nodes sent moment m (ForDpa since) kind has = absurd cc
behind-kind site nodes sent moment m (ForClose since) Cer has = (tt, refl)
behind-kind site nodes sent moment m (ForClose since) Cea has = (tt, refl)
behind-kind site nodes sent moment m (ForClose since) Dwr has = ((no_request site m.header, tt), refl)
behind-kind site nodes sent moment m (ForClose since) Dwa has = (tt, refl)
behind-kind site nodes sent moment m (ForClose since) Dpr has = ((no_request site m.header, tt), refl)
behind-kind site nodes sent moment m (ForClose since) Dpa has = (tt, refl)
behind-kind site nodes sent moment m (ForClose since) Other has = (tt, refl)
behind-kind site nodes sent moment m ForNothing Cer has = (tt, refl)
behind-kind site nodes sent moment m ForNothing Cea has = (tt, refl)
behind-kind site nodes sent moment m ForNothing Dwr has = (tt, refl)
behind-kind site nodes sent moment m ForNothing Dwa has = (tt, refl)
behind-kind site nodes sent moment m ForNothing Dpr has = (tt, refl)
behind-kind site nodes sent moment m ForNothing Dpa has = (tt, refl)
behind-kind site nodes sent moment m ForNothing Other has = (tt, refl)

behind-tick : (site : WatchSite) (sent : ℕ) (moment : Moment) (waits : Waits) → has_parted waits ≡ true → Behind (on_tick site moment (conn_with waits sent) waits)
behind-tick site sent moment (ForCer since) has = absurd cc
behind-tick site sent moment (ForCea node since) has = absurd cc
behind-tick site sent moment (ForMessage since) has = absurd cc
behind-tick site sent moment (ForDwa since) has = absurd cc
behind-tick site sent moment (ForDpa since) has = absurd cc
behind-tick site sent moment (ForClose since) has = behind-late since sent (has_passed site since moment)
behind-tick site sent moment ForNothing has = (tt, refl)

behind-close : (site : WatchSite) (sent : ℕ) (moment : Moment) (waits : Waits) → has_parted waits ≡ true → Behind (on_close site moment (conn_with waits sent) waits)
behind-close site sent moment (ForCer since) has = absurd cc
behind-close site sent moment (ForCea node since) has = absurd cc
behind-close site sent moment (ForMessage since) has = absurd cc
behind-close site sent moment (ForDwa since) has = absurd cc
behind-close site sent moment (ForDpa since) has = absurd cc
behind-close site sent moment (ForClose since) has = (tt, refl)
behind-close site sent moment ForNothing has = (tt, refl)

pub behind : (site : WatchSite) (conn : Connection) (event : Event) → has_parted conn.waits ≡ true → Behind (effect_of site conn event)
behind site conn (came nodes moment m) has = behind-kind site nodes conn.sent moment m conn.waits (kind_of m.header) has
behind site conn (ticked moment) has = behind-tick site conn.sent moment conn.waits has
behind site conn (closed moment) has = behind-close site conn.sent moment conn.waits has

-- ---- without the word

abbrev Stays : Effect → Type 0
Stays effect = is_parting effect.next.waits ≡ false

ends-so : (site : WatchSite) (waits : Waits) (sent : ℕ) (moment : Moment) (m : Message) (goodbyes : Goodbyes) → goodbyes ≡ EndAtOnce
    → Stays (on_goodbye goodbyes site (conn_with waits sent) moment m)
ends-so site waits sent moment m EndAtOnce at_once = refl
ends-so site waits sent moment m LeaveClosing at_once = absurd cc

ends-greeting : (site : WatchSite) (since : Moment) (sent : ℕ) (moment : Moment) (m : Message) (greeting : Greeting)
    → Stays (on_greeting site (conn_with (ForCer since) sent) moment m greeting)
ends-greeting site since sent moment m Unwelcome = refl
ends-greeting site since sent moment m NothingInCommon = refl
ends-greeting site since sent moment m (Welcome node) = refl

ends-cea : (conn : Connection) (moment : Moment) (node : NodeNo) (connected succeeded : Bool)
    → Stays (if connected then drops conn else if succeeded then hears (PeerUp node ∷ []) conn moment else drops conn)
ends-cea conn moment node true succeeded = refl
ends-cea conn moment node false true = refl
ends-cea conn moment node false false = refl

ends-kind : (site : WatchSite) (nodes : List NodeNo) (sent : ℕ) (moment : Moment) (m : Message) (waits : Waits) (kind : MessageKind) → site.goodbyes ≡ EndAtOnce
    → is_parting waits ≡ false → Stays (on_kind site nodes (conn_with waits sent) moment m waits kind)
ends-kind site nodes sent moment m (ForCer since) Cer at_once is = ends-greeting site since sent moment m (greeting_to site nodes (avps_in m.body))
ends-kind site nodes sent moment m (ForCer since) _ at_once is = refl
ends-kind site nodes sent moment m (ForCea node since) Cea at_once is =
    ends-cea (conn_with (ForCea node since) sent) moment node (is_up nodes node) (is_success (avps_in m.body))
ends-kind site nodes sent moment m (ForCea node since) _ at_once is = refl
ends-kind site nodes sent moment m (ForMessage since) Cer at_once is = refl
ends-kind site nodes sent moment m (ForMessage since) Cea at_once is = refl
ends-kind site nodes sent moment m (ForMessage since) Dwr at_once is = refl
ends-kind site nodes sent moment m (ForMessage since) Dwa at_once is = refl
ends-kind site nodes sent moment m (ForMessage since) Dpr at_once is = ends-so site (ForMessage since) sent moment m site.goodbyes at_once
ends-kind site nodes sent moment m (ForMessage since) Dpa at_once is = refl
ends-kind site nodes sent moment m (ForMessage since) Other at_once is = refl
ends-kind site nodes sent moment m (ForDwa since) Cer at_once is = refl
ends-kind site nodes sent moment m (ForDwa since) Cea at_once is = refl
ends-kind site nodes sent moment m (ForDwa since) Dwr at_once is = refl
ends-kind site nodes sent moment m (ForDwa since) Dwa at_once is = refl
ends-kind site nodes sent moment m (ForDwa since) Dpr at_once is = ends-so site (ForDwa since) sent moment m site.goodbyes at_once
ends-kind site nodes sent moment m (ForDwa since) Dpa at_once is = refl
ends-kind site nodes sent moment m (ForDwa since) Other at_once is = refl
ends-kind site nodes sent moment m (ForDpa since) Cer at_once is = refl
ends-kind site nodes sent moment m (ForDpa since) Cea at_once is = refl
ends-kind site nodes sent moment m (ForDpa since) Dwr at_once is = refl
ends-kind site nodes sent moment m (ForDpa since) Dwa at_once is = refl
ends-kind site nodes sent moment m (ForDpa since) Dpr at_once is = refl
ends-kind site nodes sent moment m (ForDpa since) Dpa at_once is = refl
ends-kind site nodes sent moment m (ForDpa since) Other at_once is = refl
ends-kind site nodes sent moment m (ForClose since) kind at_once is = absurd cc
ends-kind site nodes sent moment m ForNothing Cer at_once is = refl
ends-kind site nodes sent moment m ForNothing Cea at_once is = refl
ends-kind site nodes sent moment m ForNothing Dwr at_once is = refl
ends-kind site nodes sent moment m ForNothing Dwa at_once is = refl
ends-kind site nodes sent moment m ForNothing Dpr at_once is = refl
ends-kind site nodes sent moment m ForNothing Dpa at_once is = refl
ends-kind site nodes sent moment m ForNothing Other at_once is = refl

ends-late : (conn : Connection) (late : Bool) → is_parting conn.waits ≡ false → Stays (drops_where late conn)
ends-late conn true is = refl
ends-late conn false is = is

ends-watchdog : (site : WatchSite) (since : Moment) (sent : ℕ) (moment : Moment) (late : Bool)
    → Stays (if late then asks (conn_with (ForMessage since) sent) (dwr site (identifier_after sent)) (ForDwa moment) else stays (conn_with (ForMessage since) sent))
ends-watchdog site since sent moment true = refl
ends-watchdog site since sent moment false = refl

ends-tick : (site : WatchSite) (sent : ℕ) (moment : Moment) (waits : Waits) → is_parting waits ≡ false → Stays (on_tick site moment (conn_with waits sent) waits)
ends-tick site sent moment (ForCer since) is = ends-late (conn_with (ForCer since) sent) (has_passed site since moment) refl
ends-tick site sent moment (ForCea node since) is = ends-late (conn_with (ForCea node since) sent) (has_passed site since moment) refl
ends-tick site sent moment (ForDwa since) is = ends-late (conn_with (ForDwa since) sent) (has_passed site since moment) refl
ends-tick site sent moment (ForDpa since) is = ends-late (conn_with (ForDpa since) sent) (has_passed site since moment) refl
ends-tick site sent moment (ForMessage since) is = ends-watchdog site since sent moment (has_passed site since moment)
ends-tick site sent moment (ForClose since) is = absurd cc
ends-tick site sent moment ForNothing is = refl

ends-close : (site : WatchSite) (sent : ℕ) (moment : Moment) (waits : Waits) → is_parting waits ≡ false → Stays (on_close site moment (conn_with waits sent) waits)
ends-close site sent moment (ForCer since) is = refl
ends-close site sent moment (ForCea node since) is = refl
ends-close site sent moment (ForMessage since) is = refl
ends-close site sent moment (ForDwa since) is = refl
ends-close site sent moment (ForDpa since) is = refl
ends-close site sent moment (ForClose since) is = absurd cc
ends-close site sent moment ForNothing is = refl

pub ends_at_once : (site : WatchSite) (conn : Connection) (event : Event) → site.goodbyes ≡ EndAtOnce → is_parting conn.waits ≡ false
    → is_parting (effect_of site conn event).next.waits ≡ false
ends_at_once site conn (came nodes moment m) at_once is = ends-kind site nodes conn.sent moment m conn.waits (kind_of m.header) at_once is
ends_at_once site conn (ticked moment) at_once is = ends-tick site conn.sent moment conn.waits is
ends_at_once site conn (closed moment) at_once is = ends-close site conn.sent moment conn.waits is

-- ---- whom the node here is told of

-- it is told exactly where the connection begins to wait to be closed
abbrev Tells : Waits → Effect → Type 0
Tells waits effect = tells_leaving effect.acts ≡ (is_parting effect.next.waits && not (is_parting waits))

tells-goodbye : (site : WatchSite) (waits : Waits) (sent : ℕ) (moment : Moment) (m : Message) (goodbyes : Goodbyes) → is_parting waits ≡ false
    → Tells waits (on_goodbye goodbyes site (conn_with waits sent) moment m)
tells-goodbye site waits sent moment m EndAtOnce is = refl
tells-goodbye site waits sent moment m LeaveClosing is = ap (λ (b : Bool). not b) (sym is)

tells-greeting : (site : WatchSite) (since : Moment) (sent : ℕ) (moment : Moment) (m : Message) (greeting : Greeting)
    → Tells (ForCer since) (on_greeting site (conn_with (ForCer since) sent) moment m greeting)
tells-greeting site since sent moment m Unwelcome = refl
tells-greeting site since sent moment m NothingInCommon = refl
tells-greeting site since sent moment m (Welcome node) = refl

tells-cea : (conn : Connection) (moment : Moment) (node other : NodeNo) (since : Moment) (connected succeeded : Bool)
    → Tells (ForCea other since) (if connected then drops conn else if succeeded then hears (PeerUp node ∷ []) conn moment else drops conn)
tells-cea conn moment node other since true succeeded = refl
tells-cea conn moment node other since false true = refl
tells-cea conn moment node other since false false = refl

tells-kind : (site : WatchSite) (nodes : List NodeNo) (sent : ℕ) (moment : Moment) (m : Message) (waits : Waits) (kind : MessageKind)
    → Tells waits (on_kind site nodes (conn_with waits sent) moment m waits kind)
tells-kind site nodes sent moment m (ForCer since) Cer = tells-greeting site since sent moment m (greeting_to site nodes (avps_in m.body))
tells-kind site nodes sent moment m (ForCer since) _ = refl
tells-kind site nodes sent moment m (ForCea node since) Cea =
    tells-cea (conn_with (ForCea node since) sent) moment node node since (is_up nodes node) (is_success (avps_in m.body))
tells-kind site nodes sent moment m (ForCea node since) _ = refl
tells-kind site nodes sent moment m (ForMessage since) Cer = refl
tells-kind site nodes sent moment m (ForMessage since) Cea = refl
tells-kind site nodes sent moment m (ForMessage since) Dwr = refl
tells-kind site nodes sent moment m (ForMessage since) Dwa = refl
tells-kind site nodes sent moment m (ForMessage since) Dpr = tells-goodbye site (ForMessage since) sent moment m site.goodbyes refl
tells-kind site nodes sent moment m (ForMessage since) Dpa = refl
tells-kind site nodes sent moment m (ForMessage since) Other = refl
tells-kind site nodes sent moment m (ForDwa since) Cer = refl
tells-kind site nodes sent moment m (ForDwa since) Cea = refl
tells-kind site nodes sent moment m (ForDwa since) Dwr = refl
tells-kind site nodes sent moment m (ForDwa since) Dwa = refl
tells-kind site nodes sent moment m (ForDwa since) Dpr = tells-goodbye site (ForDwa since) sent moment m site.goodbyes refl
tells-kind site nodes sent moment m (ForDwa since) Dpa = refl
tells-kind site nodes sent moment m (ForDwa since) Other = refl
tells-kind site nodes sent moment m (ForDpa since) Cer = refl
tells-kind site nodes sent moment m (ForDpa since) Cea = refl
tells-kind site nodes sent moment m (ForDpa since) Dwr = refl
tells-kind site nodes sent moment m (ForDpa since) Dwa = refl
tells-kind site nodes sent moment m (ForDpa since) Dpr = refl
tells-kind site nodes sent moment m (ForDpa since) Dpa = refl
tells-kind site nodes sent moment m (ForDpa since) Other = refl
tells-kind site nodes sent moment m (ForClose since) Cer = refl
tells-kind site nodes sent moment m (ForClose since) Cea = refl
tells-kind site nodes sent moment m (ForClose since) Dwr = refl
tells-kind site nodes sent moment m (ForClose since) Dwa = refl
tells-kind site nodes sent moment m (ForClose since) Dpr = refl
tells-kind site nodes sent moment m (ForClose since) Dpa = refl
tells-kind site nodes sent moment m (ForClose since) Other = refl
tells-kind site nodes sent moment m ForNothing Cer = refl
tells-kind site nodes sent moment m ForNothing Cea = refl
tells-kind site nodes sent moment m ForNothing Dwr = refl
tells-kind site nodes sent moment m ForNothing Dwa = refl
tells-kind site nodes sent moment m ForNothing Dpr = refl
tells-kind site nodes sent moment m ForNothing Dpa = refl
tells-kind site nodes sent moment m ForNothing Other = refl

tells-late : (waits : Waits) (sent : ℕ) (late : Bool) → Tells waits (drops (conn_with waits sent)) → Tells waits (stays (conn_with waits sent))
    → Tells waits (drops_where late (conn_with waits sent))
tells-late waits sent true drop stay = drop
tells-late waits sent false drop stay = stay

tells-watchdog : (site : WatchSite) (since : Moment) (sent : ℕ) (moment : Moment) (late : Bool)
    → Tells (ForMessage since) (if late then asks (conn_with (ForMessage since) sent) (dwr site (identifier_after sent)) (ForDwa moment) else stays (conn_with (ForMessage since) sent))
tells-watchdog site since sent moment true = refl
tells-watchdog site since sent moment false = refl

tells-tick : (site : WatchSite) (sent : ℕ) (moment : Moment) (waits : Waits) → Tells waits (on_tick site moment (conn_with waits sent) waits)
tells-tick site sent moment (ForCer since) = tells-late (ForCer since) sent (has_passed site since moment) refl refl
tells-tick site sent moment (ForCea node since) = tells-late (ForCea node since) sent (has_passed site since moment) refl refl
tells-tick site sent moment (ForMessage since) = tells-watchdog site since sent moment (has_passed site since moment)
tells-tick site sent moment (ForDwa since) = tells-late (ForDwa since) sent (has_passed site since moment) refl refl
tells-tick site sent moment (ForDpa since) = tells-late (ForDpa since) sent (has_passed site since moment) refl refl
tells-tick site sent moment (ForClose since) = tells-late (ForClose since) sent (has_passed site since moment) refl refl
tells-tick site sent moment ForNothing = refl

tells-close : (site : WatchSite) (sent : ℕ) (moment : Moment) (waits : Waits) → Tells waits (on_close site moment (conn_with waits sent) waits)
tells-close site sent moment (ForCer since) = refl
tells-close site sent moment (ForCea node since) = refl
tells-close site sent moment (ForMessage since) = refl
tells-close site sent moment (ForDwa since) = refl
tells-close site sent moment (ForDpa since) = refl
tells-close site sent moment (ForClose since) = refl
tells-close site sent moment ForNothing = refl

pub tells_where_it_parts : (site : WatchSite) (conn : Connection) (event : Event)
    → tells_leaving (effect_of site conn event).acts ≡ (is_parting (effect_of site conn event).next.waits && not (is_parting conn.waits))
tells_where_it_parts site conn (came nodes moment m) = tells-kind site nodes conn.sent moment m conn.waits (kind_of m.header)
tells_where_it_parts site conn (ticked moment) = tells-tick site conn.sent moment conn.waits
tells_where_it_parts site conn (closed moment) = tells-close site conn.sent moment conn.waits
