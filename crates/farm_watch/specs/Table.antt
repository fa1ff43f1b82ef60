-- The life of a connection as a table (RFC 6733, section 5): what a node does with a connection for each event, by what the connection waits for.
use Rattle.std.specs.Prelude.{ℕ, ◌+◌, Bool, nat_le, nat_lt, List, [], ◌∷◌, if◌then◌else◌}
use Rattle.dia_base.specs.declared.number.Moment.{Moment}
use Rattle.dia_base.specs.declared.number.NodeNo.{NodeNo}
use Rattle.dia_message.specs.declared.message.Message.{Message}
use Rattle.farm_watch.specs.Capabilities.{avps_in, greeting_to, is_success, is_up}
use Rattle.farm_watch.specs.Causes.{cause_in}
use Rattle.farm_watch.specs.Numbers.{no_common_application, success}
use Rattle.farm_watch.specs.PeerMessages.{cea, cer, dpr, dwr, kind_of, success_to}
use Rattle.farm_watch.specs.declared.acts.Act.{Act}
use Rattle.farm_watch.specs.declared.acts.Act.TheVariants.{Send, PeerUp, PeerLeaves, Pass, Drop}
use Rattle.farm_watch.specs.declared.kind.MessageKind.{MessageKind}
use Rattle.farm_watch.specs.declared.kind.MessageKind.TheVariants.{Cer, Cea, Dwr, Dwa, Dpr, Dpa, Other}
use Rattle.farm_watch.specs.declared.reading.Greeting.{Greeting}
use Rattle.farm_watch.specs.declared.reading.Greeting.TheVariants.{Unwelcome, NothingInCommon, Welcome}
use Rattle.farm_watch.specs.declared.site.Goodbyes.{Goodbyes}
use Rattle.farm_watch.specs.declared.site.Goodbyes.TheVariants.{EndAtOnce, LeaveClosing}
use Rattle.farm_watch.specs.declared.site.Side.{Side}
use Rattle.farm_watch.specs.declared.site.Side.TheVariants.{Connects, Accepts}
use Rattle.farm_watch.specs.declared.site.WatchSite.{WatchSite}
use Rattle.farm_watch.specs.declared.watch.Waits.{Waits}
use Rattle.farm_watch.specs.declared.watch.Waits.TheVariants.{ForCer, ForCea, ForMessage, ForDwa, ForDpa, ForClose, ForNothing}

-- a connection: what it waits for, and the identifier of the last request of its own that it sent, 0 before the first
pub record Connection : Type 0 where
  pub waits : Waits
  pub sent : ℕ

-- what an event does: the acts in order, and the connection then
pub record Effect : Type 0 where
  pub acts : List Act
  pub next : Connection

-- ---- words of the table

-- the identifier of the next request of its own: they are counted from 1, and after 2^31 - 1 from 1 again, so that the highest bit is never set (relays set it)
abbrev pub identifier_after : ℕ → ℕ
identifier_after sent = if nat_lt sent 2147483647 then sent + 1 else 1

-- a whole interval has passed
abbrev pub has_passed : WatchSite → Moment → Moment → Bool
has_passed site since moment = nat_le (since.0 + site.interval) moment.0

-- nothing is done
abbrev pub stays : Connection → Effect
stays conn = record { acts = []; next = conn }

abbrev pub ended : Connection → Connection
ended conn = record conn { waits = ForNothing }

abbrev pub drops : Connection → Effect
drops conn = record { acts = Drop ∷ []; next = ended conn }

-- it is sent, and then the connection ends
abbrev pub sends_and_drops : Connection → Message → Effect
sends_and_drops conn message = record { acts = Send message ∷ Drop ∷ []; next = ended conn }

abbrev pub drops_where : Bool → Connection → Effect
drops_where late conn = if late then drops conn else stays conn

-- a request of its own, for which it has this identifier, goes out, and it waits for the answer
abbrev pub asks : Connection → Message → Waits → Effect
asks conn message waits = record { acts = Send message ∷ []; next = record { waits = waits; sent = identifier_after conn.sent } }

-- a message was heard of a node that is up: whatever it is, the node lives
abbrev pub hears : List Act → Connection → Moment → Effect
hears acts conn moment = record { acts = acts; next = record conn { waits = ForMessage moment } }

-- the same where it waits for DPA: that moment stays
abbrev pub goes_on : List Act → Connection → Effect
goes_on acts conn = record { acts = acts; next = conn }

-- ---- a message (5.6)

-- what becomes of a node that has sent CER (5.3)
abbrev pub on_greeting : WatchSite → Connection → Moment → Message → Greeting → Effect
on_greeting site conn moment message Unwelcome = drops conn
on_greeting site conn moment message NothingInCommon = sends_and_drops conn (cea site no_common_application message.header)
on_greeting site conn moment message (Welcome node) = hears (Send (cea site success message.header) ∷ PeerUp node ∷ []) conn moment

-- what becomes of the node that it has sent CER to, and that has answered (5.3)
abbrev pub on_cea : List NodeNo → Connection → Moment → NodeNo → List ℕ → Effect
on_cea up conn moment node body =
    if is_up up node then drops conn else if is_success (avps_in body) then hears (PeerUp node ∷ []) conn moment else drops conn

-- A node says goodbye: it is answered, and the connection ends; or the node here is told that it leaves, and why, and the other end
-- is to close it, which the node at this end waits for from then on (5.4).
abbrev pub on_goodbye : Goodbyes → WatchSite → Connection → Moment → Message → Effect
on_goodbye EndAtOnce site conn moment message = sends_and_drops conn (success_to site message.header)
on_goodbye LeaveClosing site conn moment message = record {
  acts = Send (success_to site message.header) ∷ PeerLeaves (cause_in (avps_in message.body)) ∷ [];
  next = record conn { waits = ForClose moment };
}

abbrev pub on_kind : WatchSite → List NodeNo → Connection → Moment → Message → Waits → MessageKind → Effect
-- The side that was connected to waits for CER; any other first message ends the connection (5.3, 5.6).
on_kind site up conn moment message (ForCer since) Cer = on_greeting site conn moment message (greeting_to site up (avps_in message.body))
on_kind site up conn moment message (ForCer since) _ = drops conn
-- The side that has connected waits for CEA; any other first message ends the connection (5.3, 5.6).
on_kind site up conn moment message (ForCea node since) Cea = on_cea up conn moment node message.body
on_kind site up conn moment message (ForCea node since) _ = drops conn
-- The node at the other end is up. DWR is answered (5.5.1).
on_kind site up conn moment message (ForMessage since) Dwr = hears (Send (success_to site message.header) ∷ []) conn moment
-- DPR is answered, and the connection ends, or is to be closed by the other end (5.4).
on_kind site up conn moment message (ForMessage since) Dpr = on_goodbye site.goodbyes site conn moment message
-- DWA says that the node lives, and no more; capabilities are exchanged once (5.5.2, 5.6).
on_kind site up conn moment message (ForMessage since) Dwa = hears [] conn moment
on_kind site up conn moment message (ForMessage since) Cer = hears [] conn moment
on_kind site up conn moment message (ForMessage since) Cea = hears [] conn moment
-- All others are the node's to read.
on_kind site up conn moment message (ForMessage since) Dpa = hears (Pass message ∷ []) conn moment
on_kind site up conn moment message (ForMessage since) Other = hears (Pass message ∷ []) conn moment
-- It is the same while a DWR is not answered: any message counts as an answer (5.5).
on_kind site up conn moment message (ForDwa since) Dwr = hears (Send (success_to site message.header) ∷ []) conn moment
on_kind site up conn moment message (ForDwa since) Dpr = on_goodbye site.goodbyes site conn moment message
on_kind site up conn moment message (ForDwa since) Dwa = hears [] conn moment
on_kind site up conn moment message (ForDwa since) Cer = hears [] conn moment
on_kind site up conn moment message (ForDwa since) Cea = hears [] conn moment
on_kind site up conn moment message (ForDwa since) Dpa = hears (Pass message ∷ []) conn moment
on_kind site up conn moment message (ForDwa since) Other = hears (Pass message ∷ []) conn moment
-- DPR was sent: DPA ends the connection, and so does DPR of the other side (5.4, 5.6).
on_kind site up conn moment message (ForDpa since) Dpa = drops conn
on_kind site up conn moment message (ForDpa since) Dpr = sends_and_drops conn (success_to site message.header)
-- What was on its way is taken until then.
on_kind site up conn moment message (ForDpa since) Dwr = goes_on (Send (success_to site message.header) ∷ []) conn
on_kind site up conn moment message (ForDpa since) Dwa = stays conn
on_kind site up conn moment message (ForDpa since) Cer = stays conn
on_kind site up conn moment message (ForDpa since) Cea = stays conn
on_kind site up conn moment message (ForDpa since) Other = goes_on (Pass message ∷ []) conn
-- The other end has said goodbye, and is to close the connection (5.4). DWR is answered, and DPR again; what the node waits for is
-- taken until then.
on_kind site up conn moment message (ForClose since) Dwr = goes_on (Send (success_to site message.header) ∷ []) conn
on_kind site up conn moment message (ForClose since) Dpr = goes_on (Send (success_to site message.header) ∷ []) conn
on_kind site up conn moment message (ForClose since) Dwa = stays conn
on_kind site up conn moment message (ForClose since) Cer = stays conn
on_kind site up conn moment message (ForClose since) Cea = stays conn
on_kind site up conn moment message (ForClose since) Dpa = goes_on (Pass message ∷ []) conn
on_kind site up conn moment message (ForClose since) Other = goes_on (Pass message ∷ []) conn
-- The connection has ended.
on_kind site up conn moment message ForNothing kind = stays conn

-- a message came, where these nodes are up
abbrev pub after_message : WatchSite → List NodeNo → Moment → Message → Connection → Effect
after_message site up moment message conn = on_kind site up conn moment message conn.waits (kind_of message.header)

-- ---- a tick (5.5, 5.6)

abbrev pub on_tick : WatchSite → Moment → Connection → Waits → Effect
-- Nobody has said who it is, or answered, for an interval.
on_tick site moment conn (ForCer since) = drops_where (has_passed site since moment) conn
on_tick site moment conn (ForCea node since) = drops_where (has_passed site since moment) conn
-- Nothing was heard for an interval: DWR asks whether the other end lives (5.5.1).
on_tick site moment conn (ForMessage since) =
    if has_passed site since moment then asks conn (dwr site (identifier_after conn.sent)) (ForDwa moment) else stays conn
-- It has not answered for an interval (5.5).
on_tick site moment conn (ForDwa since) = drops_where (has_passed site since moment) conn
-- DPR was not answered for an interval (5.4).
on_tick site moment conn (ForDpa since) = drops_where (has_passed site since moment) conn
-- The other end has not closed it for an interval (5.4).
on_tick site moment conn (ForClose since) = drops_where (has_passed site since moment) conn
on_tick site moment conn ForNothing = stays conn

abbrev pub after_tick : WatchSite → Moment → Connection → Effect
after_tick site moment conn = on_tick site moment conn conn.waits

-- ---- the node wants it to end (5.4)

abbrev pub on_close : WatchSite → Moment → Connection → Waits → Effect
-- It is not up: there is nobody to tell.
on_close site moment conn (ForCer since) = drops conn
on_close site moment conn (ForCea node since) = drops conn
-- DPR tells the other end why.
on_close site moment conn (ForMessage since) = asks conn (dpr site (identifier_after conn.sent)) (ForDpa moment)
on_close site moment conn (ForDwa since) = asks conn (dpr site (identifier_after conn.sent)) (ForDpa moment)
on_close site moment conn (ForDpa since) = stays conn
-- The other end has said so before.
on_close site moment conn (ForClose since) = drops conn
on_close site moment conn ForNothing = stays conn

abbrev pub after_close : WatchSite → Moment → Connection → Effect
after_close site moment conn = on_close site moment conn conn.waits

-- ---- the beginning (5.3)

-- It was made at this moment. The side that has connected sends CER.
abbrev pub beginning : WatchSite → Moment → Side → Effect
beginning site moment Accepts = record { acts = []; next = record { waits = ForCer moment; sent = 0 } }
beginning site moment (Connects node) = record { acts = Send (cer site 1) ∷ []; next = record { waits = ForCea node moment; sent = 1 } }
