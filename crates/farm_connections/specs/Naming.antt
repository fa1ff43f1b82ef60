-- By which names nodes come up that were connected to (RFC 6733, section 5.3).
use Rattle.std.specs.Prelude.{◌≡◌, ◌&&◌, Bool, true, false, List, Option, Some, None, if◌then◌else◌}
use Rattle.dia_base.specs.declared.number.NodeNo.{NodeNo}
use Rattle.dia_message.specs.declared.message.Message.{Message}
use Rattle.farm_watch.specs.Capabilities.{avps_in, is_named, is_up}
use Rattle.farm_watch.specs.PeerMessages.{kind_of}
use Rattle.farm_watch.specs.declared.kind.MessageKind.{MessageKind}
use Rattle.farm_watch.specs.declared.kind.MessageKind.TheVariants.{Cer, Cea, Dwr, Dwa, Dpr, Dpa, Other}
use Rattle.farm_watch.specs.declared.site.WatchSite.{WatchSite}
use Rattle.farm_watch.specs.declared.watch.Waits.{Waits}
use Rattle.farm_watch.specs.declared.watch.Waits.TheVariants.{ForCer, ForCea, ForMessage, ForDwa, ForDpa, ForClose, ForNothing}
use Rattle.farm_connections.specs.declared.link.Link.{Link}
use Rattle.farm_connections.specs.declared.naming.NameRule.{NameRule}
use Rattle.farm_connections.specs.declared.naming.NameRule.TheVariants.{Any, Own}

abbrev pub is_own : NameRule → Bool
is_own Any = false
is_own Own = true

abbrev pub is_cea : MessageKind → Bool
is_cea Cer = false
is_cea Cea = true
is_cea Dwr = false
is_cea Dwa = false
is_cea Dpr = false
is_cea Dpa = false
is_cea Other = false

-- the node that was connected to, where a connection waits for its answer
abbrev pub awaited : Waits → Option NodeNo
awaited (ForCer since) = None
awaited (ForCea node since) = Some node
awaited (ForMessage since) = None
awaited (ForDwa since) = None
awaited (ForDpa since) = None
awaited (ForClose since) = None
awaited ForNothing = None

abbrev pub misnamed_by : Bool → WatchSite → Message → Option NodeNo → Option NodeNo
misnamed_by false site m awaits = None
misnamed_by true site m None = None
misnamed_by true site m (Some node) = if is_named site node (avps_in m.body) then None else Some node

-- the node that was connected to, where the message is its answer and does not name it, and it comes up by its own name alone
abbrev pub misnamed : {R W : Type 0} → Link R W → WatchSite → Message → Option NodeNo
misnamed link site m = misnamed_by (is_own link.names && is_cea (kind_of m.header)) site m (awaited link.watch.waits)

-- it is one of those that are not welcome
abbrev pub IsKeptOut : Option NodeNo → List NodeNo → Type 0
IsKeptOut None nodes = Unit {0}
IsKeptOut (Some node) nodes = is_up nodes node ≡ true
