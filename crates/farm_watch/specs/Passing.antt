-- What a node is passed of what comes on a connection (RFC 6733, sections 5 and 6): while the other end is up, each message that is
-- not of the connection's own life.
use Rattle.std.specs.Prelude.{◌==◌, ◌||◌, Bool, List, [], ◌∷◌, ◌++◌, if◌then◌else◌}
use Rattle.dia_message.specs.declared.message.Message.{Message}
use Rattle.farm_watch.specs.Life.{Event, Phase, after_end, before_up, came, closed, effect_of, ticked, while_leaving, while_up}
use Rattle.farm_watch.specs.Numbers.{capabilities_exchange, device_watchdog, disconnect_peer}
use Rattle.farm_watch.specs.Table.{Connection}
use Rattle.farm_watch.specs.declared.acts.Act.{Act}
use Rattle.farm_watch.specs.declared.acts.Act.TheVariants.{Send, PeerUp, PeerLeaves, Pass, Drop}
use Rattle.farm_watch.specs.declared.site.WatchSite.{WatchSite}

-- an exchange of capabilities (5.3), a watchdog (5.5), or a goodbye (5.4)
abbrev pub is_of_life : Message → Bool
is_of_life m = m.header.command == capabilities_exchange || (m.header.command == device_watchdog || m.header.command == disconnect_peer)

-- the message, if it is none of these
abbrev pub unless_of_life : Message → List Message
unless_of_life m = if is_of_life m then [] else m ∷ []

-- the messages that the node is passed, but those of the connection's life
abbrev pub passed : List Act → List Message
passed [] = []
passed (Send m ∷ acts) = passed acts
passed (PeerUp node ∷ acts) = passed acts
passed (PeerLeaves cause ∷ acts) = passed acts
passed (Pass m ∷ acts) = unless_of_life m ++ passed acts
passed (Drop ∷ acts) = passed acts

-- the phase of a connection behind these acts
abbrev pub phase_behind : Phase → List Act → Phase
phase_behind phase [] = phase
phase_behind phase (Send m ∷ acts) = phase_behind phase acts
phase_behind phase (PeerUp node ∷ acts) = phase_behind while_up acts
phase_behind phase (PeerLeaves cause ∷ acts) = phase_behind while_leaving acts
phase_behind phase (Pass m ∷ acts) = phase_behind phase acts
phase_behind phase (Drop ∷ acts) = after_end

-- what an event brings for the node
abbrev pub brought : Phase → Event → List Message
brought while_up (came nodes moment m) = unless_of_life m
brought while_leaving (came nodes moment m) = unless_of_life m
brought before_up (came nodes moment m) = []
brought after_end (came nodes moment m) = []
brought phase (ticked moment) = []
brought phase (closed moment) = []

-- what these events bring for the node, in their order
abbrev pub brought_by : WatchSite → Connection → Phase → List Event → List Message
brought_by site conn phase [] = []
brought_by site conn phase (event ∷ events) =
    brought phase event ++ brought_by site (effect_of site conn event).next (phase_behind phase (effect_of site conn event).acts) events
